-- The worked numerals of the paper, and the readings that were settled. Assumes nothing.
use mathlib.Core.Path.{◌≡◌, refl}
use mathlib.Core.List.{List, [], ◌∷◌, ◌++◌, map}
use Prim.Native.Nat.{ℕ}
use Prim.Native.String.{String}
use Rattle.patterns.specs.Bytes.{bytes, run, starts, same}
use Rattle.numeral.specs.declared.Base.{Base}
use Rattle.numeral.specs.declared.NumberLiteral.{NumberLiteral}
use Rattle.numeral.specs.declared.NumberParseError.{NumberParseError}
use Rattle.tables.specs.declared.entry_codes.Suffix.{Suffix}
use Rattle.std.proofs.Common.{Result, Ok, Err}
use Rattle.numeral.specs.Numeral.{base_in, digit_of, digit_in, last_below, last_of, cut_at, cut_by, cut_of, suffix_kind, reading, read_to, rest_of, numeral_of}

abbrev pub Reading : Type 0
Reading = Result NumberLiteral NumberParseError

abbrev is : ℕ → Suffix → Base → Reading
is v x b = Ok (record { value = v; suffix = x; base = b })

-- the paper's own
abbrev pub worked : List (String × Reading)
worked =
    ("0x1felt", is 1 Suffix.Felt Base.Hexadecimal)
    ∷ ("0b12", Err NumberParseError.InvalidFormat)
    ∷ ("0x", Err NumberParseError.InvalidFormat)
    ∷ ("12u32x", Err NumberParseError.InvalidFormat)
    ∷ ("18446744073709551615", is 18446744073709551615 Suffix.Absent Base.Decimal)
    ∷ ("18446744073709551616", Err NumberParseError.Overflow)
    ∷ ("99999999999999999999felt2", Err NumberParseError.Overflow)
    ∷ ("1felt2", Err NumberParseError.InvalidFormat)
    ∷ ("12u8", is 12 Suffix.Other Base.Decimal)
    ∷ []

-- the readings that were settled
abbrev pub settled : List (String × Reading)
settled =
    ("1x", is 1 Suffix.Other Base.Decimal)
    ∷ ("0_felt", Err NumberParseError.InvalidFormat)
    ∷ ("0_x", is 0 Suffix.Other Base.Decimal)
    ∷ ("1_0", is 1 Suffix.Other Base.Decimal)
    ∷ ("1_u32", Err NumberParseError.InvalidFormat)
    ∷ ("12u32felt", Err NumberParseError.InvalidFormat)
    ∷ ("1u32u32", Err NumberParseError.InvalidFormat)
    ∷ ("0xfelt", Err NumberParseError.InvalidFormat)
    ∷ ("0b2", Err NumberParseError.InvalidFormat)
    ∷ ("99999999999999999999x", Err NumberParseError.Overflow)
    ∷ ("0XfF", is 255 Suffix.Absent Base.Hexadecimal)
    ∷ ("12u32", is 12 Suffix.U32 Base.Decimal)
    ∷ ("0o17", is 15 Suffix.Absent Base.Octal)
    ∷ ("0B101felt", is 5 Suffix.Felt Base.Binary)
    ∷ []

pub readings : map (λ p. numeral_of (bytes p.0)) (worked ++ settled) ≡ map (λ p. p.1) (worked ++ settled)
unfolding numeral_of rest_of read_to reading suffix_kind cut_of cut_by cut_at last_of last_below digit_in digit_of base_in run starts same
readings = refl
