-- What a numeral's spelling says: its value, its suffix and its base, or why it has none. After lexer.rs's `parse_number_literal`. Assumes nothing.
use Rattle.std.specs.Prelude.{Bool, cond, ◌&&◌, List, [], ◌∷◌, ℕ, zero, suc, ◌+◌, ◌-◌, ◌*◌, min, ltb, eqb, length, take, drop, get_or, Result, Ok, Err}
use Prim.Native.Char.{code}
use Rattle.patterns.specs.Bytes.{bytes, within, in_set, either, run, starts, same}
use Rattle.numeral.specs.declared.Base.{Base}
use Rattle.numeral.specs.declared.NumberLiteral.{NumberLiteral}
use Rattle.numeral.specs.declared.NumberParseError.{NumberParseError}
use Rattle.tables.specs.declared.entry_codes.Suffix.{Suffix}

-- the largest value: above it is an overflow
abbrev pub most : ℕ
most = 18446744073709551615

-- the number of a base
abbrev pub base_code : Base → ℕ
base_code Base.Binary = 2
base_code Base.Octal = 8
base_code Base.Decimal = 10
base_code Base.Hexadecimal = 16

-- a leading 0x, 0o or 0b (either case) sets the base, else base 10
unfoldable pub base_in : List ℕ → Base
base_in s =
    let b = get_or s 1 0 in
    cond (eqb (get_or s 0 0) (code "0"))
    (cond (in_set (either "x" "X") b) Base.Hexadecimal
    (cond (in_set (either "o" "O") b) Base.Octal (cond (in_set (either "b" "B") b) Base.Binary Base.Decimal)))
    Base.Decimal

-- its number
abbrev pub base_of : List ℕ → ℕ
base_of s = base_code (base_in s)

-- a digit's value, the letters in either case from 10 on; 36 for a byte that is no digit
unfoldable pub digit_of : ℕ → ℕ
digit_of b =
    cond (within (code "0") (code "9") b) (b - code "0")
    (cond (within (code "a") (code "z") b) (b - code "a" + 10) (cond (within (code "A") (code "Z") b) (b - code "A" + 10) 36))

-- a digit of the base
unfoldable pub digit_in : ℕ → ℕ → Bool
unfolding digit_of
digit_in base b = ltb (digit_of b) base

-- the last occurrence of w in s at a place below k; the end of s if there is none
unfoldable pub last_below : List ℕ → List ℕ → ℕ → ℕ
unfolding starts
last_below w s zero = length s
last_below w s (suc k) = cond (starts w (drop k s)) k (last_below w s k)

-- for each of `felt`, `u32` find its last occurrence in the rest
unfoldable pub last_of : List ℕ → List ℕ → ℕ
unfolding last_below
last_of w s = last_below w s (length s)

-- if that is past the first byte and ends the rest, it is a cut; else the cut is the rest's end: for a word of m bytes, last at k, in n bytes
unfoldable pub cut_at : ℕ → ℕ → ℕ → ℕ
cut_at k m n = cond (ltb 0 k && eqb (n - k) m) k n

-- the cut that a word makes
unfoldable pub cut_by : List ℕ → List ℕ → ℕ
unfolding last_of cut_at
cut_by w s = cut_at (last_of w s) (length w) (length s)

-- the smaller cut counts; if neither word occurs, the cut is before the first non-digit of the base, or the end
unfoldable pub cut_of : ℕ → List ℕ → ℕ
unfolding last_of cut_by run digit_in
cut_of base s =
    cond (eqb (last_of (bytes "felt") s) (length s) && eqb (last_of (bytes "u32") s) (length s))
    (run (digit_in base) s)
    (min (cut_by (bytes "felt") s) (cut_by (bytes "u32") s))

-- what stands from the cut on
unfoldable pub suffix_kind : List ℕ → Suffix
unfolding same
suffix_kind s = cond (eqb (length s) 0) Suffix.Absent (cond (same (bytes "felt") s) Suffix.Felt (cond (same (bytes "u32") s) Suffix.U32 Suffix.Other))

-- digits are read left to right, here after the value v and with the suffix x: a non-digit is a format error; else a value above 18446744073709551615 is an overflow
unfoldable pub reading : Base → Suffix → ℕ → List ℕ → Result NumberLiteral NumberParseError
unfolding digit_in digit_of
reading base x v [] = Ok (record { value = v; suffix = x; base = base })
reading base x v (b ∷ s) =
    cond (digit_in (base_code base) b)
    (cond (ltb most (v * base_code base + digit_of b)) (Err NumberParseError.Overflow) (reading base x (v * base_code base + digit_of b) s))
    (Err NumberParseError.InvalidFormat)

-- nothing before the cut k: format error; a suffix that begins with a digit: format error; then the digits
unfoldable pub read_to : Base → ℕ → List ℕ → Result NumberLiteral NumberParseError
unfolding reading suffix_kind digit_in digit_of
read_to base k s =
    cond (eqb k 0) (Err NumberParseError.InvalidFormat)
    (cond (digit_in 10 (get_or s k 0)) (Err NumberParseError.InvalidFormat) (reading base (suffix_kind (drop k s)) 0 (take k s)))

-- what the rest says, in its base
unfoldable pub rest_of : Base → List ℕ → Result NumberLiteral NumberParseError
unfolding read_to cut_of
rest_of base s = read_to base (cut_of (base_code base) s) s

-- a leading 0x, 0o or 0b is dropped
unfoldable pub numeral_of : List ℕ → Result NumberLiteral NumberParseError
unfolding rest_of base_in
numeral_of s = rest_of (base_in s) (cond (eqb (base_of s) 10) s (drop 2 s))
