-- The numeral entry's answer. Assumes nothing.
use Rattle.std.specs.Prelude.{◌≡◌, List, ℕ, ◌≤◌, ◌<◌, length, Result, Ok, Err}
use Rattle.tables.specs.declared.entry_codes.Reason.{Reason}
use Rattle.numeral.specs.Spelling.{Spelling}
use Rattle.numeral.specs.Numeral.{numeral_of}
use Rattle.numeral.specs.declared.NumberLiteral.{NumberLiteral}
use Rattle.numeral.specs.declared.NumberParseError.{NumberParseError}
use Rattle.numeral.specs.declared.NumeralError.{NumeralError}

-- the outcomes of the numeral entry, in their order
pub data AnswerIs (s : List ℕ) : Result NumberLiteral NumeralError → Type 0 where
  long : 65535 < length s → AnswerIs s (Err NumeralError.Long)
  spelling : length s ≤ 65535 → (Spelling s → ⊥) → AnswerIs s (Err NumeralError.Spelling)
  lexical : {e : NumberParseError} → length s ≤ 65535 → Spelling s → numeral_of s ≡ Err e → AnswerIs s (Err (NumeralError.Lexical e))
  number : {n : NumberLiteral} → length s ≤ 65535 → Spelling s → numeral_of s ≡ Ok n → AnswerIs s (Ok n)

-- the reason that a diagnostic tells
abbrev pub reason_of : NumberParseError → Reason
reason_of NumberParseError.Overflow = Reason.Overflow
reason_of NumberParseError.InvalidFormat = Reason.Format
