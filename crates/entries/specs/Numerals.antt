-- The numbers of the numeral entry's answer. Assumes nothing.
use Rattle.std.specs.Prelude.{◌≡◌, List, ℕ, Result, Ok, Err}
use Rattle.tables.specs.Codes.{suffix_code, reason_code}
use Rattle.numeral.specs.Numeral.{base_code}
use Rattle.numeral.specs.Entry.{AnswerIs, reason_of as lexical_reason}
use Rattle.numeral.specs.declared.NumberLiteral.{NumberLiteral}
use Rattle.numeral.specs.declared.NumeralError.{NumeralError}

-- the outcomes' numbers
abbrev pub outcome_of : Result NumberLiteral NumeralError → ℕ
outcome_of (Ok n) = 0
outcome_of (Err NumeralError.Long) = 1
outcome_of (Err NumeralError.Spelling) = 9
outcome_of (Err (NumeralError.Lexical e)) = 3

-- value, suffix and base; refused, all are 0
abbrev pub numbers_of : Result NumberLiteral NumeralError → ℕ × ℕ × ℕ
numbers_of (Ok n) = (n.value, suffix_code n.suffix, base_code n.base)
numbers_of (Err e) = (0, 0, 0)

-- for 3, the reason; else 0
abbrev pub reason_of : Result NumberLiteral NumeralError → ℕ
reason_of (Ok n) = 0
reason_of (Err NumeralError.Long) = 0
reason_of (Err NumeralError.Spelling) = 0
reason_of (Err (NumeralError.Lexical e)) = reason_code (lexical_reason e)

-- the numeral entry answers outcome, value, suffix, base and, for 3, the reason
pub record NumeralIs (s : List ℕ) (outcome value suffix base reason : ℕ) : Type 0 where
  pub answer : Result NumberLiteral NumeralError
  pub is : AnswerIs s answer
  pub outcome_is : outcome ≡ outcome_of answer
  pub value_is : value ≡ (numbers_of answer).0
  pub suffix_is : suffix ≡ (numbers_of answer).1
  pub base_is : base ≡ (numbers_of answer).2
  pub reason_is : reason ≡ reason_of answer
