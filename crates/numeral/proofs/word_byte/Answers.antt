use borrow.Author.Rules.{rules}
use Rattle.numeral.proofs.Digits.{digit_byte, other_byte}
use Rattle.numeral.proofs.word_byte.Goals as goal

pub returns-then-d-lt36 : goal.returns-then-d-lt36
returns-then-d-lt36 c = search (rules, digit_byte)

pub returns-else-d-lt36 : goal.returns-else-d-lt36
returns-else-d-lt36 c = search (rules, other_byte)
