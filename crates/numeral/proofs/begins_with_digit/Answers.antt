use Rattle.numeral.proofs.Digits.{digit_first}
use Rattle.numeral.proofs.Entries.{no_head}
use Rattle.numeral.proofs.begins_with_digit.Goals as goal

pub returns-in-empty : goal.returns-in-empty
returns-in-empty c = no_head _ c.in-empty.len_below

pub returns-in-len1-up : goal.returns-in-len1-up
returns-in-len1-up c = digit_first _ _ (c.type_inv.s 0).fits c.digit_of.ensures
