use borrow.Author.Rules.{rules}
use Rattle.numeral.specs.Numeral.{base_in}
use Rattle.numeral.proofs.Bases.{base_letter, base_none}
use Rattle.numeral.proofs.base_after_zero.Goals as goal

pub returns-in-120 : goal.returns-in-120
unfolding base_in
returns-in-120 c = search (rules, base_letter)

pub returns-in-111 : goal.returns-in-111
unfolding base_in
returns-in-111 c = search (rules, base_letter)

pub returns-in-98 : goal.returns-in-98
unfolding base_in
returns-in-98 c = search (rules, base_letter)

pub returns-in_default : goal.returns-in_default
returns-in_default c = search (rules, base_none)
