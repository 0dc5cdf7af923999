use borrow.Author.Rules.{rules}
use Rattle.numeral.proofs.Digits.{small_fits, over_is}
use Rattle.numeral.proofs.overflows.Goals as goal

pub returns-then-v-lt-SMALL : goal.returns-then-v-lt-SMALL
returns-then-v-lt-SMALL c = search (rules, small_fits)

pub returns : goal.returns
returns c = search (rules, over_is)
