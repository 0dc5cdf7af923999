use borrow.Author.Rules.{rules}
use Rattle.numeral.proofs.Windows.{felt_ends, u32_ends, none_ends}
use Rattle.numeral.proofs.word_at.Goals as goal

pub returns-then-last-eq-FELT : goal.returns-then-last-eq-FELT
returns-then-last-eq-FELT c = search (rules, felt_ends)

pub returns-then-last-eq-U32 : goal.returns-then-last-eq-U32
returns-then-last-eq-U32 c = search (rules, u32_ends)

pub returns : goal.returns
returns c = search (rules, none_ends)
