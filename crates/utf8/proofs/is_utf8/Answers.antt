use borrow.Author.Rules.{rules}
use Rattle.utf8.proofs.Laws.{left_more, left_end}
use Rattle.utf8.proofs.is_utf8.Goals as goal

pub loop-n-preserved : goal.loop-n-preserved
loop-n-preserved c = search (rules, left_more)

pub returns : goal.returns
returns c = search (rules, left_end)
