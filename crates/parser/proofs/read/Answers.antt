-- `read` meets its contract. Assumes nothing.
use borrow.Author.Rules.{rules}
use Rattle.cursor.proofs.Laws.{reads_as}
use Rattle.parser.proofs.read.Goals as goal

pub returns : goal.returns
returns c = search (rules, reads_as)
