use borrow.Author.Rules.{rules}
use Rattle.cursor.specs.Read.{grown}
use Rattle.cursor.proofs.Cursors.{near}
use Rattle.cursor.proofs.Steps.{gathers}
use Rattle.cursor.proofs.Cursor.spanless.Goals as goal

pub returns : goal.returns
returns c = search (rules, grown, gathers, near)
