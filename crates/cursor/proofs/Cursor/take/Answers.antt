use borrow.Author.Rules.{rules}
use Rattle.cursor.specs.Read.{steps}
use Rattle.cursor.proofs.Steps.{took}
use Rattle.cursor.proofs.Cursor.take.Goals as goal

pub returns : goal.returns
returns c = search (rules, steps, took)
