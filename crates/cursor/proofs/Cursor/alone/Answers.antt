use borrow.Author.Rules.{rules}
use Rattle.cursor.specs.Read.{free}
use Rattle.cursor.proofs.Steps.{is_alone, not_alone}
use Rattle.cursor.proofs.Cursor.alone.Goals as goal

pub returns-then-self-eq1 : goal.returns-then-self-eq1
returns-then-self-eq1 c = search (rules, free, is_alone)

pub returns : goal.returns
returns c = search (rules, free, not_alone)
