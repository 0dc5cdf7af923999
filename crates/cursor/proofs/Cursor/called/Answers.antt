use borrow.Author.Rules.{rules}
use Rattle.cursor.specs.Read.{grown}
use Rattle.cursor.proofs.Steps.{gathers, from_part, to_callee, to_argument}
use Rattle.cursor.proofs.Cursor.called.Goals as goal

pub returns-then-self-eq1 : goal.returns-then-self-eq1
returns-then-self-eq1 c = search (rules, grown, gathers, from_part, to_callee)

pub returns : goal.returns
returns c = search (rules, grown, gathers, from_part, to_argument)
