use borrow.Author.Rules.{rules}
use Rattle.cursor.specs.Read.{grown}
use Rattle.cursor.proofs.Steps.{gathers, from_part, to_part}
use Rattle.cursor.proofs.Cursor.operands.Goals as goal

pub returns : goal.returns
returns c = search (rules, grown, gathers, from_part, to_part)
