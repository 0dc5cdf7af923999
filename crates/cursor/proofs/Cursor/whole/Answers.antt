use borrow.Author.Rules.{rules}
use Rattle.cursor.proofs.Steps.{gathers, from_token, to_token}
use Rattle.cursor.proofs.Cursor.whole.Goals as goal

pub returns : goal.returns
returns c = search (rules, gathers, from_token, to_token)
