use borrow.Author.Rules.{rules}
use Rattle.cursor.proofs.Steps.{token_after}
use Rattle.cursor.proofs.Cursor.second.Goals as goal

pub returns : goal.returns
returns c = search (rules, token_after)
