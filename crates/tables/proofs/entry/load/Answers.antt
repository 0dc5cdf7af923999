use borrow.Author.Rules.{rules}
use Rattle.tables.proofs.Entries.{entry_loaded}
use Rattle.tables.proofs.entry.load.Goals as goal

pub returns : goal.returns
returns g c = search (rules, entry_loaded)
