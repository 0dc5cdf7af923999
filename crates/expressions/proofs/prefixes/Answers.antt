-- `prefixes` meets its contract. Assumes nothing.
use mathlib.Core.Path.{refl}
use borrow.Author.Rules.{rules}
use Rattle.std.proofs.lemmas.Iterator.{YieldsList-from_range}
use Rattle.std.proofs.lemmas.Iterator.Search.{YieldsList-from_take_while}
use Rattle.std.proofs.lemmas.Iterator.Consumers.{count_from_yields_List}
use Rattle.tables.specs.Tables.{token_at}
use Rattle.cursor.specs.Steps.{is_prefix}
use Rattle.cursor.proofs.Reading.{counted}
use Rattle.expressions.proofs.prefixes.Goals as goal

pub returns : goal.returns
returns c =
    let t = c.take_while.ensures in
    counted _ _ c.room.ensures (count_from_yields_List _ _ c.count.ensures.ran (YieldsList-from_take_while _ (λ i. is_prefix (token_at c.args.source.now.tokens.now i).kind) (YieldsList-from_range _ _ _ t.source refl) t.closure t.done (λ x b q k. search rules)))
