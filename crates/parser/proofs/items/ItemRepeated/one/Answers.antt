-- One item more meets its contract. Assumes nothing.
use Rattle.cursor.proofs.Reading.{refl, idle, differs, no_other, by_part, as_deep}
use Rattle.grammar.specs.Derive as G
use Rattle.parser.proofs.items.ItemRepeated.one.Goals as goal

pub returns-then-ne : goal.returns-then-ne
returns-then-ne c = idle (differs c.if-ne.ensures)

pub returns : goal.returns
returns c = by_part G.item (as_deep refl) (no_other c.if-ne.ensures) c.item_at-q.ensures c.join.ensures
