-- `array_size` meets its contract. Assumes nothing.
use Rattle.cursor.proofs.Reading.{differs, no_other, both_not, both_read, one}
use Rattle.statements.proofs.types.array_size.Goals as goal

pub returns-then-ne : goal.returns-then-ne
returns-then-ne c = both_not tt c.expr-e.ensures (differs c.if-ne.ensures)

pub returns : goal.returns
returns c = both_read one c.expr-e.ensures (no_other c.if-ne.ensures) c.outside-p.ensures c.count-p.ensures c.agree.ensures
