-- `use_stmt` meets its contract. Assumes nothing.
use Rattle.cursor.proofs.Reading.{same, not_same, one_step, ◌then◌, first, other}
use Rattle.parser.proofs.items.use_stmt.Goals as goal

pub returns-then-eq : goal.returns-then-eq
returns-then-eq c = (one_step c.take-p.ensures) then other c.single-q.ensures (same c.if-eq.ensures) c.rewind-p.ensures c.use_list.ensures

pub returns : goal.returns
returns c = (one_step c.take-p.ensures) then first c.single-q.ensures (not_same c.if-eq.ensures)
