-- `returned` meets its contract. Assumes nothing.
use Rattle.cursor.proofs.Reading.{same, not_same, first, absent}
use Rattle.statements.proofs.returned.Goals as goal

pub returns-then-eq : goal.returns-then-eq
returns-then-eq c = absent c.expr-p.ensures (same c.if-eq.ensures) c.rewind.ensures

pub returns : goal.returns
returns c = first c.expr-p.ensures (not_same c.if-eq.ensures)
