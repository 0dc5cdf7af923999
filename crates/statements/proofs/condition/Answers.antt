-- `condition` meets its contract. Assumes nothing.
use Rattle.cursor.proofs.Reading.{same, not_same, one_step, ◌then◌, first, other}
use Rattle.statements.proofs.condition.Goals as goal

pub returns-then-eq : goal.returns-then-eq
returns-then-eq c = other ((one_step c.take-p.ensures) then c.expr-p.ensures then (one_step c.take-p-2.ensures)) (same c.if-eq.ensures) c.rewind-p.ensures c.expr.ensures

pub returns : goal.returns
returns c = first ((one_step c.take-p.ensures) then c.expr-p.ensures then (one_step c.take-p-2.ensures)) (not_same c.if-eq.ensures)
