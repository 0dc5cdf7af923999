-- `assignment_or_expr` meets its contract. Assumes nothing.
use Rattle.cursor.proofs.Reading.{one_step, ◌then◌}
use Rattle.statements.proofs.assignment_or_expr.Goals as goal

pub returns : goal.returns
returns c = c.expr-p.ensures then c.assigned-p.ensures then (one_step c.take-p.ensures) then c.finish.ensures
