-- `value` meets its contract. Assumes nothing.
use Rattle.cursor.proofs.Reading.{one_step, ◌then◌}
use Rattle.statements.proofs.value.Goals as goal

pub returns : goal.returns
returns c = c.typed-p.ensures then (one_step c.take-p.ensures) then c.expr-p.ensures then (one_step c.take-p-2.ensures) then c.whole.ensures
