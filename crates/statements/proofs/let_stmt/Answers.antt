-- `let_stmt` meets its contract. Assumes nothing.
use Rattle.cursor.proofs.Reading.{one_step, ◌then◌}
use Rattle.statements.proofs.let_stmt.Goals as goal

pub returns : goal.returns
returns c = (one_step c.take-p.ensures) then c.pattern-p.ensures then c.value.ensures
