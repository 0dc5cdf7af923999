-- One cast more meets its contract. Assumes nothing.
use Rattle.cursor.proofs.Reading.{one_step, one_grown, named, ◌then◌}
use Rattle.expressions.proofs.CastRepeated.one.Goals as goal

pub returns : goal.returns
returns c = (one_step c.take-p.ensures) then named _ c.type_name-name.ensures c.leaf-p.ensures then (one_grown c.operands.ensures)
