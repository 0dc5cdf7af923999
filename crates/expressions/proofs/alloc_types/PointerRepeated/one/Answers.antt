-- One pointer more meets its contract. Assumes nothing.
use Rattle.cursor.proofs.Reading.{one_step, ◌then◌}
use Rattle.expressions.proofs.alloc_types.PointerRepeated.one.Goals as goal

pub returns : goal.returns
returns c = (one_step c.take-p.ensures) then c.suffixed.ensures
