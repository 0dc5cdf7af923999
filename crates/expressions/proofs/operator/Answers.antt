-- `operator` meets its contract. Assumes nothing.
use native.Mathlib.Omega.{arith}
use Rattle.cursor.proofs.Reading.{above_level}
use Rattle.expressions.proofs.operator.Goals as goal

pub returns-in_default : goal.returns-in_default
returns-in_default c = above_level _ (omega (arith, c.in_default)) c.one_of-in_default.ensures
