use mathlib.Core.Path.{refl}
use Rattle.cursor.proofs.Steps.{emits}
use Rattle.cursor.proofs.Cursor.leaf.Goals as goal

pub returns : goal.returns
returns c = emits (λ s. s.unknown) (λ s. refl) c.emit.ensures
