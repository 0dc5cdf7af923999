use Rattle.cursor.specs.Read.{steps}
use Rattle.cursor.proofs.Laws.{absent, first}
use Rattle.cursor.proofs.Steps.{took}
use Rattle.cursor.proofs.Told.{same, not_same}
use Rattle.cursor.proofs.Cursor.skip.Goals as goal

pub returns-then-eq : goal.returns-then-eq
returns-then-eq c = steps (λ text T. absent (took c.advance-p.ensures) (same c.if-eq.ensures) c.rewind.ensures)

pub returns : goal.returns
returns c = steps (λ text T. first (took c.advance-p.ensures) (not_same c.if-eq.ensures))
