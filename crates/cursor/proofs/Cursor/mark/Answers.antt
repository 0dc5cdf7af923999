use Rattle.cursor.specs.Read.{steps}
use Rattle.cursor.proofs.Steps.{stopped, marks}
use Rattle.cursor.proofs.Told.{differs, no_other}
use Rattle.cursor.proofs.Cursor.mark.Goals as goal

pub returns-then-ne : goal.returns-then-ne
returns-then-ne c = steps (λ text T. stopped c.advance-p.ensures (differs c.if-ne.ensures))

pub returns : goal.returns
returns c = steps (λ text T. marks c.advance-p.ensures (no_other c.if-ne.ensures))
