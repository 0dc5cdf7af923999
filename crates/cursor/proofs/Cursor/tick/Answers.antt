use Rattle.cursor.specs.Read.{free}
use Rattle.cursor.proofs.Steps.{ticks}
use Rattle.cursor.proofs.Told.{no_other}
use Rattle.cursor.proofs.Cursor.tick.Goals as goal

pub returns : goal.returns
returns c = free (λ text w T. ticks (no_other c.if-ne.ensures) c.saturating_add.ensures)
