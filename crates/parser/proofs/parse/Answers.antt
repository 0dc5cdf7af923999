-- `parse` meets its contract. Assumes nothing.
use mathlib.Core.Path.{refl}
use borrow.Author.Rules.{rules}
use Rattle.cursor.proofs.Told.{differs, no_other}
use Rattle.parser.proofs.Finish.{too_deep, rejected, accepted}
use Rattle.parser.proofs.parse.Goals as goal
use Rattle.cursor.specs.declared.Status.TheVariants.{Reading}

pub returns-then-ne : goal.returns-then-ne
returns-then-ne c = too_deep c.read-p.ensures (differs {b = Reading} c.if-ne.ensures) (c.fill.ensures.after (λ y e. e)) c.read-p.auto.nodes refl

pub returns-then-p-room : goal.returns-then-p-room
returns-then-p-room c = rejected c.read-p.ensures (no_other {b = Reading} c.if-ne.ensures) c.room.ensures (search rules) (c.fill-then-p-room.ensures.after (λ y e. e)) c.read-p.auto.nodes c.reached.ensures refl

pub returns : goal.returns
returns c = search (rules, accepted, no_other {b = Reading} c.if-ne.ensures)
