use mathlib.Core.Path.{ap}
use native.Mathlib.Omega.{arith}
use borrow.Author.Rules.{rules}
use Rattle.tables.specs.Tables.{Token}
use Rattle.cursor.specs.Steps.{emitted}
use Rattle.cursor.proofs.Steps.{stopped, leaves}
use Rattle.cursor.proofs.Told.{differs, no_other}
use Rattle.cursor.proofs.Cursor.emit.Goals as goal

pub returns-then-ne : goal.returns-then-ne
returns-then-ne c = emitted (λ text a u h. stopped c.advance-p.ensures (differs c.if-ne.ensures))

pub returns : goal.returns
returns c = emitted (λ text a. leaves
    c.advance-p.ensures
    (no_other c.if-ne.ensures)
    (ap (λ (t : Token). t.start) c.at-token.ensures)
    (ap (λ (t : Token). t.end) c.at-token.ensures)
    (omega (arith, c.well_formed, c.ranges, c.at-token.type_inv))
    (rw (c.part.ensures, c.saturating_add.ensures))
    (search rules))
