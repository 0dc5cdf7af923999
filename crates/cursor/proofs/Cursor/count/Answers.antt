use mathlib.Core.Path.{ap}
use borrow.Author.Tests.{ne_eqb}
use Rattle.tables.specs.Tables.{Token}
use Rattle.cursor.proofs.Laws.{one_step}
use Rattle.cursor.proofs.Steps.{emits, turned_down}
use Rattle.cursor.proofs.Cursor.count.Goals as goal

pub returns-then-token : goal.returns-then-token
returns-then-token c =
    let e = c.at-token.ensures in
    turned_down (λ s. rw (← ap (λ (t : Token). t.suffix) e, ne_eqb _ _ c.if-token.true)) (one_step c.take.ensures) c.halt.ensures

pub returns : goal.returns
returns c =
    let e = c.at-token.ensures in
    emits (λ s. s.unknown) (λ s. rw (ap (λ (t : Token). t.value) e, ap (λ (t : Token). t.base) e, ← ap (λ (t : Token). t.suffix) e, c.if-token.false)) c.emit.ensures
