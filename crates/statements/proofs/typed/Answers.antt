-- `typed` meets its contract. Assumes nothing.
use Rattle.cursor.proofs.Reading.{same, not_same, not_of_kind, one_step, one_free, ◌then◌, first, absent, pass, nothing}
use Rattle.statements.proofs.typed.Goals as goal

pub returns-then-not-is : goal.returns-then-not-is
returns-then-not-is c = pass c.peek-k.ensures ((not_of_kind c.if-not-is.ensures), tt) tt nothing

pub returns-then-eq : goal.returns-then-eq
returns-then-eq c = absent ((one_step c.take-p.ensures) then c.type_expr-p.ensures then (one_free c.tick-p.ensures)) (same c.if-eq.ensures) c.rewind.ensures

pub returns : goal.returns
returns c = first ((one_step c.take-p.ensures) then c.type_expr-p.ensures then (one_free c.tick-p.ensures)) (not_same c.if-eq.ensures)
