-- `return_type` meets its contract. Assumes nothing.
use Rattle.cursor.proofs.Reading.{same, not_same, one_grown, one_step, ◌then◌, first, other}
use Rattle.parser.proofs.items.return_type.Goals as goal

pub returns-then-eq : goal.returns-then-eq
returns-then-eq c = other ((one_step c.take-p.ensures) then c.type_expr-p.ensures) (same c.if-eq.ensures) c.rewind-p.ensures (one_grown c.unit_type.ensures)

pub returns : goal.returns
returns c = first ((one_step c.take-p.ensures) then c.type_expr-p.ensures) (not_same c.if-eq.ensures)
