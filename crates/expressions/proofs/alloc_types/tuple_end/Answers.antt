-- `tuple_end` meets its contract. Assumes nothing.
use Rattle.cursor.proofs.Reading.{same, not_same, of_kind, not_of_kind, one_step, one_free, ◌then◌, first, other, only, pass}
use Rattle.expressions.proofs.alloc_types.tuple_end.Goals as goal

pub returns-then-is : goal.returns-then-is
returns-then-is c = only c.peek-k.ensures (of_kind c.if-is.ensures) tt ((one_step c.take-p.ensures) then (one_step c.take-p-then-is.ensures) then c.whole.ensures)

pub returns-then-eq : goal.returns-then-eq
returns-then-eq c = pass c.peek-k.ensures ((not_of_kind c.if-is.ensures), tt) tt ((one_step c.take-p-2.ensures) then other (one_free c.alone-q.ensures) (same c.if-eq.ensures) c.rewind-p.ensures c.whole-then-eq.ensures)

pub returns : goal.returns
returns c = pass c.peek-k.ensures ((not_of_kind c.if-is.ensures), tt) tt ((one_step c.take-p-2.ensures) then first (one_free c.alone-q.ensures) (not_same c.if-eq.ensures))
