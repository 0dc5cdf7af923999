-- `repeat_end` meets its contract. Assumes nothing.
use Rattle.cursor.proofs.Reading.{differs, no_other, idle, one_step, ◌then◌, both_not, both_read, one, two}
use Rattle.expressions.proofs.repeat_end.Goals as goal

pub returns-then-ne : goal.returns-then-ne
returns-then-ne c = both_not tt ((one_step c.take-e.ensures) then (one_step c.take-e-2.ensures)) (differs c.if-ne.ensures) then idle (differs c.if-ne.ensures)

pub returns : goal.returns
returns c = both_read (two one one) ((one_step c.take-e.ensures) then (one_step c.take-e-2.ensures)) (no_other c.if-ne.ensures) c.outside-p.ensures (c.count-p.ensures then (one_step c.take-p.ensures)) c.agree-p.ensures then c.whole.ensures
