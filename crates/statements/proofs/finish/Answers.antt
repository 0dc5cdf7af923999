-- `finish` meets its contract. Assumes nothing.
use Rattle.cursor.proofs.Reading.{same, not_same, one_free, ◌then◌, first, other}
use Rattle.statements.proofs.finish.Goals as goal

pub returns-then-eq : goal.returns-then-eq
returns-then-eq c = other ((one_free c.alone-p.ensures) then c.whole-p.ensures) (same c.if-eq.ensures) c.rewind-p.ensures c.whole.ensures

pub returns : goal.returns
returns c = first ((one_free c.alone-p.ensures) then c.whole-p.ensures) (not_same c.if-eq.ensures)
