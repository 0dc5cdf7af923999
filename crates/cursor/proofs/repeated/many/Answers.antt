-- `many` meets its contract. Assumes nothing.
use Rattle.cursor.proofs.Reading.{refl, ◌∙◌, arith, same, not_same, on, further, rounds_next, rounds_end, rounds_off}
use Rattle.cursor.proofs.repeated.many.Goals as goal

pub returns-then-eq : goal.returns-then-eq
returns-then-eq g c = rounds_end c.loop-nodes.invariant (same c.loop-nodes-test.ensures) c.one-q.ensures (same c.if-eq.ensures) c.rewind.ensures

pub loop-nodes-smaller : goal.loop-nodes-smaller
loop-nodes-smaller g c = further 0 0 refl (same c.loop-nodes-test.ensures) (on c.one-q.ensures) g.met.T.Repeated.takes (omega arith)

pub loop-nodes-preserved : goal.loop-nodes-preserved
loop-nodes-preserved g c = rounds_next c.loop-nodes.invariant c.one-q.ensures (not_same c.if-eq.ensures) (c.one-q.auto.nodes ∙ c.loop-nodes.invariant.kept)

pub returns : goal.returns
returns g c = rounds_off c.loop-nodes.invariant (not_same c.loop-nodes-test.ensures)
