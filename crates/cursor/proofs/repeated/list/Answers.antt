-- `list` meets its contract. Assumes nothing.
use Rattle.cursor.proofs.Reading.{refl, arith, same, not_same, of_kind, not_of_kind, on, on_step, ◌and_on◌, further, listing_next, listing_none, listing_miss, listing_off}
use Rattle.cursor.proofs.Falls.{sane_of, weaken}
use Rattle.cursor.proofs.repeated.list.Goals as goal

pub returns-then-eq : goal.returns-then-eq
returns-then-eq g c = listing_none c.loop-nodes.invariant (same c.loop-nodes-test.ensures) c.one-q.ensures (same c.if-eq.ensures) c.rewind.ensures

pub returns-then-not-is : goal.returns-then-not-is
returns-then-not-is g c = listing_miss (sane_of g.T.Repeated.grammar g.met.T.Repeated.takes) c.loop-nodes.invariant c.one-q.ensures (not_same c.if-eq.ensures) c.one-q.auto.nodes c.peek-k.ensures (not_of_kind c.if-not-is.ensures)

pub loop-nodes-smaller : goal.loop-nodes-smaller
loop-nodes-smaller g c = further 0 0 refl (same c.loop-nodes-test.ensures) (weaken (on c.one-q.ensures) and_on on_step c.take-p.ensures) tt (omega arith)

pub loop-nodes-preserved : goal.loop-nodes-preserved
loop-nodes-preserved g c = listing_next c.loop-nodes.invariant c.one-q.ensures (not_same c.if-eq.ensures) c.one-q.auto.nodes c.peek-k.ensures (of_kind c.if-not-is.ensures) c.take-p.ensures

pub returns : goal.returns
returns g c = listing_off c.loop-nodes.invariant (not_same c.loop-nodes-test.ensures)
