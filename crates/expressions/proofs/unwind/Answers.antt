-- `unwind` meets its contract. Assumes nothing.
use Rattle.cursor.proofs.Reading.{unwinding_more, unwound}
use Rattle.expressions.proofs.unwind.Goals as goal

pub loop-e-preserved : goal.loop-e-preserved
loop-e-preserved c = unwinding_more _ _ _ c.loop-e.invariant c.loop-e-test.true c.of.ensures c.unary_op.ensures c.in-Some.is c.signed-q.ensures c.leave-q.ensures c.prefixed-p.ensures c.prefixed-p.auto.nodes

pub returns : goal.returns
returns c = unwound c.loop-e.invariant c.loop-e-test.false
