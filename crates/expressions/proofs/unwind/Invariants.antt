-- What the loops of `unwind` keep, and its measures. Assumes nothing.
use Rattle.cursor.proofs.Reading.{Unwinding}
use Rattle.expressions.proofs.unwind.Given as goal

abbrev pub invariant-loop-e : goal.invariant-loop-e
invariant-loop-e l = Unwinding l.source.text.now l.source.tokens.now l.start l.initial.e l.initial.p l.initial.nodes l.e l.p l.nodes

abbrev pub decreases-loop-e : goal.decreases-loop-e
decreases-loop-e l = l.e
