-- What the loop of `many` keeps, and its measure. Assumes nothing.
use Rattle.cursor.proofs.Reading.{size, Looping}
use Rattle.cursor.proofs.repeated.many.Given as goal

abbrev pub invariant-loop-nodes : goal.invariant-loop-nodes
invariant-loop-nodes g l = Looping l.source.text.now l.source.tokens.now g.T.Repeated.grammar l.initial.p l.initial.nodes l.p l.nodes

abbrev pub decreases-loop-nodes : goal.decreases-loop-nodes
decreases-loop-nodes g l = size l.source.tokens.now l.p 0
