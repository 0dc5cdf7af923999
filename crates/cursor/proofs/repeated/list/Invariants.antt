-- What the loop of `list` keeps, and its measure. Assumes nothing.
use Rattle.cursor.proofs.Reading.{size, Listing}
use Rattle.cursor.proofs.repeated.list.Given as goal

abbrev pub invariant-loop-nodes : goal.invariant-loop-nodes
invariant-loop-nodes g l = Listing l.source.text.now l.source.tokens.now g.T.Repeated.grammar l.initial.p l.initial.nodes l.p l.nodes

abbrev pub decreases-loop-nodes : goal.decreases-loop-nodes
decreases-loop-nodes g l = size l.source.tokens.now l.p 0
