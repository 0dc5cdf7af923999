-- What the loops of the cycle of readers `types` keep, and its measures. Assumes nothing.
use Rattle.cursor.proofs.Reading.{size, Looping}
use Rattle.cursor.specs.Read.{begun}
use Rattle.grammar.specs.Derive as G
use Rattle.grammar.specs.Grammar as L
use Rattle.statements.proofs.types.+types.Given as goal

abbrev pub decreases-array_type : goal.decreases-array_type
decreases-array_type l = size l.source.now.tokens.now l.cursor 2

abbrev pub decreases-base_type : goal.decreases-base_type
decreases-base_type l = size l.source.now.tokens.now l.cursor 3

abbrev pub decreases-type_at : goal.decreases-type_at
decreases-type_at l = size l.source.now.tokens.now (begun l.at l.count l.nest l.furthest) 4

abbrev pub decreases-type_entries : goal.decreases-type_entries
decreases-type_entries l = size l.source.now.tokens.now l.cursor 6

abbrev pub invariant-type_entries-loop-p : goal.invariant-type_entries-loop-p
invariant-type_entries-loop-p l = Looping l.source.text.now l.source.tokens.now (L.another (G.rule G.type)) l.initial.p l.initial.nodes l.p l.nodes

abbrev pub decreases-type_entries-loop-p : goal.decreases-type_entries-loop-p
decreases-type_entries-loop-p l = size l.source.tokens.now l.p 0
