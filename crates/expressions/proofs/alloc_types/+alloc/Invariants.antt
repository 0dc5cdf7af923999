-- What the loops of the cycle of readers `alloc` keep, and its measures. Assumes nothing.
use Rattle.cursor.proofs.Reading.{size, Looping}
use Rattle.cursor.specs.Read.{begun}
use Rattle.grammar.specs.Derive as G
use Rattle.grammar.specs.Grammar as L
use Rattle.expressions.proofs.alloc_types.+alloc.Given as goal

abbrev pub decreases-alloc_at : goal.decreases-alloc_at
decreases-alloc_at l = size l.source.now.tokens.now (begun l.at l.count l.nest l.furthest) 4

abbrev pub decreases-alloc_base : goal.decreases-alloc_base
decreases-alloc_base l = size l.source.now.tokens.now l.cursor 3

abbrev pub decreases-alloc_entries : goal.decreases-alloc_entries
decreases-alloc_entries l = size l.source.now.tokens.now l.cursor 6

abbrev pub invariant-alloc_entries-loop-p : goal.invariant-alloc_entries-loop-p
invariant-alloc_entries-loop-p l = Looping l.source.text.now l.source.tokens.now (L.another (G.rule G.alloc)) l.initial.p l.initial.nodes l.p l.nodes

abbrev pub decreases-alloc_entries-loop-p : goal.decreases-alloc_entries-loop-p
decreases-alloc_entries-loop-p l = size l.source.tokens.now l.p 0

abbrev pub decreases-alloc_type_expr : goal.decreases-alloc_type_expr
decreases-alloc_type_expr l = size l.source.now.tokens.now l.cursor 5
