-- What the loops of the cycle of readers `patterns` keep, and its measures. Assumes nothing.
use Rattle.cursor.proofs.Reading.{size, Looping}
use Rattle.cursor.specs.Read.{begun}
use Rattle.grammar.specs.Derive as G
use Rattle.grammar.specs.Grammar as L
use Rattle.statements.proofs.let_pattern.+patterns.Given as goal

abbrev pub decreases-pattern : goal.decreases-pattern
decreases-pattern l = size l.source.now.tokens.now l.cursor 4

abbrev pub decreases-pattern_at : goal.decreases-pattern_at
decreases-pattern_at l = size l.source.now.tokens.now (begun l.at l.count l.nest l.furthest) 3

abbrev pub decreases-patterns : goal.decreases-patterns
decreases-patterns l = size l.source.now.tokens.now l.cursor 5

abbrev pub invariant-patterns-loop-p : goal.invariant-patterns-loop-p
invariant-patterns-loop-p l = Looping l.source.text.now l.source.tokens.now (L.another (G.rule G.pattern)) l.initial.p l.initial.nodes l.p l.nodes

abbrev pub decreases-patterns-loop-p : goal.decreases-patterns-loop-p
decreases-patterns-loop-p l = size l.source.tokens.now l.p 0
