-- What the loops of the cycle of readers `statements` keep, and its measures. Assumes nothing.
use Rattle.cursor.proofs.Reading.{size, Looping}
use Rattle.cursor.specs.Read.{begun}
use Rattle.grammar.specs.Derive as G
use Rattle.statements.proofs.+statements.Given as goal

abbrev pub decreases-block : goal.decreases-block
decreases-block l = size l.source.now.tokens.now l.cursor 18

abbrev pub decreases-branches : goal.decreases-branches
decreases-branches l = size l.source.now.tokens.now l.cursor 22

abbrev pub decreases-for_init : goal.decreases-for_init
decreases-for_init l = size l.source.now.tokens.now l.cursor 23

abbrev pub decreases-for_stmt : goal.decreases-for_stmt
decreases-for_stmt l = size l.source.now.tokens.now l.cursor 18

abbrev pub decreases-if_stmt : goal.decreases-if_stmt
decreases-if_stmt l = size l.source.now.tokens.now l.cursor 18

abbrev pub decreases-last_stmt : goal.decreases-last_stmt
decreases-last_stmt l = size l.source.now.tokens.now l.cursor 22

abbrev pub decreases-loop_stmt : goal.decreases-loop_stmt
decreases-loop_stmt l = size l.source.now.tokens.now l.cursor 18

abbrev pub decreases-stmt : goal.decreases-stmt
decreases-stmt l = size l.source.now.tokens.now l.cursor 20

abbrev pub decreases-stmt_at : goal.decreases-stmt_at
decreases-stmt_at l = size l.source.now.tokens.now (begun l.at l.count l.nest l.furthest) 19

abbrev pub decreases-stmts : goal.decreases-stmts
decreases-stmts l = size l.source.now.tokens.now l.cursor 21

abbrev pub invariant-stmts-loop-p : goal.invariant-stmts-loop-p
invariant-stmts-loop-p l = Looping l.source.text.now l.source.tokens.now (G.rule G.stmt) l.initial.p l.initial.nodes l.p l.nodes

abbrev pub decreases-stmts-loop-p : goal.decreases-stmts-loop-p
decreases-stmts-loop-p l = size l.source.tokens.now l.p 0

abbrev pub decreases-while_stmt : goal.decreases-while_stmt
decreases-while_stmt l = size l.source.now.tokens.now l.cursor 18
