-- What the loops of the cycle of readers `expressions` keep, and its measures. Assumes nothing.
use Rattle.cursor.proofs.Reading.{◌-◌, size, Looping, Listing, Climbing}
use Rattle.cursor.specs.Read.{begun}
use Rattle.grammar.specs.Derive as G
use Rattle.grammar.specs.Grammar as L
use Rattle.expressions.proofs.+expressions.Given as goal

abbrev pub decreases-arguments : goal.decreases-arguments
decreases-arguments l = size l.source.now.tokens.now l.cursor 31

abbrev pub invariant-arguments-loop-nodes : goal.invariant-arguments-loop-nodes
invariant-arguments-loop-nodes l = Listing l.source.text.now l.source.tokens.now (G.rule G.expr) l.initial.p l.initial.nodes l.p l.nodes

abbrev pub decreases-arguments-loop-nodes : goal.decreases-arguments-loop-nodes
decreases-arguments-loop-nodes l = size l.source.tokens.now l.p 0

abbrev pub decreases-array : goal.decreases-array
decreases-array l = size l.source.now.tokens.now l.cursor 6

abbrev pub decreases-atom : goal.decreases-atom
decreases-atom l = size l.source.now.tokens.now l.cursor 7

abbrev pub decreases-chain : goal.decreases-chain
decreases-chain l = size l.source.now.tokens.now l.cursor 3

abbrev pub invariant-chain-loop-p : goal.invariant-chain-loop-p
invariant-chain-loop-p l = Looping l.source.text.now l.source.tokens.now (L.link l.n) l.initial.p l.initial.nodes l.p l.nodes

abbrev pub decreases-chain-loop-p : goal.decreases-chain-loop-p
decreases-chain-loop-p l = size l.source.tokens.now l.p 0

abbrev pub decreases-expr : goal.decreases-expr
decreases-expr l = size l.source.now.tokens.now l.cursor 30

abbrev pub decreases-exprs : goal.decreases-exprs
decreases-exprs l = size l.source.now.tokens.now l.cursor 3

abbrev pub invariant-exprs-loop-p : goal.invariant-exprs-loop-p
invariant-exprs-loop-p l = Looping l.source.text.now l.source.tokens.now (L.another (G.rule G.expr)) l.initial.p l.initial.nodes l.p l.nodes

abbrev pub decreases-exprs-loop-p : goal.decreases-exprs-loop-p
decreases-exprs-loop-p l = size l.source.tokens.now l.p 0

abbrev pub decreases-field : goal.decreases-field
decreases-field l = size l.source.now.tokens.now l.cursor 5

abbrev pub decreases-level : goal.decreases-level
decreases-level l = size l.source.now.tokens.now l.cursor 20

abbrev pub decreases-level_at : goal.decreases-level_at
decreases-level_at l = size l.source.now.tokens.now (begun l.at l.count l.nest l.furthest) 19

abbrev pub invariant-level_at-loop-i : goal.invariant-level_at-loop-i
invariant-level_at-loop-i l = Climbing l.source.text.now l.source.tokens.now l.at l.count l.nest l.furthest l.n l.initial.p l.initial.nodes l.i l.p l.nodes

abbrev pub decreases-level_at-loop-i : goal.decreases-level_at-loop-i
decreases-level_at-loop-i l = l.n - l.i

abbrev pub decreases-new_expr : goal.decreases-new_expr
decreases-new_expr l = size l.source.now.tokens.now l.cursor 6

abbrev pub decreases-paren_or_tuple : goal.decreases-paren_or_tuple
decreases-paren_or_tuple l = size l.source.now.tokens.now l.cursor 6

abbrev pub decreases-postfix_op : goal.decreases-postfix_op
decreases-postfix_op l = size l.source.now.tokens.now l.cursor 4

abbrev pub decreases-postfixed : goal.decreases-postfixed
decreases-postfixed l = size l.source.now.tokens.now l.cursor 8

abbrev pub invariant-postfixed-loop-nodes : goal.invariant-postfixed-loop-nodes
invariant-postfixed-loop-nodes l = Looping l.source.text.now l.source.tokens.now L.postfix l.initial.p l.initial.nodes l.p l.nodes

abbrev pub decreases-postfixed-loop-nodes : goal.decreases-postfixed-loop-nodes
decreases-postfixed-loop-nodes l = size l.source.tokens.now l.p 0

abbrev pub decreases-struct_literal : goal.decreases-struct_literal
decreases-struct_literal l = size l.source.now.tokens.now l.cursor 6

abbrev pub decreases-struct_literal_fields : goal.decreases-struct_literal_fields
decreases-struct_literal_fields l = size l.source.now.tokens.now l.cursor 31

abbrev pub invariant-struct_literal_fields-loop-nodes : goal.invariant-struct_literal_fields-loop-nodes
invariant-struct_literal_fields-loop-nodes l = Listing l.source.text.now l.source.tokens.now (L.field (G.rule G.expr)) l.initial.p l.initial.nodes l.p l.nodes

abbrev pub decreases-struct_literal_fields-loop-nodes : goal.decreases-struct_literal_fields-loop-nodes
decreases-struct_literal_fields-loop-nodes l = size l.source.tokens.now l.p 0

abbrev pub decreases-unary : goal.decreases-unary
decreases-unary l = size l.source.now.tokens.now l.cursor 10

abbrev pub decreases-unary_at : goal.decreases-unary_at
decreases-unary_at l = size l.source.now.tokens.now (begun l.at l.count l.nest l.furthest) 9
