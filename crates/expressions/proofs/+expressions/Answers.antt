-- The cycle of readers `expressions` meets its contract. Assumes nothing.
use Rattle.cursor.proofs.Reading.{refl, ◌∙◌, arith, body, same, not_same, differs, no_other, of_kind, not_of_kind, idle, one_grown, one_step, ◌then◌, first, other, only, pass, by_part, inside_by, as_deep, nothing, reads_as, on, on_grown, on_step, at_here, at_begin, at_rule, at_back, ◌and_on◌, was, further, lower, fell, rounds_next, rounds_end, rounds_miss, rounds_off, listing_next, listing_none, listing_miss, listing_off, regroup, share, element, no_element, many_never, opt_never, and_never, at_operand, just_entered, reading_in, unary_deep, unary_reads, on_operator, climbing_more, climbed, climbed_over, no_operator, name_alone, numeral_alone}
use Rattle.grammar.specs.Derive as G
use Rattle.expressions.proofs.+expressions.Goals as goal

pub arguments-returns-then-is : goal.arguments-returns-then-is
arguments-returns-then-is t c = pass c.peek-k.ensures (omega (arith, (of_kind c.if-is.ensures))) tt nothing

pub arguments-expr-q-requires : goal.arguments-expr-q-requires
arguments-expr-q-requires t c = (lower 30 31 c.decreases (no_other c.if-ne.ensures) c.loop-nodes.invariant.on (omega arith), tt)

pub arguments-returns-then-eq : goal.arguments-returns-then-eq
arguments-returns-then-eq t c = listing_none c.loop-nodes.invariant (same c.loop-nodes-test.ensures) c.expr-q.ensures (same c.if-eq.ensures) c.rewind.ensures

pub arguments-returns-then-not-is : goal.arguments-returns-then-not-is
arguments-returns-then-not-is t c = listing_miss tt c.loop-nodes.invariant c.expr-q.ensures (not_same c.if-eq.ensures) c.expr-q.auto.nodes c.peek-k-in-loop-nodes.ensures (not_of_kind c.if-not-is.ensures)

pub arguments-loop-nodes-smaller : goal.arguments-loop-nodes-smaller
arguments-loop-nodes-smaller t c = further 0 0 refl (same c.loop-nodes-test.ensures) (on c.expr-q.ensures and_on on_step c.take-p.ensures) tt (omega arith)

pub arguments-loop-nodes-preserved : goal.arguments-loop-nodes-preserved
arguments-loop-nodes-preserved t c = listing_next c.loop-nodes.invariant c.expr-q.ensures (not_same c.if-eq.ensures) c.expr-q.auto.nodes c.peek-k-in-loop-nodes.ensures (of_kind c.if-not-is.ensures) c.take-p.ensures

pub arguments-returns : goal.arguments-returns
arguments-returns t c = listing_off c.loop-nodes.invariant (not_same c.loop-nodes-test.ensures)

pub array-expr-e-requires : goal.array-expr-e-requires
array-expr-e-requires t c = (further 30 6 c.decreases (no_other c.if-ne.ensures) (on_step c.take-p.ensures) tt (omega arith), tt)

pub array-returns-then-eq : goal.array-returns-then-eq
array-returns-then-eq t c = share (one_step c.take-p.ensures) (no_element c.expr-e.ensures (same c.if-eq.ensures) c.rewind-p.ensures ((one_step c.take-q.ensures) then c.whole.ensures))

pub array-returns-then-is : goal.array-returns-then-is
array-returns-then-is t c = share (one_step c.take-p.ensures) (element (and_never many_never opt_never) c.expr-e.ensures (not_same c.if-eq.ensures) (only c.peek-k.ensures (of_kind c.if-is.ensures) tt ((one_step c.take-q-then-is.ensures) then c.repeat_end.ensures)))

pub array-exprs-q-requires : goal.array-exprs-q-requires
array-exprs-q-requires t c = (further 3 6 c.decreases (no_other c.if-ne.ensures) (on_step c.take-p.ensures and_on on c.expr-e.ensures) tt (omega arith), tt)

pub array-returns : goal.array-returns
array-returns t c = share (one_step c.take-p.ensures) (element (and_never many_never opt_never) c.expr-e.ensures (not_same c.if-eq.ensures) (pass c.peek-k.ensures ((not_of_kind c.if-is.ensures), tt) tt ((c.exprs-q.ensures then (one_step c.skip-q.ensures)) then (one_step c.take-q-2.ensures) then c.whole-2.ensures)))

pub atom-struct_literal-p-requires : goal.atom-struct_literal-p-requires
atom-struct_literal-p-requires t c = (lower 6 7 c.decreases (no_other c.if-ne.ensures) at_here (omega arith), tt)

pub atom-returns-then-ne-2 : goal.atom-returns-then-ne-2
atom-returns-then-ne-2 t c = pass c.peek-k.ensures (omega (arith, (of_kind c.if-is.ensures))) tt (pass c.peek-k.ensures (omega (arith, (of_kind c.if-is.ensures))) tt (pass c.peek-k.ensures (omega (arith, (of_kind c.if-is.ensures))) tt (pass c.peek-k.ensures (omega (arith, (of_kind c.if-is.ensures))) tt (first c.struct_literal-p.ensures (differs c.if-ne-2.ensures)))))

pub atom-returns-then-is : goal.atom-returns-then-is
atom-returns-then-is t c = pass c.peek-k.ensures (omega (arith, (of_kind c.if-is.ensures))) tt (pass c.peek-k.ensures (omega (arith, (of_kind c.if-is.ensures))) tt (pass c.peek-k.ensures (omega (arith, (of_kind c.if-is.ensures))) tt (pass c.peek-k.ensures (omega (arith, (of_kind c.if-is.ensures))) tt (other c.struct_literal-p.ensures (no_other c.if-ne-2.ensures) refl (pass c.peek-k.ensures (omega (arith, (of_kind c.if-is.ensures))) tt (pass c.peek-k.ensures (omega (arith, (of_kind c.if-is.ensures))) tt (only c.peek-k.ensures (of_kind c.if-is.ensures) tt (reads_as c.rewind-p.ensures c.leaf.ensures))))))))

pub atom-returns-then-is-2 : goal.atom-returns-then-is-2
atom-returns-then-is-2 t c = only c.peek-k.ensures (of_kind c.if-is-2.ensures) tt c.literal.ensures

pub atom-returns-then-is-3 : goal.atom-returns-then-is-3
atom-returns-then-is-3 t c = pass c.peek-k.ensures ((not_of_kind c.if-is-2.ensures), tt) tt (only c.peek-k.ensures (of_kind c.if-is-3.ensures) tt c.leaf-then-is-3.ensures)

pub atom-returns-then-is-4 : goal.atom-returns-then-is-4
atom-returns-then-is-4 t c = pass c.peek-k.ensures ((not_of_kind c.if-is-2.ensures), tt) tt (pass c.peek-k.ensures ((not_of_kind c.if-is-3.ensures), tt) tt (only c.peek-k.ensures (of_kind c.if-is-4.ensures) tt c.leaf-then-is-4.ensures))

pub atom-new_expr-requires : goal.atom-new_expr-requires
atom-new_expr-requires t c = (lower 6 7 c.decreases (no_other c.if-ne.ensures) at_here (omega arith), tt)

pub atom-returns-then-is-5 : goal.atom-returns-then-is-5
atom-returns-then-is-5 t c = pass c.peek-k.ensures ((not_of_kind c.if-is-2.ensures), tt) tt (pass c.peek-k.ensures ((not_of_kind c.if-is-3.ensures), tt) tt (pass c.peek-k.ensures ((not_of_kind c.if-is-4.ensures), tt) tt (only c.peek-k.ensures (of_kind c.if-is-5.ensures) tt c.new_expr.ensures)))

pub atom-array-requires : goal.atom-array-requires
atom-array-requires t c = (lower 6 7 c.decreases (no_other c.if-ne.ensures) at_here (omega arith), tt)

pub atom-returns-then-is-6 : goal.atom-returns-then-is-6
atom-returns-then-is-6 t c = pass c.peek-k.ensures ((not_of_kind c.if-is-2.ensures), tt) tt (pass c.peek-k.ensures ((not_of_kind c.if-is-3.ensures), tt) tt (pass c.peek-k.ensures ((not_of_kind c.if-is-4.ensures), tt) tt (pass c.peek-k.ensures ((not_of_kind c.if-is-5.ensures), tt) tt (pass c.peek-k.ensures ((not_of_kind c.if-is.ensures), tt) tt (regroup (only c.peek-k.ensures (of_kind c.if-is-6.ensures) tt c.array.ensures))))))

pub atom-paren_or_tuple-requires : goal.atom-paren_or_tuple-requires
atom-paren_or_tuple-requires t c = (lower 6 7 c.decreases (no_other c.if-ne.ensures) at_here (omega arith), tt)

pub atom-returns : goal.atom-returns
atom-returns t c = pass c.peek-k.ensures ((not_of_kind c.if-is-2.ensures), tt) tt (pass c.peek-k.ensures ((not_of_kind c.if-is-3.ensures), tt) tt (pass c.peek-k.ensures ((not_of_kind c.if-is-4.ensures), tt) tt (pass c.peek-k.ensures ((not_of_kind c.if-is-5.ensures), tt) tt (pass c.peek-k.ensures ((not_of_kind c.if-is.ensures), tt) tt (pass c.peek-k.ensures ((not_of_kind c.if-is-6.ensures), tt) tt (pass c.peek-k.ensures ((not_of_kind c.if-is-6.ensures), tt) tt (pass c.peek-k.ensures ((not_of_kind c.if-is.ensures), tt) tt c.paren_or_tuple.ensures)))))))

pub chain-returns-then-eq : goal.chain-returns-then-eq
chain-returns-then-eq t c = rounds_end c.loop-p.invariant (same c.loop-p-test.ensures) ((one_step c.operator-q.ensures) then idle (fell (same c.if-eq.ensures)) then idle (fell (same c.if-eq.ensures))) (same c.if-eq.ensures) c.rewind.ensures

pub chain-level-q-requires : goal.chain-level-q-requires
chain-level-q-requires t c = (further 20 3 c.decreases (was c.loop-p.invariant.on (same c.loop-p-test.ensures)) (c.loop-p.invariant.on and_on on_operator c.args.n c.operator-q.ensures) tt (omega arith), tt)

pub chain-returns-then-eq-2 : goal.chain-returns-then-eq-2
chain-returns-then-eq-2 t c = rounds_end c.loop-p.invariant (same c.loop-p-test.ensures) ((one_step c.operator-q.ensures) then c.level-q.ensures then (one_grown c.operands-q.ensures)) (same c.if-eq-2.ensures) c.rewind-then-eq-2.ensures

pub chain-loop-p-smaller : goal.chain-loop-p-smaller
chain-loop-p-smaller t c = further 0 0 refl (same c.loop-p-test.ensures) (on_operator c.args.n c.operator-q.ensures and_on on c.level-q.ensures and_on on_grown c.operands-q.ensures) tt (omega arith)

pub chain-loop-p-preserved : goal.chain-loop-p-preserved
chain-loop-p-preserved t c = rounds_next c.loop-p.invariant ((one_step c.operator-q.ensures) then c.level-q.ensures then (one_grown c.operands-q.ensures)) (not_same c.if-eq-2.ensures) (c.operands-q.auto.nodes ∙ c.level-q.auto.nodes ∙ c.loop-p.invariant.kept)

pub chain-returns : goal.chain-returns
chain-returns t c = rounds_off c.loop-p.invariant (not_same c.loop-p-test.ensures)

pub expr-level_at-q-requires : goal.expr-level_at-q-requires
expr-level_at-q-requires t c = (lower 19 30 c.decreases (no_other c.if-ne.ensures) (at_rule (no_other c.if-ne.ensures)) (omega arith), tt)

pub expr-returns : goal.expr-returns
unfolding body
expr-returns t c = by_part G.expr (record { upto = omega (arith, c.deeper.ensures) }) (no_other c.if-ne.ensures) (inside_by refl (by_part (G.level 5) (as_deep refl) refl c.level_at-q.ensures refl) refl) c.join.ensures

pub exprs-returns-then-not-is : goal.exprs-returns-then-not-is
exprs-returns-then-not-is t c = rounds_miss c.loop-p.invariant c.peek-k.ensures ((not_of_kind c.if-not-is.ensures), tt) tt

pub exprs-expr-q-requires : goal.exprs-expr-q-requires
exprs-expr-q-requires t c = (further 30 3 c.decreases (was c.loop-p.invariant.on (same c.loop-p-test.ensures)) (c.loop-p.invariant.on and_on on_step c.take-q.ensures) tt (omega arith), tt)

pub exprs-returns-then-eq : goal.exprs-returns-then-eq
exprs-returns-then-eq t c = rounds_end c.loop-p.invariant (same c.loop-p-test.ensures) ((one_step c.take-q.ensures) then c.expr-q.ensures) (same c.if-eq.ensures) c.rewind.ensures

pub exprs-loop-p-smaller : goal.exprs-loop-p-smaller
exprs-loop-p-smaller t c = further 0 0 refl (same c.loop-p-test.ensures) (on_step c.take-q.ensures and_on on c.expr-q.ensures) tt (omega arith)

pub exprs-loop-p-preserved : goal.exprs-loop-p-preserved
exprs-loop-p-preserved t c = rounds_next c.loop-p.invariant ((one_step c.take-q.ensures) then c.expr-q.ensures) (not_same c.if-eq.ensures) (c.expr-q.auto.nodes ∙ c.loop-p.invariant.kept)

pub exprs-returns : goal.exprs-returns
exprs-returns t c = rounds_off c.loop-p.invariant (not_same c.loop-p-test.ensures)

pub field-expr-requires : goal.field-expr-requires
field-expr-requires t c = (further 30 5 c.decreases (no_other c.if-ne.ensures) (on c.spanned_ident-p.ensures and_on on_step c.take-p.ensures) tt (omega arith), tt)

pub field-returns : goal.field-returns
field-returns t c = c.spanned_ident-p.ensures then (one_step c.take-p.ensures) then c.expr.ensures

pub level-level_at-q-requires : goal.level-level_at-q-requires
level-level_at-q-requires t c = (lower 19 20 c.decreases (no_other c.if-ne.ensures) (at_rule (no_other c.if-ne.ensures)) (omega arith), tt)

pub level-returns : goal.level-returns
level-returns t c = by_part (G.level _) (as_deep refl) (no_other c.if-ne.ensures) c.level_at-q.ensures c.join.ensures

pub level_at-unary-p-requires : goal.level_at-unary-p-requires
level_at-unary-p-requires t c = (lower 10 19 c.decreases refl (at_begin c.begin-start.ensures) (omega arith), tt)

pub level_at-returns-then-not-is_binary_op : goal.level_at-returns-then-not-is_binary_op
unfolding body
level_at-returns-then-not-is_binary_op t c = inside_by c.begin-start.ensures (climbed_over _ c.begin-start.ensures c.loop-i.invariant c.peek-k.ensures (no_operator c.if-not-is_binary_op.ensures) (c.unary-p.ensures then c.casts-p.ensures)) c.ended.ensures

pub level_at-chain-p-requires : goal.level_at-chain-p-requires
level_at-chain-p-requires t c = (further 3 19 c.decreases refl (at_begin c.begin-start.ensures and_on on c.unary-p.ensures and_on on c.casts-p.ensures and_on c.loop-i.invariant.on) tt (omega arith), tt)

pub level_at-loop-i-preserved : goal.level_at-loop-i-preserved
level_at-loop-i-preserved t c = climbing_more _ c.loop-i.invariant c.loop-i-test.true c.chain-p.ensures c.chain-p.auto.nodes

pub level_at-returns : goal.level_at-returns
unfolding body
level_at-returns t c = inside_by c.begin-start.ensures (climbed _ c.begin-start.ensures c.loop-i.invariant c.loop-i-test.false (c.unary-p.ensures then c.casts-p.ensures)) c.ended-2.ensures

pub new_expr-expr-p-requires : goal.new_expr-expr-p-requires
new_expr-expr-p-requires t c = (further 30 6 c.decreases (no_other c.if-ne.ensures) (on_step c.take-p.ensures and_on on c.alloc_type_expr-p.ensures and_on on_step c.take-p-2.ensures) tt (omega arith), tt)

pub new_expr-returns : goal.new_expr-returns
new_expr-returns t c = (one_step c.take-p.ensures) then c.alloc_type_expr-p.ensures then (one_step c.take-p-2.ensures) then c.expr-p.ensures then (one_step c.take-p-3.ensures) then c.whole.ensures

pub paren_or_tuple-returns-then-is : goal.paren_or_tuple-returns-then-is
paren_or_tuple-returns-then-is t c = (one_step c.take-p.ensures) then (only c.peek-k.ensures (of_kind c.if-is.ensures) tt ((one_step c.take-q.ensures) then c.whole.ensures))

pub paren_or_tuple-expr-p-requires : goal.paren_or_tuple-expr-p-requires
paren_or_tuple-expr-p-requires t c = (further 30 6 c.decreases (no_other c.if-ne.ensures) (on_step c.take-p.ensures) tt (omega arith), tt)

pub paren_or_tuple-returns-then-ne-2 : goal.paren_or_tuple-returns-then-ne-2
paren_or_tuple-returns-then-ne-2 t c = (one_step c.take-p.ensures) then (pass c.peek-k.ensures ((not_of_kind c.if-is.ensures), tt) tt (c.expr-p.ensures then first ((one_step c.take-q-2.ensures) then c.whole-q.ensures) (differs c.if-ne-2.ensures)))

pub paren_or_tuple-exprs-q-requires : goal.paren_or_tuple-exprs-q-requires
paren_or_tuple-exprs-q-requires t c = (further 3 6 c.decreases (no_other c.if-ne.ensures) (on_step c.take-p.ensures and_on on c.expr-p.ensures and_on at_back c.rewind-p.ensures) tt (omega arith), tt)

pub paren_or_tuple-returns : goal.paren_or_tuple-returns
paren_or_tuple-returns t c = (one_step c.take-p.ensures) then (pass c.peek-k.ensures ((not_of_kind c.if-is.ensures), tt) tt (c.expr-p.ensures then other ((one_step c.take-q-2.ensures) then c.whole-q.ensures) (no_other c.if-ne-2.ensures) c.rewind-p.ensures (c.exprs-q.ensures then (one_step c.skip-q.ensures) then (one_step c.take-q-3.ensures) then c.whole-2.ensures)))

pub postfix_op-arguments-p-requires : goal.postfix_op-arguments-p-requires
postfix_op-arguments-p-requires t c = (further 31 4 c.decreases (no_other c.if-ne.ensures) (on_step c.take-p.ensures) tt (omega arith), tt)

pub postfix_op-returns-then-is : goal.postfix_op-returns-then-is
postfix_op-returns-then-is t c = only c.peek-k.ensures (of_kind c.if-is.ensures) tt ((one_step c.take-p.ensures) then c.arguments-p.ensures then (one_step c.take-p-then-is.ensures) then (one_grown c.called.ensures))

pub postfix_op-returns-then-ne-2 : goal.postfix_op-returns-then-ne-2
postfix_op-returns-then-ne-2 t c = pass c.peek-k.ensures ((not_of_kind c.if-is.ensures), tt) tt (regroup (only c.peek-k.ensures (of_kind c.if-is-2.ensures) tt (share (one_step c.take-p-then-is-2.ensures) (first ((one_step c.index-q.ensures) then c.suffixed-q.ensures) (differs c.if-ne-2.ensures)))))

pub postfix_op-returns-then-is-2 : goal.postfix_op-returns-then-is-2
postfix_op-returns-then-is-2 t c = pass c.peek-k.ensures ((not_of_kind c.if-is.ensures), tt) tt (regroup (only c.peek-k.ensures (of_kind c.if-is-2.ensures) tt (share (one_step c.take-p-then-is-2.ensures) (other ((one_step c.index-q.ensures) then c.suffixed-q.ensures) (no_other c.if-ne-2.ensures) c.rewind-p.ensures (c.spanned_ident-q.ensures then (one_grown c.operands.ensures))))))

pub postfix_op-returns-then-ne-3 : goal.postfix_op-returns-then-ne-3
postfix_op-returns-then-ne-3 t c = pass c.peek-k.ensures ((not_of_kind c.if-is.ensures), tt) tt (pass c.peek-k.ensures ((not_of_kind c.if-is-2.ensures), tt) tt (pass c.peek-k.ensures ((not_of_kind c.if-is-2.ensures), tt) tt ((one_step c.take-p-2.ensures) then idle (differs c.if-ne-3.ensures) then idle (differs c.if-ne-3.ensures) then idle (differs c.if-ne-3.ensures))))

pub postfix_op-expr-p-requires : goal.postfix_op-expr-p-requires
postfix_op-expr-p-requires t c = (further 30 4 c.decreases (no_other c.if-ne.ensures) (on_step c.take-p-2.ensures) tt (omega arith), tt)

pub postfix_op-returns : goal.postfix_op-returns
postfix_op-returns t c = pass c.peek-k.ensures ((not_of_kind c.if-is.ensures), tt) tt (pass c.peek-k.ensures ((not_of_kind c.if-is-2.ensures), tt) tt (pass c.peek-k.ensures ((not_of_kind c.if-is-2.ensures), tt) tt ((one_step c.take-p-2.ensures) then c.expr-p.ensures then (one_step c.take-p-3.ensures) then (one_grown c.operands-2.ensures))))

pub postfixed-atom-p-requires : goal.postfixed-atom-p-requires
postfixed-atom-p-requires t c = (lower 7 8 c.decreases (no_other c.if-ne.ensures) at_here (omega arith), tt)

pub postfixed-postfix_op-q-requires : goal.postfixed-postfix_op-q-requires
postfixed-postfix_op-q-requires t c = (further 4 8 c.decreases (no_other c.if-ne.ensures) (on c.atom-p.ensures and_on c.loop-nodes.invariant.on) tt (omega arith), tt)

pub postfixed-returns-then-eq : goal.postfixed-returns-then-eq
postfixed-returns-then-eq t c = c.atom-p.ensures then rounds_end c.loop-nodes.invariant (same c.loop-nodes-test.ensures) c.postfix_op-q.ensures (same c.if-eq.ensures) c.rewind.ensures

pub postfixed-loop-nodes-smaller : goal.postfixed-loop-nodes-smaller
postfixed-loop-nodes-smaller t c = further 0 0 refl (same c.loop-nodes-test.ensures) (on c.postfix_op-q.ensures) tt (omega arith)

pub postfixed-loop-nodes-preserved : goal.postfixed-loop-nodes-preserved
postfixed-loop-nodes-preserved t c = rounds_next c.loop-nodes.invariant c.postfix_op-q.ensures (not_same c.if-eq.ensures) (c.postfix_op-q.auto.nodes ∙ c.loop-nodes.invariant.kept)

pub postfixed-returns : goal.postfixed-returns
postfixed-returns t c = c.atom-p.ensures then rounds_off c.loop-nodes.invariant (not_same c.loop-nodes-test.ensures)

pub struct_literal-returns-then-ne-2 : goal.struct_literal-returns-then-ne-2
struct_literal-returns-then-ne-2 t c = c.spanned_ident-p.ensures then (one_step c.take-p.ensures) then idle (differs c.if-ne-2.ensures) then idle (differs c.if-ne-2.ensures) then idle (differs c.if-ne-2.ensures)

pub struct_literal-struct_literal_fields-p-requires : goal.struct_literal-struct_literal_fields-p-requires
struct_literal-struct_literal_fields-p-requires t c = (further 31 6 c.decreases (no_other c.if-ne.ensures) (on c.spanned_ident-p.ensures and_on on_step c.take-p.ensures) tt (omega arith), tt)

pub struct_literal-returns : goal.struct_literal-returns
struct_literal-returns t c = c.spanned_ident-p.ensures then (one_step c.take-p.ensures) then c.struct_literal_fields-p.ensures then (one_step c.take-p-2.ensures) then c.whole.ensures

pub struct_literal_fields-field-q-requires : goal.struct_literal_fields-field-q-requires
struct_literal_fields-field-q-requires t c = (lower 5 31 c.decreases (no_other c.if-ne.ensures) c.loop-nodes.invariant.on (omega arith), tt)

pub struct_literal_fields-returns-then-eq : goal.struct_literal_fields-returns-then-eq
struct_literal_fields-returns-then-eq t c = listing_none c.loop-nodes.invariant (same c.loop-nodes-test.ensures) c.field-q.ensures (same c.if-eq.ensures) c.rewind.ensures

pub struct_literal_fields-returns-then-not-is : goal.struct_literal_fields-returns-then-not-is
struct_literal_fields-returns-then-not-is t c = listing_miss tt c.loop-nodes.invariant c.field-q.ensures (not_same c.if-eq.ensures) c.field-q.auto.nodes c.peek-k.ensures (not_of_kind c.if-not-is.ensures)

pub struct_literal_fields-loop-nodes-smaller : goal.struct_literal_fields-loop-nodes-smaller
struct_literal_fields-loop-nodes-smaller t c = further 0 0 refl (same c.loop-nodes-test.ensures) (on c.field-q.ensures and_on on_step c.take-p.ensures) tt (omega arith)

pub struct_literal_fields-loop-nodes-preserved : goal.struct_literal_fields-loop-nodes-preserved
struct_literal_fields-loop-nodes-preserved t c = listing_next c.loop-nodes.invariant c.field-q.ensures (not_same c.if-eq.ensures) c.field-q.auto.nodes c.peek-k.ensures (of_kind c.if-not-is.ensures) c.take-p.ensures

pub struct_literal_fields-returns : goal.struct_literal_fields-returns
struct_literal_fields-returns t c = listing_off c.loop-nodes.invariant (not_same c.loop-nodes-test.ensures)

pub unary-returns-then-is : goal.unary-returns-then-is
unary-returns-then-is t c = name_alone c.peek-k.ensures c.second.ensures c.if-not-continues.ensures (of_kind c.if-is.ensures) c.leaf.ensures

pub unary-returns-then-is-2 : goal.unary-returns-then-is-2
unary-returns-then-is-2 t c = numeral_alone c.peek-k.ensures c.second.ensures c.if-not-continues.ensures (of_kind c.if-is-2.ensures) c.literal.ensures

pub unary-unary_at-q-requires : goal.unary-unary_at-q-requires
unary-unary_at-q-requires t c = (lower 9 10 c.decreases (no_other c.if-ne.ensures) (at_rule (no_other c.if-ne.ensures)) (omega arith), tt)

pub unary-returns : goal.unary-returns
unary-returns t c = by_part G.unary (as_deep refl) (no_other c.if-ne.ensures) c.unary_at-q.ensures c.join.ensures

pub unary_at-returns-then-ne : goal.unary_at-returns-then-ne
unfolding body
unary_at-returns-then-ne t c = inside_by c.begin-start.ensures (unary_deep (reading_in c.begin-start.ensures refl) c.prefixes-end.ensures c.operand-p.ensures (differs c.if-ne.ensures)) c.ended.ensures

pub unary_at-postfixed-p-requires : goal.unary_at-postfixed-p-requires
unary_at-postfixed-p-requires t c = (lower 8 9 c.decreases refl (at_begin c.begin-start.ensures and_on at_operand c.prefixes-end.ensures c.operand-p.ensures) (omega arith), tt)

pub unary_at-returns : goal.unary_at-returns
unfolding body
unary_at-returns t c = inside_by c.begin-start.ensures (unary_reads (reading_in c.begin-start.ensures refl) c.prefixes-end.ensures (just_entered c.begin-start.ensures) c.operand-p.ensures (no_other c.if-ne.ensures) c.postfixed-p.ensures c.unwind-p.ensures) c.ended-2.ensures
