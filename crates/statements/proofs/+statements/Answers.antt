-- The cycle of readers `statements` meets its contract. Assumes nothing.
use Rattle.cursor.proofs.Reading.{refl, ◌∙◌, arith, body, same, not_same, differs, no_other, of_kind, not_of_kind, idle, one_step, ◌then◌, first, only, pass, by_rule, by_part, as_deep, on, on_step, at_begin, at_rule, ◌and_on◌, was, further, lower, fell, ends_by, ends_as, ◌then_ends◌, ends_close, no_else, failed_else, by_stmt, tried_outside, let_of, inside_as, rounds_next, rounds_end, rounds_before, rounds_off}
use Rattle.grammar.specs.Derive as G
use Rattle.statements.proofs.+statements.Goals as goal

pub block-stmts-p-requires : goal.block-stmts-p-requires
block-stmts-p-requires t c = (further 21 18 c.decreases (no_other c.if-ne.ensures) (on_step c.take-p.ensures) tt (omega arith), tt)

pub block-returns : goal.block-returns
block-returns t c = (one_step c.take-p.ensures) then c.stmts-p.ensures then (one_step c.take-p-2.ensures) then c.whole.ensures

pub branches-returns-then-ne : goal.branches-returns-then-ne
branches-returns-then-ne t c = ends_by refl (idle (differs c.if-ne.ensures)) c.ended_with.ensures

pub branches-stmt_at-s-requires : goal.branches-stmt_at-s-requires
branches-stmt_at-s-requires t c = (lower 19 22 c.decreases (no_other c.if-ne.ensures) (at_rule (no_other c.if-ne.ensures)) (omega arith), tt)

pub branches-returns-then-s : goal.branches-returns-then-s
branches-returns-then-s t c = (by_stmt c.deeper.ensures (no_other c.if-ne.ensures) c.stmt_at-s.ensures c.join-p.ensures) then_ends no_else (tried_outside c.deeper.ensures c.stmt_at-s.ensures c.join-p.ensures c.if-s.true) c.whole-p.ensures c.ended_with-then-s.ensures

pub branches-returns-then-eq : goal.branches-returns-then-eq
branches-returns-then-eq t c = (by_stmt c.deeper.ensures (no_other c.if-ne.ensures) c.stmt_at-s.ensures c.join-p.ensures) then_ends failed_else ((one_step c.take-q.ensures) then idle (fell (same c.if-eq.ensures))) (same c.if-eq.ensures) c.rewind-p.ensures c.whole-p-then-eq.ensures c.ended_with-then-eq.ensures

pub branches-returns-then-ne-2 : goal.branches-returns-then-ne-2
branches-returns-then-ne-2 t c = (by_stmt c.deeper.ensures (no_other c.if-ne.ensures) c.stmt_at-s.ensures c.join-p.ensures) then_ends first ((one_step c.take-q.ensures) then idle (differs c.if-ne-2.ensures)) (not_same c.if-eq.ensures) then_ends ends_by refl (idle (differs c.if-ne-2.ensures)) c.ended_with-then-ne-2.ensures

pub branches-stmt_at-t-requires : goal.branches-stmt_at-t-requires
branches-stmt_at-t-requires t c = (further 19 22 c.decreases (no_other c.if-ne.ensures) (on (by_stmt c.deeper.ensures (no_other c.if-ne.ensures) c.stmt_at-s.ensures c.join-p.ensures) and_on on_step c.take-q.ensures and_on at_rule (no_other c.if-ne-2.ensures)) tt (omega arith), tt)

pub branches-returns-then-eq-2 : goal.branches-returns-then-eq-2
branches-returns-then-eq-2 t c = (by_stmt c.deeper.ensures (no_other c.if-ne.ensures) c.stmt_at-s.ensures c.join-p.ensures) then_ends failed_else ((one_step c.take-q.ensures) then by_stmt c.deeper-2.ensures (no_other c.if-ne-2.ensures) c.stmt_at-t.ensures c.join-q.ensures) (same c.if-eq-2.ensures) c.rewind-p-then-eq-2.ensures c.whole-p-then-eq-2.ensures c.ended_with-then-eq-2.ensures

pub branches-returns : goal.branches-returns
branches-returns t c = (by_stmt c.deeper.ensures (no_other c.if-ne.ensures) c.stmt_at-s.ensures c.join-p.ensures) then_ends first ((one_step c.take-q.ensures) then by_stmt c.deeper-2.ensures (no_other c.if-ne-2.ensures) c.stmt_at-t.ensures c.join-q.ensures) (not_same c.if-eq-2.ensures) then_ends ends_close c.whole-q.ensures c.ended_with-2.ensures (tried_outside c.deeper-2.ensures c.stmt_at-t.ensures c.join-q.ensures)

pub for_init-stmt_at-q-requires : goal.for_init-stmt_at-q-requires
for_init-stmt_at-q-requires t c = (lower 19 23 c.decreases (no_other c.if-ne.ensures) (at_rule (no_other c.if-ne.ensures)) (omega arith), tt)

pub for_init-returns-then-is : goal.for_init-returns-then-is
unfolding body
for_init-returns-then-is t c = only c.peek-k.ensures (of_kind c.if-is.ensures) tt (by_part G.init_let (as_deep refl) (no_other c.if-ne.ensures) (inside_as refl (λ e y. let_of c.peek-k.ensures (of_kind c.if-is.ensures) y) c.stmt_at-q.ensures refl) c.join.ensures)

pub for_init-returns : goal.for_init-returns
unfolding body
for_init-returns t c = pass c.peek-k.ensures ((not_of_kind c.if-is.ensures), tt) tt (by_rule G.init_action refl (no_other c.if-ne.ensures) c.enter-p.ensures c.assignment_or_expr-p.ensures c.leave.ensures)

pub for_stmt-returns-then-ne : goal.for_stmt-returns-then-ne
for_stmt-returns-then-ne t c = ends_by refl (idle (differs c.if-ne.ensures)) c.ended_with.ensures

pub for_stmt-for_init-p-requires : goal.for_stmt-for_init-p-requires
for_stmt-for_init-p-requires t c = (further 23 18 c.decreases (no_other c.if-ne.ensures) (on_step c.take-p.ensures and_on on_step c.take-p-2.ensures) tt (omega arith), tt)

pub for_stmt-last_stmt-requires : goal.for_stmt-last_stmt-requires
for_stmt-last_stmt-requires t c = (further 22 18 c.decreases (no_other c.if-ne.ensures) (on_step c.take-p.ensures and_on on_step c.take-p-2.ensures and_on on c.for_init-p.ensures and_on on c.expr-p.ensures and_on on_step c.take-p-3.ensures and_on on c.for_step-p.ensures and_on on_step c.take-p-4.ensures) tt (omega arith), tt)

pub for_stmt-returns : goal.for_stmt-returns
for_stmt-returns t c = (one_step c.take-p.ensures) then_ends (one_step c.take-p-2.ensures) then_ends c.for_init-p.ensures then_ends c.expr-p.ensures then_ends (one_step c.take-p-3.ensures) then_ends c.for_step-p.ensures then_ends (one_step c.take-p-4.ensures) then_ends c.last_stmt.ensures

pub if_stmt-returns-then-ne : goal.if_stmt-returns-then-ne
if_stmt-returns-then-ne t c = ends_by refl (idle (differs c.if-ne.ensures)) c.ended_with.ensures

pub if_stmt-branches-requires : goal.if_stmt-branches-requires
if_stmt-branches-requires t c = (further 22 18 c.decreases (no_other c.if-ne.ensures) (on_step c.take-p.ensures and_on on c.condition-p.ensures) tt (omega arith), tt)

pub if_stmt-returns : goal.if_stmt-returns
if_stmt-returns t c = (one_step c.take-p.ensures) then_ends c.condition-p.ensures then_ends c.branches.ensures

pub last_stmt-returns-then-ne : goal.last_stmt-returns-then-ne
last_stmt-returns-then-ne t c = ends_by refl (idle (differs c.if-ne.ensures)) c.ended_with.ensures

pub last_stmt-stmt_at-s-requires : goal.last_stmt-stmt_at-s-requires
last_stmt-stmt_at-s-requires t c = (lower 19 22 c.decreases (no_other c.if-ne.ensures) (at_rule (no_other c.if-ne.ensures)) (omega arith), tt)

pub last_stmt-returns : goal.last_stmt-returns
last_stmt-returns t c = by_stmt c.deeper.ensures (no_other c.if-ne.ensures) c.stmt_at-s.ensures c.join-p.ensures then_ends ends_close c.whole-p.ensures c.ended_with-2.ensures (tried_outside c.deeper.ensures c.stmt_at-s.ensures c.join-p.ensures)

pub loop_stmt-returns-then-ne : goal.loop_stmt-returns-then-ne
loop_stmt-returns-then-ne t c = ends_by refl (idle (differs c.if-ne.ensures)) c.ended_with.ensures

pub loop_stmt-last_stmt-requires : goal.loop_stmt-last_stmt-requires
loop_stmt-last_stmt-requires t c = (further 22 18 c.decreases (no_other c.if-ne.ensures) (on_step c.take-p.ensures) tt (omega arith), tt)

pub loop_stmt-returns : goal.loop_stmt-returns
loop_stmt-returns t c = (one_step c.take-p.ensures) then_ends c.last_stmt.ensures

pub stmt-stmt_at-q-requires : goal.stmt-stmt_at-q-requires
stmt-stmt_at-q-requires t c = (lower 19 20 c.decreases (no_other c.if-ne.ensures) (at_rule (no_other c.if-ne.ensures)) (omega arith), tt)

pub stmt-returns : goal.stmt-returns
stmt-returns t c = by_stmt c.deeper.ensures (no_other c.if-ne.ensures) c.stmt_at-q.ensures c.join.ensures

pub stmt_at-block-p-requires : goal.stmt_at-block-p-requires
stmt_at-block-p-requires t c = (lower 18 19 c.decreases refl (at_begin c.begin-start.ensures) (omega arith), tt)

pub stmt_at-returns-then-is : goal.stmt_at-returns-then-is
stmt_at-returns-then-is t c = ends_by c.begin-start.ensures (only c.peek-k.ensures (of_kind c.if-is.ensures) tt c.block-p.ensures) c.ended_with.ensures

pub stmt_at-if_stmt-requires : goal.stmt_at-if_stmt-requires
stmt_at-if_stmt-requires t c = (lower 18 19 c.decreases refl (at_begin c.begin-start.ensures) (omega arith), tt)

pub stmt_at-returns-then-is-2 : goal.stmt_at-returns-then-is-2
stmt_at-returns-then-is-2 t c = ends_as c.begin-start.ensures (λ e y. (pass c.peek-k.ensures ((not_of_kind c.if-is.ensures), tt) tt (only c.peek-k.ensures (of_kind c.if-is-2.ensures) tt y))) c.if_stmt.ensures

pub stmt_at-loop_stmt-requires : goal.stmt_at-loop_stmt-requires
stmt_at-loop_stmt-requires t c = (lower 18 19 c.decreases refl (at_begin c.begin-start.ensures) (omega arith), tt)

pub stmt_at-returns-then-is-3 : goal.stmt_at-returns-then-is-3
stmt_at-returns-then-is-3 t c = ends_as c.begin-start.ensures (λ e y. (pass c.peek-k.ensures ((not_of_kind c.if-is.ensures), tt) tt (pass c.peek-k.ensures ((not_of_kind c.if-is-2.ensures), tt) tt (only c.peek-k.ensures (of_kind c.if-is-3.ensures) tt y)))) c.loop_stmt.ensures

pub stmt_at-while_stmt-requires : goal.stmt_at-while_stmt-requires
stmt_at-while_stmt-requires t c = (lower 18 19 c.decreases refl (at_begin c.begin-start.ensures) (omega arith), tt)

pub stmt_at-returns-then-is-4 : goal.stmt_at-returns-then-is-4
stmt_at-returns-then-is-4 t c = ends_as c.begin-start.ensures (λ e y. (pass c.peek-k.ensures ((not_of_kind c.if-is.ensures), tt) tt (pass c.peek-k.ensures ((not_of_kind c.if-is-2.ensures), tt) tt (pass c.peek-k.ensures ((not_of_kind c.if-is-3.ensures), tt) tt (only c.peek-k.ensures (of_kind c.if-is-4.ensures) tt y))))) c.while_stmt.ensures

pub stmt_at-for_stmt-requires : goal.stmt_at-for_stmt-requires
stmt_at-for_stmt-requires t c = (lower 18 19 c.decreases refl (at_begin c.begin-start.ensures) (omega arith), tt)

pub stmt_at-returns-then-is-5 : goal.stmt_at-returns-then-is-5
stmt_at-returns-then-is-5 t c = ends_as c.begin-start.ensures (λ e y. (pass c.peek-k.ensures ((not_of_kind c.if-is.ensures), tt) tt (pass c.peek-k.ensures ((not_of_kind c.if-is-2.ensures), tt) tt (pass c.peek-k.ensures ((not_of_kind c.if-is-3.ensures), tt) tt (pass c.peek-k.ensures ((not_of_kind c.if-is-4.ensures), tt) tt (only c.peek-k.ensures (of_kind c.if-is-5.ensures) tt y)))))) c.for_stmt.ensures

pub stmt_at-returns-then-is-6 : goal.stmt_at-returns-then-is-6
stmt_at-returns-then-is-6 t c = ends_by c.begin-start.ensures (pass c.peek-k.ensures ((not_of_kind c.if-is.ensures), tt) tt (pass c.peek-k.ensures ((not_of_kind c.if-is-2.ensures), tt) tt (pass c.peek-k.ensures ((not_of_kind c.if-is-3.ensures), tt) tt (pass c.peek-k.ensures ((not_of_kind c.if-is-4.ensures), tt) tt (pass c.peek-k.ensures ((not_of_kind c.if-is-5.ensures), tt) tt (only c.peek-k.ensures (of_kind c.if-is-6.ensures) tt c.jump-p.ensures)))))) c.ended_with-then-is-6.ensures

pub stmt_at-returns-then-is-7 : goal.stmt_at-returns-then-is-7
stmt_at-returns-then-is-7 t c = ends_by c.begin-start.ensures (pass c.peek-k.ensures ((not_of_kind c.if-is.ensures), tt) tt (pass c.peek-k.ensures ((not_of_kind c.if-is-2.ensures), tt) tt (pass c.peek-k.ensures ((not_of_kind c.if-is-3.ensures), tt) tt (pass c.peek-k.ensures ((not_of_kind c.if-is-4.ensures), tt) tt (pass c.peek-k.ensures ((not_of_kind c.if-is-5.ensures), tt) tt (pass c.peek-k.ensures ((not_of_kind c.if-is-6.ensures), tt) tt (only c.peek-k.ensures (of_kind c.if-is-7.ensures) tt c.jump-p-then-is-7.ensures))))))) c.ended_with-then-is-7.ensures

pub stmt_at-returns-then-is-8 : goal.stmt_at-returns-then-is-8
stmt_at-returns-then-is-8 t c = ends_by c.begin-start.ensures (pass c.peek-k.ensures ((not_of_kind c.if-is.ensures), tt) tt (pass c.peek-k.ensures ((not_of_kind c.if-is-2.ensures), tt) tt (pass c.peek-k.ensures ((not_of_kind c.if-is-3.ensures), tt) tt (pass c.peek-k.ensures ((not_of_kind c.if-is-4.ensures), tt) tt (pass c.peek-k.ensures ((not_of_kind c.if-is-5.ensures), tt) tt (pass c.peek-k.ensures ((not_of_kind c.if-is-6.ensures), tt) tt (pass c.peek-k.ensures ((not_of_kind c.if-is-7.ensures), tt) tt (only c.peek-k.ensures (of_kind c.if-is-8.ensures) tt c.let_stmt-p.ensures)))))))) c.ended_with-then-is-8.ensures

pub stmt_at-returns-then-is-9 : goal.stmt_at-returns-then-is-9
stmt_at-returns-then-is-9 t c = ends_by c.begin-start.ensures (pass c.peek-k.ensures ((not_of_kind c.if-is.ensures), tt) tt (pass c.peek-k.ensures ((not_of_kind c.if-is-2.ensures), tt) tt (pass c.peek-k.ensures ((not_of_kind c.if-is-3.ensures), tt) tt (pass c.peek-k.ensures ((not_of_kind c.if-is-4.ensures), tt) tt (pass c.peek-k.ensures ((not_of_kind c.if-is-5.ensures), tt) tt (pass c.peek-k.ensures ((not_of_kind c.if-is-6.ensures), tt) tt (pass c.peek-k.ensures ((not_of_kind c.if-is-7.ensures), tt) tt (pass c.peek-k.ensures ((not_of_kind c.if-is-8.ensures), tt) tt (only c.peek-k.ensures (of_kind c.if-is-9.ensures) tt c.const_def-p.ensures))))))))) c.ended_with-then-is-9.ensures

pub stmt_at-returns-then-is-10 : goal.stmt_at-returns-then-is-10
stmt_at-returns-then-is-10 t c = ends_by c.begin-start.ensures (pass c.peek-k.ensures ((not_of_kind c.if-is.ensures), tt) tt (pass c.peek-k.ensures ((not_of_kind c.if-is-2.ensures), tt) tt (pass c.peek-k.ensures ((not_of_kind c.if-is-3.ensures), tt) tt (pass c.peek-k.ensures ((not_of_kind c.if-is-4.ensures), tt) tt (pass c.peek-k.ensures ((not_of_kind c.if-is-5.ensures), tt) tt (pass c.peek-k.ensures ((not_of_kind c.if-is-6.ensures), tt) tt (pass c.peek-k.ensures ((not_of_kind c.if-is-7.ensures), tt) tt (pass c.peek-k.ensures ((not_of_kind c.if-is-8.ensures), tt) tt (pass c.peek-k.ensures ((not_of_kind c.if-is-9.ensures), tt) tt (only c.peek-k.ensures (of_kind c.if-is-10.ensures) tt c.return_stmt-p.ensures)))))))))) c.ended_with-then-is-10.ensures

pub stmt_at-returns : goal.stmt_at-returns
stmt_at-returns t c = ends_by c.begin-start.ensures (pass c.peek-k.ensures ((not_of_kind c.if-is.ensures), tt) tt (pass c.peek-k.ensures ((not_of_kind c.if-is-2.ensures), tt) tt (pass c.peek-k.ensures ((not_of_kind c.if-is-3.ensures), tt) tt (pass c.peek-k.ensures ((not_of_kind c.if-is-4.ensures), tt) tt (pass c.peek-k.ensures ((not_of_kind c.if-is-5.ensures), tt) tt (pass c.peek-k.ensures ((not_of_kind c.if-is-6.ensures), tt) tt (pass c.peek-k.ensures ((not_of_kind c.if-is-7.ensures), tt) tt (pass c.peek-k.ensures ((not_of_kind c.if-is-8.ensures), tt) tt (pass c.peek-k.ensures ((not_of_kind c.if-is-9.ensures), tt) tt (pass c.peek-k.ensures ((not_of_kind c.if-is-10.ensures), tt) tt c.assignment_or_expr-p.ensures)))))))))) c.ended_with-2.ensures

pub stmts-returns-then-is : goal.stmts-returns-then-is
stmts-returns-then-is t c = rounds_before c.loop-p.invariant c.peek-k.ensures (of_kind c.if-is.ensures) tt

pub stmts-stmt-q-requires : goal.stmts-stmt-q-requires
stmts-stmt-q-requires t c = (lower 20 21 c.decreases (was c.loop-p.invariant.on (same c.loop-p-test.ensures)) c.loop-p.invariant.on (omega arith), tt)

pub stmts-returns-then-eq : goal.stmts-returns-then-eq
stmts-returns-then-eq t c = rounds_end c.loop-p.invariant (same c.loop-p-test.ensures) c.stmt-q.ensures (same c.if-eq.ensures) c.rewind.ensures

pub stmts-loop-p-smaller : goal.stmts-loop-p-smaller
stmts-loop-p-smaller t c = further 0 0 refl (same c.loop-p-test.ensures) (on c.stmt-q.ensures) tt (omega arith)

pub stmts-loop-p-preserved : goal.stmts-loop-p-preserved
stmts-loop-p-preserved t c = rounds_next c.loop-p.invariant c.stmt-q.ensures (not_same c.if-eq.ensures) (c.stmt-q.auto.nodes ∙ c.loop-p.invariant.kept)

pub stmts-returns : goal.stmts-returns
stmts-returns t c = rounds_off c.loop-p.invariant (not_same c.loop-p-test.ensures)

pub while_stmt-returns-then-ne : goal.while_stmt-returns-then-ne
while_stmt-returns-then-ne t c = ends_by refl (idle (differs c.if-ne.ensures)) c.ended_with.ensures

pub while_stmt-last_stmt-requires : goal.while_stmt-last_stmt-requires
while_stmt-last_stmt-requires t c = (further 22 18 c.decreases (no_other c.if-ne.ensures) (on_step c.take-p.ensures and_on on c.condition-p.ensures) tt (omega arith), tt)

pub while_stmt-returns : goal.while_stmt-returns
while_stmt-returns t c = (one_step c.take-p.ensures) then_ends c.condition-p.ensures then_ends c.last_stmt.ensures
