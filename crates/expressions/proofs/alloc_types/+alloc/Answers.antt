-- The cycle of readers `alloc` meets its contract. Assumes nothing.
use Rattle.cursor.proofs.Reading.{refl, ◌∙◌, arith, body, same, not_same, no_other, of_kind, not_of_kind, one_step, ◌then◌, only, pass, by_part, inside_by, named, on, on_step, at_here, at_begin, at_rule, ◌and_on◌, further, lower, rounds_next, entries_none, entries_end, entries_off}
use Rattle.grammar.specs.Derive as G
use Rattle.expressions.proofs.alloc_types.+alloc.Goals as goal

pub alloc_at-alloc_base-p-requires : goal.alloc_at-alloc_base-p-requires
alloc_at-alloc_base-p-requires t c = (lower 3 4 c.decreases refl (at_begin c.begin-p.ensures) (omega arith), tt)

pub alloc_at-returns : goal.alloc_at-returns
unfolding body
alloc_at-returns t c = inside_by c.begin-p.ensures (c.alloc_base-p.ensures then c.many-p.ensures) c.ended.ensures

pub alloc_base-returns-then-is : goal.alloc_base-returns-then-is
alloc_base-returns-then-is t c = only c.peek-k.ensures (of_kind c.if-is.ensures) tt (named _ c.type_name-name.ensures c.leaf.ensures)

pub alloc_base-alloc_entries-p-requires : goal.alloc_base-alloc_entries-p-requires
alloc_base-alloc_entries-p-requires t c = (further 6 3 c.decreases (no_other c.if-ne.ensures) (on_step c.take-p.ensures) tt (omega arith), tt)

pub alloc_base-returns : goal.alloc_base-returns
alloc_base-returns t c = pass c.peek-k.ensures ((not_of_kind c.if-is.ensures), tt) tt ((one_step c.take-p.ensures) then c.alloc_entries-p.ensures then c.tuple_end.ensures)

pub alloc_entries-alloc_type_expr-p-requires : goal.alloc_entries-alloc_type_expr-p-requires
alloc_entries-alloc_type_expr-p-requires t c = (lower 5 6 c.decreases (no_other c.if-ne.ensures) at_here (omega arith), tt)

pub alloc_entries-returns-then-eq : goal.alloc_entries-returns-then-eq
alloc_entries-returns-then-eq t c = entries_none c.alloc_type_expr-p.ensures (same c.if-eq.ensures) c.rewind.ensures

pub alloc_entries-alloc_type_expr-q-requires : goal.alloc_entries-alloc_type_expr-q-requires
alloc_entries-alloc_type_expr-q-requires t c = (further 5 6 c.decreases (no_other c.if-ne.ensures) (on c.alloc_type_expr-p.ensures and_on c.loop-p.invariant.on and_on on_step c.take-q.ensures) tt (omega arith), tt)

pub alloc_entries-returns-then-eq-2 : goal.alloc_entries-returns-then-eq-2
alloc_entries-returns-then-eq-2 t c = entries_end c.alloc_type_expr-p.ensures (not_same c.if-eq.ensures) c.loop-p.invariant (same c.loop-p-test.ensures) ((one_step c.take-q.ensures) then c.alloc_type_expr-q.ensures) (same c.if-eq-2.ensures) c.rewind-then-eq-2.ensures

pub alloc_entries-loop-p-smaller : goal.alloc_entries-loop-p-smaller
alloc_entries-loop-p-smaller t c = further 0 0 refl (same c.loop-p-test.ensures) (on_step c.take-q.ensures and_on on c.alloc_type_expr-q.ensures) tt (omega arith)

pub alloc_entries-loop-p-preserved : goal.alloc_entries-loop-p-preserved
alloc_entries-loop-p-preserved t c = rounds_next c.loop-p.invariant ((one_step c.take-q.ensures) then c.alloc_type_expr-q.ensures) (not_same c.if-eq-2.ensures) (c.alloc_type_expr-q.auto.nodes ∙ c.loop-p.invariant.kept)

pub alloc_entries-returns : goal.alloc_entries-returns
alloc_entries-returns t c = entries_off c.alloc_type_expr-p.ensures (not_same c.if-eq.ensures) c.loop-p.invariant (not_same c.loop-p-test.ensures)

pub alloc_type_expr-alloc_at-q-requires : goal.alloc_type_expr-alloc_at-q-requires
alloc_type_expr-alloc_at-q-requires t c = (lower 4 5 c.decreases (no_other c.if-ne.ensures) (at_rule (no_other c.if-ne.ensures)) (omega arith), tt)

pub alloc_type_expr-returns : goal.alloc_type_expr-returns
alloc_type_expr-returns t c = by_part G.alloc (record { upto = omega (arith, c.deeper.ensures) }) (no_other c.if-ne.ensures) c.alloc_at-q.ensures c.join.ensures
