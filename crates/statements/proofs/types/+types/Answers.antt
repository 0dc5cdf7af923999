-- The cycle of readers `types` meets its contract. Assumes nothing.
use Rattle.cursor.proofs.Reading.{refl, ◌∙◌, arith, body, same, not_same, differs, no_other, of_kind, not_of_kind, idle, one_step, ◌then◌, only, pass, by_part, inside_by, named, on, on_step, at_here, at_begin, at_rule, ◌and_on◌, further, lower, fell, rounds_next, entries_none, entries_end, entries_off}
use Rattle.grammar.specs.Derive as G
use Rattle.statements.proofs.types.+types.Goals as goal

pub array_type-returns-then-ne-2 : goal.array_type-returns-then-ne-2
array_type-returns-then-ne-2 t c = (one_step c.take-p.ensures) then idle (differs c.if-ne-2.ensures) then idle (differs c.if-ne-2.ensures) then idle (differs c.if-ne-2.ensures) then idle (differs c.if-ne-2.ensures) then idle (differs c.if-ne-2.ensures)

pub array_type-type_at-q-requires : goal.array_type-type_at-q-requires
array_type-type_at-q-requires t c = (further 4 2 c.decreases (no_other c.if-ne.ensures) (on_step c.take-p.ensures and_on at_rule (no_other c.if-ne-2.ensures)) tt (omega arith), tt)

pub array_type-returns : goal.array_type-returns
array_type-returns t c = (one_step c.take-p.ensures) then by_part G.type (record { upto = omega (arith, c.deeper.ensures) }) (no_other c.if-ne-2.ensures) c.type_at-q.ensures c.join-p.ensures then (one_step c.take-p-2.ensures) then c.array_size-p.ensures then (one_step c.take-p-3.ensures) then c.whole.ensures

pub base_type-array_type-requires : goal.base_type-array_type-requires
base_type-array_type-requires t c = (lower 2 3 c.decreases (no_other c.if-ne.ensures) at_here (omega arith), tt)

pub base_type-returns-then-is : goal.base_type-returns-then-is
base_type-returns-then-is t c = only c.peek-k.ensures (of_kind c.if-is.ensures) tt c.array_type.ensures

pub base_type-type_entries-p-requires : goal.base_type-type_entries-p-requires
base_type-type_entries-p-requires t c = (further 6 3 c.decreases (no_other c.if-ne.ensures) (on_step c.take-p.ensures) tt (omega arith), tt)

pub base_type-returns : goal.base_type-returns
base_type-returns t c = pass c.peek-k.ensures ((not_of_kind c.if-is.ensures), tt) tt ((one_step c.take-p.ensures) then c.type_entries-p.ensures then c.tuple_end.ensures)

pub type_at-returns-then-is : goal.type_at-returns-then-is
unfolding body
type_at-returns-then-is t c = inside_by c.begin-start.ensures ((only c.peek-k.ensures (of_kind c.if-is.ensures) tt (named _ c.type_name-name.ensures c.leaf-p.ensures)) then c.many-p.ensures) c.ended.ensures

pub type_at-base_type-p-requires : goal.type_at-base_type-p-requires
type_at-base_type-p-requires t c = (lower 3 4 c.decreases refl (at_begin c.begin-start.ensures) (omega arith), tt)

pub type_at-returns : goal.type_at-returns
unfolding body
type_at-returns t c = inside_by c.begin-start.ensures ((pass c.peek-k.ensures ((not_of_kind c.if-is.ensures), tt) tt c.base_type-p.ensures) then c.many-p-2.ensures) c.ended-2.ensures

pub type_entries-type_at-q-requires : goal.type_entries-type_at-q-requires
type_entries-type_at-q-requires t c = (lower 4 6 c.decreases (no_other c.if-ne.ensures) (at_rule (no_other c.if-ne.ensures)) (omega arith), tt)

pub type_entries-returns-then-eq : goal.type_entries-returns-then-eq
type_entries-returns-then-eq t c = entries_none (by_part G.type (record { upto = omega (arith, c.deeper.ensures) }) (no_other c.if-ne.ensures) c.type_at-q.ensures c.join-p.ensures) (same c.if-eq.ensures) c.rewind.ensures

pub type_entries-returns-then-eq-2 : goal.type_entries-returns-then-eq-2
type_entries-returns-then-eq-2 t c = entries_end (by_part G.type (record { upto = omega (arith, c.deeper.ensures) }) (no_other c.if-ne.ensures) c.type_at-q.ensures c.join-p.ensures) (not_same c.if-eq.ensures) c.loop-p.invariant (same c.loop-p-test.ensures) ((one_step c.take-q.ensures) then idle (fell (same c.if-eq-2.ensures))) (same c.if-eq-2.ensures) c.rewind-then-eq-2.ensures

pub type_entries-returns-then-ne-2 : goal.type_entries-returns-then-ne-2
type_entries-returns-then-ne-2 t c = entries_off (by_part G.type (record { upto = omega (arith, c.deeper.ensures) }) (no_other c.if-ne.ensures) c.type_at-q.ensures c.join-p.ensures) (not_same c.if-eq.ensures) (rounds_next c.loop-p.invariant ((one_step c.take-q.ensures) then idle (differs c.if-ne-2.ensures)) (not_same c.if-eq-2.ensures) c.loop-p.invariant.kept) (differs c.if-ne-2.ensures)

pub type_entries-type_at-t-requires : goal.type_entries-type_at-t-requires
type_entries-type_at-t-requires t c = (further 4 6 c.decreases (no_other c.if-ne.ensures) (on (by_part G.type (record { upto = omega (arith, c.deeper.ensures) }) (no_other c.if-ne.ensures) c.type_at-q.ensures c.join-p.ensures) and_on c.loop-p.invariant.on and_on on_step c.take-q.ensures and_on at_rule (no_other c.if-ne-2.ensures)) tt (omega arith), tt)

pub type_entries-returns-then-eq-3 : goal.type_entries-returns-then-eq-3
type_entries-returns-then-eq-3 t c = entries_end (by_part G.type (record { upto = omega (arith, c.deeper.ensures) }) (no_other c.if-ne.ensures) c.type_at-q.ensures c.join-p.ensures) (not_same c.if-eq.ensures) c.loop-p.invariant (same c.loop-p-test.ensures) ((one_step c.take-q.ensures) then (by_part G.type (record { upto = omega (arith, c.deeper-in-loop-p.ensures) }) (no_other c.if-ne-2.ensures) c.type_at-t.ensures c.join-q.ensures)) (same c.if-eq-3.ensures) c.rewind-then-eq-3.ensures

pub type_entries-loop-p-smaller : goal.type_entries-loop-p-smaller
type_entries-loop-p-smaller t c = further 0 0 refl (same c.loop-p-test.ensures) (on_step c.take-q.ensures and_on on (by_part G.type (record { upto = omega (arith, c.deeper-in-loop-p.ensures) }) (no_other c.if-ne-2.ensures) c.type_at-t.ensures c.join-q.ensures)) tt (omega arith)

pub type_entries-loop-p-preserved : goal.type_entries-loop-p-preserved
type_entries-loop-p-preserved t c = rounds_next c.loop-p.invariant ((one_step c.take-q.ensures) then (by_part G.type (record { upto = omega (arith, c.deeper-in-loop-p.ensures) }) (no_other c.if-ne-2.ensures) c.type_at-t.ensures c.join-q.ensures)) (not_same c.if-eq-3.ensures) (c.type_at-t.auto.nodes ∙ c.loop-p.invariant.kept)

pub type_entries-returns : goal.type_entries-returns
type_entries-returns t c = entries_off (by_part G.type (record { upto = omega (arith, c.deeper.ensures) }) (no_other c.if-ne.ensures) c.type_at-q.ensures c.join-p.ensures) (not_same c.if-eq.ensures) c.loop-p.invariant (not_same c.loop-p-test.ensures)
