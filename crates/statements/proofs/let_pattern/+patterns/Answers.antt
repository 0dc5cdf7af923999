-- The cycle of readers `patterns` meets its contract. Assumes nothing.
use Rattle.cursor.proofs.Reading.{refl, ◌∙◌, arith, body, same, not_same, differs, no_other, of_kind, not_of_kind, idle, one_grown, one_step, ◌then◌, only, pass, by_part, inside_by, on, on_step, at_begin, at_rule, ◌and_on◌, was, further, lower, rounds_next, rounds_end, rounds_off}
use Rattle.grammar.specs.Derive as G
use Rattle.statements.proofs.let_pattern.+patterns.Goals as goal

pub pattern-pattern_at-q-requires : goal.pattern-pattern_at-q-requires
pattern-pattern_at-q-requires t c = (lower 3 4 c.decreases (no_other c.if-ne.ensures) (at_rule (no_other c.if-ne.ensures)) (omega arith), tt)

pub pattern-returns : goal.pattern-returns
pattern-returns t c = by_part G.pattern (record { upto = omega (arith, c.deeper.ensures) }) (no_other c.if-ne.ensures) c.pattern_at-q.ensures c.join.ensures

pub pattern_at-pattern-p-requires : goal.pattern_at-pattern-p-requires
pattern_at-pattern-p-requires t c = (further 4 3 c.decreases refl (at_begin c.begin-start.ensures and_on on_step c.take-p.ensures) tt (omega arith), tt)

pub pattern_at-returns-then-ne : goal.pattern_at-returns-then-ne
unfolding body
pattern_at-returns-then-ne t c = inside_by c.begin-start.ensures (only c.peek-k.ensures (of_kind c.if-is.ensures) tt ((one_step c.take-p.ensures) then c.pattern-p.ensures then (one_step c.take-p-then-is.ensures) then idle (differs c.if-ne.ensures) then idle (differs c.if-ne.ensures) then idle (differs c.if-ne.ensures) then idle (differs c.if-ne.ensures))) c.ended.ensures

pub pattern_at-pattern_at-q-requires : goal.pattern_at-pattern_at-q-requires
pattern_at-pattern_at-q-requires t c = (further 3 3 c.decreases refl (at_begin c.begin-start.ensures and_on on_step c.take-p.ensures and_on on c.pattern-p.ensures and_on on_step c.take-p-then-is.ensures and_on at_rule (no_other c.if-ne.ensures)) tt (omega arith), tt)

pub pattern_at-patterns-p-requires : goal.pattern_at-patterns-p-requires
pattern_at-patterns-p-requires t c = (further 5 3 c.decreases refl (at_begin c.begin-start.ensures and_on on_step c.take-p.ensures and_on on c.pattern-p.ensures and_on on_step c.take-p-then-is.ensures and_on on (by_part G.pattern (record { upto = omega (arith, c.deeper.ensures) }) (no_other c.if-ne.ensures) c.pattern_at-q.ensures c.join-p.ensures)) tt (omega arith), tt)

pub pattern_at-returns-then-is : goal.pattern_at-returns-then-is
unfolding body
pattern_at-returns-then-is t c = inside_by c.begin-start.ensures (only c.peek-k.ensures (of_kind c.if-is.ensures) tt ((one_step c.take-p.ensures) then c.pattern-p.ensures then (one_step c.take-p-then-is.ensures) then (by_part G.pattern (record { upto = omega (arith, c.deeper.ensures) }) (no_other c.if-ne.ensures) c.pattern_at-q.ensures c.join-p.ensures) then c.patterns-p.ensures then (one_step c.take-p-then-is-2.ensures) then (one_grown c.spanless-p.ensures))) c.ended-then-is.ensures

pub pattern_at-returns : goal.pattern_at-returns
unfolding body
pattern_at-returns t c = inside_by c.begin-start.ensures (pass c.peek-k.ensures ((not_of_kind c.if-is.ensures), tt) tt c.spanned_ident-p.ensures) c.ended-2.ensures

pub patterns-pattern-q-requires : goal.patterns-pattern-q-requires
patterns-pattern-q-requires t c = (further 4 5 c.decreases (was c.loop-p.invariant.on (same c.loop-p-test.ensures)) (c.loop-p.invariant.on and_on on_step c.take-q.ensures) tt (omega arith), tt)

pub patterns-returns-then-eq : goal.patterns-returns-then-eq
patterns-returns-then-eq t c = rounds_end c.loop-p.invariant (same c.loop-p-test.ensures) ((one_step c.take-q.ensures) then c.pattern-q.ensures) (same c.if-eq.ensures) c.rewind.ensures

pub patterns-loop-p-smaller : goal.patterns-loop-p-smaller
patterns-loop-p-smaller t c = further 0 0 refl (same c.loop-p-test.ensures) (on_step c.take-q.ensures and_on on c.pattern-q.ensures) tt (omega arith)

pub patterns-loop-p-preserved : goal.patterns-loop-p-preserved
patterns-loop-p-preserved t c = rounds_next c.loop-p.invariant ((one_step c.take-q.ensures) then c.pattern-q.ensures) (not_same c.if-eq.ensures) (c.pattern-q.auto.nodes ∙ c.loop-p.invariant.kept)

pub patterns-returns : goal.patterns-returns
patterns-returns t c = rounds_off c.loop-p.invariant (not_same c.loop-p-test.ensures)
