use Rattle.std.specs.Prelude.{◌≡◌, drop}
use Rattle.std.specs.Slice.Iter.{chunks_exact_rest, chunks_exact_size}
use Rattle.patterns.specs.Bytes.{in_set, word}
use Rattle.patterns.proofs.Runs.{Passed}
use Rattle.lexer.proofs.class.word_run.Given as goal

abbrev pub invariant-loop-four : goal.invariant-loop-four
invariant-loop-four l =
    (goal.iterator-loop-four).can_next l.four-iterator ×
    (goal.iterator-loop-four).is_finite l.four-iterator × Passed (in_set word) l.t l.i × (chunks_exact_rest l.four-iterator ≡ drop l.i l.t) × (chunks_exact_size l.four-iterator ≡ 4)
