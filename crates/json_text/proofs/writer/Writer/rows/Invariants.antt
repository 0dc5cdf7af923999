use Rattle.tables.proofs.Numbered.{each}
use Rattle.json_text.specs.Writes.{Writes}
use Rattle.json_text.proofs.Arrays.{begun}
use Rattle.json_text.proofs.writer.Writer.rows.Given as goal

abbrev pub invariant-loop-i : goal.invariant-loop-i
invariant-loop-i g l =
    (goal.iterator-loop-i g).can_next l.i-iterator
    × (goal.iterator-loop-i g).is_finite l.i-iterator
    × Writes (begun (each g.R.Row.text l.yielded)) l.initial.self l.self
