-- Below `i` the list has the records of the table.
use Rattle.std.proofs.Common.{◌≡◌}
use Rattle.tables.specs.Tables.{diagnostic_at}
use Rattle.entries.proofs.Front.{front}
use Rattle.entries.proofs.records.lay.Given as goal

abbrev pub invariant-loop-i : goal.invariant-loop-i
invariant-loop-i l = l.list ≡ front (diagnostic_at l.table) l.i l.initial.list
