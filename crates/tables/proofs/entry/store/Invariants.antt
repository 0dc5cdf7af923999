use mathlib.Core.Path.{◌≡◌}
use lib.ListN.{take}
use lib.Seq.{sets}
use Rattle.tables.specs.Tables.{le64, joined}
use Rattle.tables.proofs.entry.store.Given as goal

abbrev pub invariant-loop-k : goal.invariant-loop-k
invariant-loop-k g l = l.table ≡ sets l.initial.table l.start (joined le64 (take l.k l.word-items))
