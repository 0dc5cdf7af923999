use borrow.Author.Rules.{rules}
use native.Mathlib.Omega.{arith}
use mathlib.Core.Path.{refl}
use Rattle.tables.specs.Tables.{le64, joined}
use Rattle.tables.proofs.Laws.{room, stored_none}
use Rattle.tables.proofs.Entries.{word_more, words_stored}
use Rattle.tables.proofs.entry.store.Goals as goal

pub loop-k-init : goal.loop-k-init
unfolding joined
loop-k-init g c = refl

pub loop-k-preserved : goal.loop-k-preserved
unfolding le64
loop-k-preserved g c = word_more _ _ _ _ _ _ (omega (arith, room _ _ _ c.if-i-table.true)) (search rules) (search rules) c.loop-k.invariant (search rules)

pub returns-after-loop-k : goal.returns-after-loop-k
returns-after-loop-k g c = search (rules, words_stored)

pub returns-else-i-table : goal.returns-else-i-table
returns-else-i-table g c = search (rules, stored_none)
