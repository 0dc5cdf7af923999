use lib.ListN.{length}
use Rattle.utf8.proofs.Laws.{Left}
use Rattle.utf8.proofs.is_utf8.Given as goal

abbrev pub invariant-loop-n : goal.invariant-loop-n
invariant-loop-n l = Left l.text l.rest

abbrev pub decreases-loop-n : goal.decreases-loop-n
decreases-loop-n l = length l.rest
