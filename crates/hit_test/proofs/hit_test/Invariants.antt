use Rattle.hit_test.proofs.Seen.{Seen}
use Rattle.hit_test.proofs.hit_test.Given as goal

abbrev pub invariant-loop-i : goal.invariant-loop-i
invariant-loop-i l = Seen l.offset l.nodes l.i l.shortest l.hit
