-- What the loop of `one_of` keeps. Assumes nothing.
use lib.ListN.{take}
use Rattle.expressions.proofs.Operators.{Unmet}
use Rattle.expressions.proofs.one_of.Given as goal

abbrev pub invariant-loop-kind : goal.invariant-loop-kind
invariant-loop-kind g l = Unmet l.k.byte (take l.kind-index l.kind-items)
