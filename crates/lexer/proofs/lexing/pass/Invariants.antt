use Prim.Native.Nat.{◌-◌}
use lib.ListN.{length}
use Rattle.lexer.proofs.Going.{Going}
use Rattle.lexer.proofs.lexing.pass.Given as goal

abbrev pub invariant-loop-at : goal.invariant-loop-at
invariant-loop-at l = Going l.text l.initial.tokens l.initial.diagnostics l.tokens l.diagnostics l.at l.token_count l.unknown l.error_count

abbrev pub decreases-loop-at : goal.decreases-loop-at
decreases-loop-at l = length l.text - l.at
