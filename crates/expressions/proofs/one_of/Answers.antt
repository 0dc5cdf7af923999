-- `one_of` meets its contract. Assumes nothing.
use native.Mathlib.Numerals.{add-one}
use native.Mathlib.Omega.{arith}
use Rattle.cursor.proofs.Reading.{steps, one_step, of_kind, not_of_kind}
use Rattle.expressions.proofs.Operators.{binary_tag, unmet_more, met, unmet}
use Rattle.expressions.proofs.one_of.Goals as goal

pub loop-kind-init : goal.loop-kind-init
loop-kind-init g c = tt

pub returns-then-is : goal.returns-then-is
returns-then-is g c = steps (λ text T. met c.peek-k.ensures c.args.ops _ _ (omega (arith, c.well_formed, c.loop-kind-test.true)) c.loop-kind.invariant (of_kind c.if-is.ensures) (rw (binary_tag _) at (one_step {text = text} {T = T} c.mark.ensures)))

pub loop-kind-preserved : goal.loop-kind-preserved
loop-kind-preserved g c = rw (add-one _) (unmet_more _ _ _ (omega (arith, c.well_formed, c.loop-kind-test.true)) c.loop-kind.invariant (not_of_kind c.if-is.ensures))

pub returns : goal.returns
returns g c = steps (λ text T. unmet c.peek-k.ensures c.args.ops _ (omega (arith, c.well_formed, c.requires)) (omega (arith, c.well_formed, c.loop-kind-test.false)) c.loop-kind.invariant c.halt.ensures)
