use mathlib.Core.Path.{◌∙◌}
use native.Mathlib.Omega.{arith}
use Rattle.numeral.proofs.Steps.{fresh}
use Rattle.numeral.proofs.NumberParser.new.Goals as goal

pub returns : goal.returns
returns c = fresh (c.from.ensures ∙ c.radix.ensures.value) (omega (arith, c.min.ensures, c.radix-2.ensures.value, c.radix.ensures.value, c.from.ensures)) (omega (arith, c.min.ensures))
