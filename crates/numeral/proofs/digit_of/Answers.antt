use mathlib.Core.Path.{refl, ◌∙◌}
use Rattle.patterns.proofs.Table.{table_rule}
use Rattle.numeral.specs.Numeral.{digit_of}
use Rattle.numeral.specs.declared.TheConstants.{DIGITS}
use Rattle.numeral.proofs.digit_of.Goals as goal

pub returns : goal.returns
unfolding digit_of
returns c = c.from.ensures ∙ table_rule digit_of DIGITS tt refl c.args.b c.ranges.b.fits
