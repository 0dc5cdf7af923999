use mathlib.Core.Path.{refl}
use Rattle.lexer.specs.Classes.{class_of}
use Rattle.lexer.specs.declared.class.TheConstants.{CLASS}
use Rattle.patterns.proofs.Table.{table_rule}
use Rattle.lexer.proofs.class.class_of.Goals as goal

pub returns : goal.returns
unfolding class_of
returns c = table_rule class_of CLASS tt refl c.args.b c.ranges.b.fits
