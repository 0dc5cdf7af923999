use mathlib.Core.Path.{sym}
use Rattle.lexer.proofs.Texts.{word_is}
use Rattle.lexer.proofs.class.in_word.Goals as goal

pub returns : goal.returns
returns c = sym (word_is c.args.b _ c.ranges.b.fits c.class_of.ensures)
