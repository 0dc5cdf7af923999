use mathlib.Core.Path.{refl}
use Rattle.patterns.specs.Bytes.{same, starts}
use Rattle.lexer.specs.Kinds.{fixed_of, texts}
use Rattle.lexer.specs.declared.class.TheConstants.{PAIRS}
use Rattle.lexer.proofs.Texts.{MarkTable, not_picked, picked_next}
use Rattle.lexer.proofs.class.pair_of.Goals as goal

table : MarkTable PAIRS
unfolding fixed_of texts same starts
table = record { right = tt; whole = tt; size = refl }

pub returns-then-next-d : goal.returns-then-next-d
returns-then-next-d c = not_picked table c.args.c c.args.d _ c.requires.0 c.requires.1 c.if-next-d.true

pub returns : goal.returns
returns c = picked_next table c.args.c c.args.d _ c.requires.0 c.requires.1 c.if-next-d.false c.then_some.ensures
