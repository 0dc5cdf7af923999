-- `advance` meets its contract. Assumes nothing.
use mathlib.Core.Path.{refl, sym, ◌∙◌}
use native.Mathlib.Omega.{arith}
use Rattle.cursor.specs.Steps.{advanced}
use Rattle.cursor.proofs.Steps.{above_none, there}
use Rattle.cursor.proofs.Told.{no_other, of_kind}
use Rattle.cursor.proofs.Cursor.advance.Goals as goal

pub overflow_add-self : goal.overflow_add-self
overflow_add-self c = omega (arith, c.well_formed, there c.args.source.now.tokens.now c.args.self.at (sym c.of.ensures ∙ of_kind c.if-not-is.ensures) (above_none c.args.kind))

pub returns : goal.returns
returns c =
    let e = sym c.of.ensures ∙ of_kind c.if-not-is.ensures in
    advanced (no_other c.if-ne.ensures) e c.if-self-gt-LIMIT.false (there c.args.source.now.tokens.now c.args.self.at e (above_none c.args.kind)) refl
