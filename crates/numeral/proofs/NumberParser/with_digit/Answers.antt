use mathlib.Core.Path.{sym, ◌∙◌}
use borrow.Author.Tests.{ltb-true, ltb-false}
use Rattle.numeral.specs.Parser.{value, full, still}
use Rattle.numeral.proofs.NumberParser.with_digit.Goals as goal

pub returns-then-late : goal.returns-then-late
returns-then-late c = still (sym c.late.ensures ∙ c.if-late.true)

pub returns-then-overflows : goal.returns-then-overflows
returns-then-overflows c = full (sym c.late.ensures ∙ c.if-late.false) (ltb-true _ _ (sym c.overflows.ensures ∙ c.if-overflows.true))

pub returns : goal.returns
returns c = value (sym c.late.ensures ∙ c.if-late.false) (ltb-false _ _ (sym c.overflows.ensures ∙ c.if-overflows.false))
