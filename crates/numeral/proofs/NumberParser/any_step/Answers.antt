use mathlib.Core.Path.{sym, ◌∙◌}
use Rattle.numeral.specs.Parser.{stop}
use Rattle.numeral.proofs.Steps.{step_value, step_full, step_base, step_ended}
use Rattle.numeral.proofs.NumberParser.any_step.Goals as goal

pub returns-then-not-word_byte : goal.returns-then-not-word_byte
returns-then-not-word_byte c = stop (sym c.word_byte.ensures ∙ c.if-not-word_byte.true)

pub returns-in-Ok : goal.returns-in-Ok
returns-in-Ok c = step_value c.requires.reached (sym c.word_byte.ensures ∙ c.if-not-word_byte.false) c.digit_of-d.ensures c.pushed-last.ensures c.marked-mark.ensures (c.takes.ensures.yes c.if-takes.true).0 (c.takes.ensures.yes c.if-takes.true).1 c.in-Ok.ensures

pub returns-in-Err : goal.returns-in-Err
returns-in-Err c = step_full c.requires.reached (sym c.word_byte.ensures ∙ c.if-not-word_byte.false) c.digit_of-d.ensures c.pushed-last.ensures c.marked-mark.ensures (c.takes.ensures.yes c.if-takes.true).0 (c.takes.ensures.yes c.if-takes.true).1 c.in-Err.ensures

pub returns-in-Some : goal.returns-in-Some
returns-in-Some c = step_base (sym c.word_byte.ensures ∙ c.if-not-word_byte.false) c.in-Some.ensures c.new.ensures

pub returns : goal.returns
returns c = step_ended c.requires.reached (sym c.word_byte.ensures ∙ c.if-not-word_byte.false) c.digit_of-d.ensures c.pushed-last.ensures c.marked-mark.ensures (c.takes.ensures.no c.if-takes.false) (c.in_default.ensures) c.next_cut.ensures c.ended.ensures
