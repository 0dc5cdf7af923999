use mathlib.Core.Path.{sym, ◌∙◌}
use borrow.Author.Rules.{rules}
use Rattle.numeral.proofs.Entries.{answer_long, answer_head, answer_short, answer_read}
use Rattle.numeral.proofs.answer.Goals as goal

pub returns-then-spelling-gt65535 : goal.returns-then-spelling-gt65535
returns-then-spelling-gt65535 c = search (rules, answer_long)

pub returns-then-not-begins_with_digit : goal.returns-then-not-begins_with_digit
returns-then-not-begins_with_digit c = answer_head _ c.if-spelling-gt65535.false (sym c.begins_with_digit.ensures ∙ c.if-not-begins_with_digit.true)

pub returns-then-size-spelling : goal.returns-then-size-spelling
returns-then-size-spelling c = answer_short _ c.if-spelling-gt65535.false c.parse_number_literal-number.ensures.size c.if-size-spelling.true

pub returns : goal.returns
returns c =
    answer_read _ c.if-spelling-gt65535.false _ _ (sym c.begins_with_digit.ensures ∙ c.if-not-begins_with_digit.false) c.parse_number_literal-number.ensures.size c.if-size-spelling.false c.parse_number_literal-number.ensures.value
    c.map_err.ensures.cases
