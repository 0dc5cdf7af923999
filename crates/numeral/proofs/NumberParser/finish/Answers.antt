use mathlib.Core.Path.{ap, ◌∙◌}
use Rattle.numeral.specs.Parser.{literal}
use Rattle.tables.specs.declared.entry_codes.Suffix.{Suffix}
use Rattle.numeral.proofs.Steps.{says_word, says_digits, says_cut}
use Rattle.numeral.proofs.NumberParser.finish.Goals as goal

pub returns-in-None : goal.returns-in-None
returns-in-None c s a = c.literal.ensures ∙ ap (literal _ Suffix.Absent) c.said.ensures ∙ says_digits s a c.in-None.is

pub returns-in-Absent : goal.returns-in-Absent
returns-in-Absent c s a = c.literal-in-Absent.ensures ∙ ap (literal _ Suffix.Other) c.said-in-Absent.ensures ∙ says_cut s a (c.in-Absent.ensures _ a.upto.last) c.in-Some.is

pub returns-in_default : goal.returns-in_default
returns-in_default c s a = c.literal-in_default.ensures ∙ says_word s a (c.word_at.ensures _ a.upto.last) c.in_default.not-Absent
