use mathlib.Core.Path.{refl}
use borrow.Author.Rules.{rules}
use Rattle.cairo_m.proofs.Joining.{refuses, takes, unknown_in, reads_accepted, reads_refused}
use Rattle.cairo_m.proofs.read.Goals as goal

pub read_tokens-answer-requires-clause-unknown_value : goal.read_tokens-answer-requires-clause-unknown_value
read_tokens-answer-requires-clause-unknown_value c = unknown_in (takes c.in-Ok.ensures) refl

pub returns-then-is_err : goal.returns-then-is_err
returns-then-is_err c = reads_refused (takes c.in-Ok.ensures) c.read_tokens-answer.ensures refl (search rules) (c.fill.ensures.after (λ y e. e)) (search rules)

pub returns-else-is_err : goal.returns-else-is_err
returns-else-is_err c = reads_accepted (takes c.in-Ok.ensures) c.read_tokens-answer.ensures refl (search rules)

pub returns-in-Err : goal.returns-in-Err
returns-in-Err c = refuses c.in-Err.ensures c.into.ensures _ (c.fill-in-Err.ensures.after (λ y e. e)) (search rules)
