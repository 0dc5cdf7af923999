-- `is_prefix` meets its contract. Assumes nothing.
use Rattle.cursor.proofs.Reading.{◌∙◌, prefix_test}
use Rattle.expressions.proofs.is_prefix.Goals as goal

pub returns : goal.returns
returns c = c.is_some.ensures ∙ prefix_test c.unary_op.ensures
