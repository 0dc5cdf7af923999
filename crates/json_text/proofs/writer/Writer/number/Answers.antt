use Rattle.std.proofs.Common.{arith, ◌∙◌}
use Rattle.json_text.proofs.Decimal.{decimal_printed}
use Rattle.json_text.proofs.Writing.{same_text}
use Rattle.json_text.proofs.writer.Writer.number.Goals as goal

pub returns : goal.returns
returns c = same_text (c.as_bytes.ensures.value ∙ c.format.ensures.text ∙ decimal_printed _ (omega arith)) c.put.ensures
