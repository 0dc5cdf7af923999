use Rattle.std.proofs.Common.{arith}
use Rattle.json_text.proofs.Writing.{both}
use Rattle.json_text.proofs.Fields.{value_number, value_string}
use Rattle.json_text.proofs.writer.Writer.value.Goals as goal

pub returns-then-value-le-MAX_SAFE_INTEGER : goal.returns-then-value-le-MAX_SAFE_INTEGER
returns-then-value-le-MAX_SAFE_INTEGER c = value_number (omega arith) c.number.ensures

pub returns : goal.returns
returns c = value_string (omega arith) (both c.put.ensures (both c.number-2.ensures c.put-2.ensures))
