use Rattle.json_text.proofs.Writing.{both, same_text}
use Rattle.json_text.proofs.Fields.{diagnostic_row_is}
use Rattle.json_text.proofs.rows.DiagnosticRow.write.Goals as goal

pub returns : goal.returns
returns c = same_text (diagnostic_row_is c.args.self) (both c.put.ensures (both c.number.ensures (both c.next.ensures (both c.next-2.ensures c.put-2.ensures))))
