use Rattle.json_text.proofs.Writing.{both, same_text}
use Rattle.json_text.proofs.Fields.{row_is}
use Rattle.json_text.proofs.rows.NodeRow.write.Goals as goal

pub returns : goal.returns
returns c = same_text (row_is c.args.self c.name_of.ensures)
    (both c.put.ensures
    (both c.put-2.ensures
    (both c.put-3.ensures
    (both c.next.ensures (both c.next-2.ensures (both c.next-3.ensures (both c.put-4.ensures (both c.value.ensures (both c.base.ensures c.put-5.ensures)))))))))
