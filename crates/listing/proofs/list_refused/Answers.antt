use Rattle.std.proofs.Common.{rules}
use Rattle.tables.specs.Tables.{diagnostics_of}
use Rattle.json_text.specs.Json.{diagnostic_rows}
use Rattle.json_text.proofs.Writing.{both, same_text}
use Rattle.json_text.proofs.Fields.{refusal_is}
use Rattle.listing.specs.Answers.{refused}
use Rattle.listing.proofs.Results.{written}
use Rattle.listing.proofs.list_refused.Goals as goal

pub returns : goal.returns
unfolding refused diagnostic_rows diagnostics_of
returns c = written c.new-writer.ensures
    (same_text (refusal_is _ _) (both c.put.ensures (both c.number.ensures (both c.put-2.ensures (both c.rows.ensures c.put-3.ensures)))))
    c.finish.ensures (search rules) c.ok_or.ensures.value
