use Rattle.std.proofs.Common.{rules}
use Rattle.tables.specs.Tables.{nodes_of}
use Rattle.json_text.specs.Json.{listing}
use Rattle.listing.proofs.Results.{written, all_known, some_unknown}
use Rattle.listing.proofs.list.Goals as goal

pub returns-then-not-all_known : goal.returns-then-not-all_known
returns-then-not-all_known c = some_unknown _ c.all_known.ensures c.if-not-all_known.true (c.fill.ensures.after (λ y e. e))

pub returns : goal.returns
unfolding listing nodes_of
returns c =
    all_known _ c.all_known.ensures c.if-not-all_known.false
    (written c.new-writer.ensures c.rows.ensures c.finish.ensures (search rules) c.ok_or.ensures.value)
