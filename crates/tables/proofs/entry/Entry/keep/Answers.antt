use Rattle.tables.proofs.Entries.{kept_some_of}
use Rattle.tables.proofs.entry.Entry.keep.Goals as goal

pub returns : goal.returns
returns g c = kept_some_of g.Self.Entry.SIZE c.args.k c.args.table.now c.fill.new.self g.met.Self.Entry.positive c.SIZE.ensures c.room.ensures c.min.ensures (c.fill.ensures.after (λ y e. e))
