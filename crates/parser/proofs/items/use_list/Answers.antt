-- `use_list` meets its contract. Assumes nothing.
use Rattle.cursor.proofs.Reading.{one_step, one_free, ◌then◌}
use Rattle.parser.proofs.items.use_list.Goals as goal

pub returns : goal.returns
returns c = c.spanned_ident-p.ensures then (one_free c.tick-p.ensures) then c.many-p.ensures then (one_step c.take-p.ensures) then (one_step c.take-p-2.ensures) then c.list-p.ensures then (one_step c.take-p-3.ensures) then (one_step c.take-p-4.ensures) then c.whole.ensures
