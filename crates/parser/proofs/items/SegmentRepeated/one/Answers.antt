-- One name more of a path meets its contract. Assumes nothing.
use Rattle.cursor.proofs.Reading.{one_step, one_free, ◌then◌}
use Rattle.parser.proofs.items.SegmentRepeated.one.Goals as goal

pub returns : goal.returns
returns c = (one_step c.take-p.ensures) then c.spanned_ident-p.ensures then (one_free c.tick.ensures)
