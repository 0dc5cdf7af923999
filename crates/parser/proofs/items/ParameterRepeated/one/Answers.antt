-- One of a list of parameters meets its contract. Assumes nothing.
use Rattle.cursor.proofs.Reading.{one_free, ◌then◌}
use Rattle.parser.proofs.items.ParameterRepeated.one.Goals as goal

pub returns : goal.returns
returns c = c.param-p.ensures then (one_free c.tick.ensures)
