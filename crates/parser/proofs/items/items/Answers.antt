-- `items` meets its contract. Assumes nothing.
use Rattle.cursor.proofs.Reading.{}
use Rattle.parser.proofs.items.items.Goals as goal

pub returns : goal.returns
returns c = c.many.ensures
