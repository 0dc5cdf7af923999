-- One of a list of fields meets its contract. Assumes nothing.
use Rattle.cursor.proofs.Reading.{one_step, ◌then◌}
use Rattle.parser.proofs.items.FieldRepeated.one.Goals as goal

pub returns : goal.returns
returns c = c.spanned_ident-p.ensures then (one_step c.take-p.ensures) then c.type_expr.ensures
