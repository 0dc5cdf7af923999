-- `function_def` meets its contract. Assumes nothing.
use Rattle.cursor.proofs.Reading.{one_step, ◌then◌}
use Rattle.parser.proofs.items.function_def.Goals as goal

pub returns : goal.returns
returns c = (one_step c.take-p.ensures) then c.spanned_ident-p.ensures then (one_step c.take-p-2.ensures) then c.list-p.ensures then (one_step c.take-p-3.ensures) then c.return_type-p.ensures then (one_step c.take-p-4.ensures) then c.stmts-p.ensures then (one_step c.take-p-5.ensures) then c.whole.ensures
