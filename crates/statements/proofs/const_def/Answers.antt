-- `const_def` meets its contract. Assumes nothing.
use Rattle.cursor.proofs.Reading.{one_step, ◌then◌}
use Rattle.statements.proofs.const_def.Goals as goal

pub returns : goal.returns
returns c = (one_step c.take-p.ensures) then c.spanned_ident-p.ensures then c.value.ensures
