-- `for_step` meets its contract. Assumes nothing.
use Rattle.cursor.proofs.Reading.{refl, body, no_other, ◌then◌, by_rule, nothing}
use Rattle.grammar.specs.Derive as G
use Rattle.statements.proofs.for_step.Goals as goal

pub returns : goal.returns
unfolding body
returns c = by_rule G.for_step refl (no_other c.if-ne.ensures) c.enter-p.ensures (c.expr-p.ensures then c.assigned-p.ensures then nothing then c.finish-p.ensures) c.leave.ensures
