-- `unit_type` meets its contract. Assumes nothing.
use Rattle.cursor.proofs.Reading.{refl, body, grown, no_other, one_grown, by_rule}
use Rattle.grammar.specs.Derive as G
use Rattle.parser.proofs.items.unit_type.Goals as goal

pub returns : goal.returns
unfolding body
returns c = grown (λ text w. by_rule G.unit refl (no_other c.if-ne.ensures) c.enter-p.ensures (one_grown c.spanless-p.ensures) c.leave.ensures)
