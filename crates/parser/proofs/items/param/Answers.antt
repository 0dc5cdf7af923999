-- `param` meets its contract. Assumes nothing.
use Rattle.cursor.proofs.Reading.{refl, body, no_other, one_grown, one_step, ◌then◌, by_rule}
use Rattle.grammar.specs.Derive as G
use Rattle.parser.proofs.items.param.Goals as goal

pub returns : goal.returns
unfolding body
returns c = by_rule G.param refl (no_other c.if-ne.ensures) c.enter-p.ensures (c.spanned_ident-p.ensures then (one_step c.take-p.ensures) then c.type_expr-p.ensures then (one_grown c.spanless-p.ensures)) c.leave.ensures
