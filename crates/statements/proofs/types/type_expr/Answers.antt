-- `type_expr` meets its contract. Assumes nothing.
use Rattle.cursor.proofs.Reading.{arith, no_other, by_part}
use Rattle.grammar.specs.Derive as G
use Rattle.statements.proofs.types.type_expr.Goals as goal

pub returns : goal.returns
returns c = by_part G.type (record { upto = omega (arith, c.deeper.ensures) }) (no_other c.if-ne.ensures) c.type_at-q.ensures c.join.ensures
