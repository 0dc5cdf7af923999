use Rattle.numeral.proofs.Steps.{Way}
use Rattle.numeral.proofs.parse_number_literal.Given as goal

abbrev pub invariant-loop-b : goal.invariant-loop-b
invariant-loop-b l = Way l.t l.b-index l.size l.number
