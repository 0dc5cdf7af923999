use Rattle.numeral.proofs.Steps.{way_none, way_more, way_stop, way_end, way_after}
use Rattle.numeral.proofs.parse_number_literal.Goals.{else-loop-b-test, then-loop-b-test+in_default}
use Rattle.numeral.proofs.parse_number_literal.Goals as goal

pub loop-b-init : goal.loop-b-init
loop-b-init c = way_none c.new-number.ensures

pub loop-b-preserved : goal.loop-b-preserved
loop-b-preserved c = way_more c.loop-b.invariant c.loop-b-test.true c.in-Some.ensures

pub returns-clause-size : goal.returns-clause-size
returns-clause-size c =
    elim c.loop-b-test.branch [
      | else-loop-b-test w ↦ way_end c.loop-b.invariant w.loop-b-test.false
      | then-loop-b-test+in_default w ↦ way_stop c.loop-b.invariant w.loop-b-test.true w.in_default.ensures
    ]

pub returns-clause-value : goal.returns-clause-value
returns-clause-value c = c.finish.ensures _ (way_after c.loop-b.invariant)
