use Rattle.numeral.proofs.Steps.{step_fast}
use Rattle.numeral.proofs.NumberParser.step.Goals as goal

pub returns-then-self-lt-SMALL : goal.returns-then-self-lt-SMALL
returns-then-self-lt-SMALL c = step_fast c.requires.reached c.ranges.b.fits c.digit_of-d.ensures c.if-d-self.true c.if-self-lt-SMALL.true c.pushed.ensures
