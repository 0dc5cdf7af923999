-- The measure is what is left of the line.
use Rattle.std.proofs.Common.{length}
use Rattle.lexer_cases.proofs.input.bytes.Given as goal

abbrev pub decreases-loop-case : goal.decreases-loop-case
decreases-loop-case l = length l.case.rest.now
