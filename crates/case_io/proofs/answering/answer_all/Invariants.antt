-- The measure is what is left of the file.
use Rattle.std.proofs.Common.{length}
use Rattle.case_io.proofs.answering.answer_all.Given as goal

abbrev pub decreases-loop-case : goal.decreases-loop-case
decreases-loop-case g l = length l.cases.rest.now
