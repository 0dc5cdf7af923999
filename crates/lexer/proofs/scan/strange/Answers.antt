use mathlib.Core.Path.{ap, ◌∙◌}
use Rattle.std.specs.Result.{result_ok}
use Rattle.lexer.proofs.Scans.{strange_char, strange_none}
use Rattle.lexer.proofs.scan.strange.Goals as goal

pub returns-in_err-n : goal.returns-in_err-n
returns-in_err-n c = strange_none c.requires.t_nonzero c.char_len.ensures (c.ok_or.ensures.ok_part ∙ ap result_ok c.in_err-n.was) _ c.from_residual.ensures.0

pub returns : goal.returns
returns c = strange_char c.requires.stuck c.char_len.ensures (c.ok_or.ensures.ok_part ∙ ap result_ok c.in_ok-n.was)
