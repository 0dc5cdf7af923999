use Rattle.std.proofs.Common.{rules, sym, ◌==◌}
use Rattle.std.proofs.lemmas.List.Sums.{position_or_len_is}
use Rattle.case_io.proofs.cases.line_end.Goals as goal

pub returns-clause-first : goal.returns-clause-first
returns-clause-first c = sym (position_or_len_is (λ b. b == 10) c.args.bytes.now _ 0 (search rules) (λ k h. search rules) (λ h. search rules))
