use mathlib.Core.Path.{refl, ap, subst, ◌∙◌}
use Prim.Native.Nat.{◌/◌}
use lib.ListN.{length}
use Rattle.std.specs.Simd.{first_chunks}
use Rattle.std.proofs.lemmas.List.Folds.{length-prefix_len}
use Rattle.std.specs.Result.{result_ok}
use native.Mathlib.Omega.{arith}
use borrow.Author.Rules.{rules}
use borrow.Author.Tests.{tests}
use Rattle.utf8.proofs.Laws.{lent}
use Rattle.std.proofs.lemmas.Iterator.Consumers.{YieldsList-at, count_from_yields_List}
use Rattle.std.proofs.lemmas.Iterator.Search.{YieldsList-from_take_while}
use Rattle.lexer.specs.Scans.{all_plain}
use Rattle.lexer.proofs.Chunks.{sixteens}
use Rattle.lexer.proofs.Scans.{Line, line_none, line_sixteens, line_ascii, line_char, line_newline, line_end, line_broken}
use Rattle.lexer.proofs.scan.line_run.Goals as goal

pub loop-i-init : goal.loop-i-init
loop-i-init c =
    let t = c.args.t.now in
    let n = count_from_yields_List c.take_while.result _ c.count-sixteens.ensures.ran (YieldsList-from_take_while _ all_plain (YieldsList-at c.take_while.ensures.source (sixteens t c.chunks_exact.ensures.rest c.chunks_exact.ensures.size)) c.take_while.ensures.closure c.take_while.ensures.done (λ x b q k. search (rules, tests))) ∙ length-prefix_len all_plain (first_chunks 16 (length t / 16) t) in
    subst (Line t) (omega (arith, n)) (line_sixteens (length t / 16) t line_none refl (omega arith))

pub loop-i-preserved-then-b-lt128 : goal.loop-i-preserved-then-b-lt128
loop-i-preserved-then-b-lt128 c = search (rules, line_ascii)

pub loop-i-preserved : goal.loop-i-preserved
loop-i-preserved c = line_char c.loop-i.invariant c.loop-i-test.true c.if-b-lt128.false c.char_len.ensures (lent c.args.t.now c.loop-i.i) (c.ok_or.ensures.ok_part ∙ ap result_ok c.in_ok-i.was)

pub returns-in_err-i : goal.returns-in_err-i
returns-in_err-i c = line_broken c.loop-i.invariant c.loop-i-test.true c.char_len.ensures (lent c.args.t.now c.loop-i.i) (c.ok_or.ensures.ok_part ∙ ap result_ok c.in_err-i.was) _ c.from_residual.ensures.0

pub returns-after-loop-i : goal.returns-after-loop-i
returns-after-loop-i c = search (rules, line_end)

pub returns-then-b-eq10 : goal.returns-then-b-eq10
returns-then-b-eq10 c = search (rules, line_newline)
