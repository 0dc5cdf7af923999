use native.Mathlib.Omega.{arith}
use Rattle.patterns.specs.Bytes.{in_set, word}
use Rattle.patterns.proofs.Runs.{rest_is, run_within}
use Rattle.lexer.proofs.Pieces.{piece, some_pass, all_pass, rest_passes}
use Rattle.lexer.proofs.class.word_run.Goals as goal

pub returns-then-n-lt4 : goal.returns-then-n-lt4
returns-then-n-lt4 c =
    let v = c.loop-four.invariant in
    some_pass v.2 (piece c.in-Some.ensures.steps.1.0 c.in-Some.ensures.steps.1.1 v.3 v.4) c.word_within-n.ensures c.if-n-lt4.true

pub loop-four-preserved : goal.loop-four-preserved
loop-four-preserved c =
    let v = c.loop-four.invariant in
    let p = piece c.in-Some.ensures.steps.1.0 c.in-Some.ensures.steps.1.1 v.3 v.4 in
    (omega arith, tt, all_pass v.2 p c.word_within-n.ensures c.if-n-lt4.false, p.left, omega arith)

pub overflow_add-result-2 : goal.overflow_add-result-2
overflow_add-result-2 c =
    let p = rest_passes c.loop-four.invariant.2 (rest_is c.args.t.now c.loop-four.i) c.word_within.ensures in
    omega (arith, p, run_within (in_set word) c.args.t.now)

pub returns : goal.returns
returns c = rest_passes c.loop-four.invariant.2 (rest_is c.args.t.now c.loop-four.i) c.word_within.ensures
