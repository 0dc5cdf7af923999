use mathlib.Core.Path.{sym, ◌∙◌}
use native.Mathlib.Omega.{arith}
use borrow.Author.Rules.{rules}
use mathlib.Core.List.{List}
use Prim.Native.Nat.{ℕ, ◌<◌}
use lib.ListN.{length-take, length-drop}
use Rattle.patterns.specs.Bytes.{in_set, word}
use Rattle.patterns.proofs.Runs.{run_within, rest_is}
use Rattle.lexer.specs.Scans.{Begun}
use Rattle.lexer.proofs.Scans.{Marked, found_name, found_numeral, found_nothing, found_lone, found_last, found_slash, kind_marks, by_bytes, found_single, found_pair, found_comment, found_broken, line_within}
use Rattle.lexer.proofs.scan.scan.Goals.{then-single-via-then-single, then-single-via-else-single+then-t-eq1}
use Rattle.lexer.proofs.scan.scan.Goals as goal

marked : {s : List ℕ} {c : ℕ} → Begun s c → c < 0x80 → Marked s c
marked b h = record { begun = b; low = h }

pub returns-then-c-eq-DIGIT : goal.returns-then-c-eq-DIGIT
returns-then-c-eq-DIGIT c = found_numeral c.requires.begun (search) (search) (cc)

pub slice_bounds-keyword-end : goal.slice_bounds-keyword-end
slice_bounds-keyword-end c = simp length-take (omega (arith, run_within (in_set word) c.args.t.now))

pub returns-then-c-ge-LETTER : goal.returns-then-c-ge-LETTER
returns-then-c-ge-LETTER c = rw c.unwrap_or-kind.ensures (found_name c.requires.begun (omega arith) (search) c.keyword.ensures)

pub strange-requires-clause-stuck : goal.strange-requires-clause-stuck
strange-requires-clause-stuck c = found_nothing c.requires.begun (omega arith) (omega arith)

pub returns-then-single : goal.returns-then-single
returns-then-single c =
    let m = marked c.requires.begun (omega arith) in
    elim c.then-single.branch [
      | then-single-via-then-single w ↦ found_lone m (sym c.single.ensures ∙ w.if-single.true)
      | then-single-via-else-single+then-t-eq1 w ↦ found_last m w.if-t-eq1.true
    ]

pub returns-then-t-ne47 : goal.returns-then-t-ne47
returns-then-t-ne47 c = found_slash (marked c.requires.begun (omega arith)) (search) (search)

pub returns-in_err-line_run : goal.returns-in_err-line_run
returns-in_err-line_run c = found_broken (marked c.requires.begun (omega arith)) (search) (search) (search rules) (search rest_is) c.line_run.ensures c.in_err-line_run.was _ c.from_residual.ensures.0

pub overflow_add-result : goal.overflow_add-result
overflow_add-result c = omega (arith, simp (length-take, length-drop) at (line_within c.line_run.ensures c.in_ok-line_run.was))

pub returns-then-c : goal.returns-then-c
returns-then-c c = found_comment (marked c.requires.begun (omega arith)) (search) (search) (search rules) (search rest_is) c.line_run.ensures c.in_ok-line_run.was

pub pair_of-requires : goal.pair_of-requires
pair_of-requires c = kind_marks (marked c.requires.begun (omega arith))

pub returns-in-Some : goal.returns-in-Some
returns-in-Some c = let m = marked c.requires.begun (omega arith) in found_pair m (search rules) (search) (by_bytes m c.pair_of.ensures) c.in-Some.is

pub returns-in-None : goal.returns-in-None
returns-in-None c = let m = marked c.requires.begun (omega arith) in found_single m (search) (by_bytes m c.pair_of.ensures) c.in-None.is
