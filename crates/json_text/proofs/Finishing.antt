-- The end of a text. Assumes nothing.
use mathlib.Core.Path.{◌≡◌, sym, ap, ◌∙◌}
use mathlib.Core.List.{List}
use Prim.Native.Nat.{ℕ, ◌≤◌}
use native.Mathlib.Omega.{arith}
use lib.ListN.{length, take}
use lib.Seq.{length-take-le}
use Rattle.std.proofs.Common.{Option, Some, None, unwrap_or}
use Rattle.tables.specs.Tables.{cleared}
use Rattle.tables.proofs.Laws.{cleared_all, filled_is}
use Rattle.json_text.specs.Writes.{Holds, held, full, Finished, fits, past, Finishes}
use Rattle.json_text.specs.declared.writer.Writer.{Writer}

finished : (t T U : List ℕ) (n : ℕ) (end : Option ℕ) → n ≡ unwrap_or end 0 → U ≡ cleared n T → Holds t T end → Finished t (length T) U end
unfolding cleared
finished t T U n (Some at) e f (held h k) =
    let l : length t ≡ at = sym (ap length k) ∙ length-take-le at T h in
    let n : length t ≤ length T = omega arith in
    rw (f, e, ← l, ap (λ (m : ℕ). take m T) l ∙ k, ← filled_is (length T) t n) (fits n)
finished t T U n None e f (full h) = rw (f, e, cleared_all T) (past h)

pub finishes : (w : Writer) {U : List ℕ} {n : ℕ} → n ≡ unwrap_or w.end 0 → U ≡ cleared n w.out.now → Finishes w U w.end
finishes w {U} {n} e f = record { on = λ t h. finished t w.out.now U n w.end e f h }
