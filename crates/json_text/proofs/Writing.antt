-- A text that is written piece by piece. Assumes nothing.
use mathlib.Core.Path.{◌≡◌, refl, sym, ap, subst, ◌∙◌}
use mathlib.Core.List.{List, [], ◌++◌, append_assoc, append-nil}
use Prim.Native.Nat.{ℕ, ◌≤◌}
use native.Mathlib.Omega.{arith}
use lib.ListN.{length, take, length-append}
use lib.Seq.{length-take-le, take-append_seam}
use Rattle.std.proofs.Common.{Option, Some, None, MatchOption}
use Rattle.json_text.specs.Copied.{Copied, PastEnd}
use Rattle.json_text.specs.Writes.{Holds, held, full, Writes}
use Rattle.json_text.specs.declared.writer.Writer.{Writer}

-- ---- a piece
abbrev Copies : ℕ → List ℕ → List ℕ → List ℕ → Option ℕ → Type 0
Copies at w T U r = MatchOption r (PastEnd T at w × (U ≡ T)) (λ end. Copied at w end T U)

copied_on : (t w T U : List ℕ) (at : ℕ) (r : Option ℕ) → Copies at w T U r → length U ≡ length T → at ≤ length T → take at T ≡ t → Holds (t ++ w) U r
copied_on t w T U at None p s h e = full (omega (arith, p.0, length-append t w, ap length e, length-take-le at T h))
copied_on t w T U at (Some end) p s h e =
    let n : end ≡ length (take at T ++ w) = omega (arith, p.end_is, length-append (take at T) w, length-take-le at T h) in
    held (omega (arith, p.room)) (ap (take end) p.bytes ∙ rw (n, take-append_seam, e))

put_on : (t w T U : List ℕ) (at : ℕ) (end r : Option ℕ) → end ≡ Some at → Copies at w T U r → length U ≡ length T → Holds t T end → Holds (t ++ w) U r
put_on t w T U at (Some n) r e p s (held h k) = let q : n ≡ at = cc in copied_on t w T U at r p s (rw (← q) h) (rw (← q) k)
put_on t w T U at None r e p s (full h) = absurd (cc)

full_on : (t w T : List ℕ) (end : Option ℕ) → end ≡ None → Holds t T end → Holds (t ++ w) T end
full_on t w T (Some n) e (held h k) = absurd (cc)
full_on t w T None e (full h) = full (omega (arith, length-append t w))

module _ {w : List ℕ} {old new : Writer} where
  pub put_some : {at : ℕ} → old.end ≡ Some at → MatchOption new.end (PastEnd old.out.now at w × (new.out.now ≡ old.out.now)) (λ end. Copied at w end old.out.now new.out.now)
      → new.out.ghost_name ≡ old.out.ghost_name → length new.out.now ≡ length old.out.now → Writes w old new
  put_some {at} e p n s = record { same = n; size = s; on = λ t h. put_on t w old.out.now new.out.now at old.end new.end e p s h }

pub put_none : {w : List ℕ} {old : Writer} → old.end ≡ None → Writes w old old
put_none {w} {old} e = record { same = refl; size = refl; on = λ t h. full_on t w old.out.now old.end e h }

-- ---- pieces
pub both : {w v : List ℕ} {a b c : Writer} → Writes w a b → Writes v b c → Writes (w ++ v) a c
both {w} {v} {c = c} p q =
    record {
      same = q.same ∙ p.same;
      size = q.size ∙ p.size;
      on = λ t h. subst (λ (l : List ℕ). Holds l c.out.now c.end) (append_assoc t w v) (q.on (t ++ w) (p.on t h));
    }

pub same_text : {w v : List ℕ} {a b : Writer} → w ≡ v → Writes w a b → Writes v a b
same_text {a = a} {b} e p = subst (λ (l : List ℕ). Writes l a b) e p

pub nothing : {a : Writer} → Writes [] a a
nothing {a} = record { same = refl; size = refl; on = λ t h. subst (λ (l : List ℕ). Holds l a.out.now a.end) (sym (append-nil t)) h }
