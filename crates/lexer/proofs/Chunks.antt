-- The chunks of sixteen bytes, as the library goes through them. Assumes nothing.
use mathlib.Core.Path.{◌≡◌, sym, ap, ap₂, subst, ◌∙◌}
use mathlib.Core.List.{List, ◌∷◌, ◌++◌}
use Prim.Native.Nat.{ℕ, suc, ◌/◌}
use native.Mathlib.Omega.{arith}
use lib.ListN.{length, take, drop, length-append}
use denote.Ref.{Bor}
use Rattle.std.specs.Prelude.{Some, None}
use Rattle.std.specs.declared.slice.ChunksExact.{ChunksExact}
use Rattle.std.specs.Slice.Iter.{chunks_exact_rest, chunks_exact_size, chunks_exact_steps}
use Rattle.std.specs.Simd.{first_chunks}
use Rattle.std.proofs.lemmas.Iterator.{YieldsList}
use Rattle.std.proofs.lemmas.Iterator.Splits.{YieldsList-from_shown_while}
use Rattle.std.proofs.Math.Seq.{take-append_seam, drop-append_seam}

abbrev of : List ℕ → List (List ℕ)
of l = first_chunks 16 (length l / 16) l

none : (s t : ChunksExact ℕ) → chunks_exact_size s ≡ 16 → chunks_exact_steps s None t → length (of (chunks_exact_rest s)) ≡ 0
none s t p h =
    let e : length (chunks_exact_rest s) / 16 ≡ 0 = omega (arith, p, h.1.0) in
    ap (λ (k : ℕ). length (first_chunks 16 k (chunks_exact_rest s))) e

of_more : (x l : List ℕ) → length x ≡ 16 → of (x ++ l) ≡ x ∷ of l
of_more x l e =
    let k : length (x ++ l) / 16 ≡ suc (length l / 16) = omega (arith, length-append x l, e) in
    ap (λ (n : ℕ). first_chunks 16 n (x ++ l)) k
    ∙ ap₂ (◌∷◌) (ap (λ (n : ℕ). take n (x ++ l)) (sym e) ∙ take-append_seam x l) (ap (first_chunks 16 (length l / 16)) (ap (λ (n : ℕ). drop n (x ++ l)) (sym e) ∙ drop-append_seam x l))

some : (s : ChunksExact ℕ) (x : Bor (List ℕ)) (t : ChunksExact ℕ) → chunks_exact_size s ≡ 16 → chunks_exact_steps s (Some x) t → (chunks_exact_size t ≡ 16) × (of (chunks_exact_rest s) ≡ x.now ∷ of (chunks_exact_rest t))
some s x t p h = (h.0 ∙ p, ap of h.1.0 ∙ of_more x.now (chunks_exact_rest t) (h.1.1 ∙ p))

pub sixteens : {s : ChunksExact ℕ} (t : List ℕ) → chunks_exact_rest s ≡ t → chunks_exact_size s ≡ 16 → YieldsList chunks_exact_steps (λ x. x.now) s (first_chunks 16 (length t / 16) t)
sixteens {s} t e q = subst (λ (l : List ℕ). YieldsList chunks_exact_steps (λ x. x.now) s (of l)) e (YieldsList-from_shown_while chunks_exact_steps (λ x. x.now) (λ c. of (chunks_exact_rest c)) (λ c. chunks_exact_size c ≡ 16) none some s q)
