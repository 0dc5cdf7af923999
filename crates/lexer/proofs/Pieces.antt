-- Runs over a text that is read in pieces of one size. Assumes nothing.
use mathlib.Core.Path.{◌≡◌, refl, sym, ap, ◌∙◌}
use mathlib.Core.Bool.{Bool, true, false, cond}
use mathlib.Core.List.{List, [], ◌∷◌, ◌++◌}
use Prim.Native.Nat.{ℕ, suc, ◌+◌, ◌≤◌, ◌<◌, min}
use native.Mathlib.Omega.{arith}
use lib.ListN.{length, drop, length-append, length-drop}
use lib.Seq.{drop-drop}
use Rattle.std.specs.List.{prefix_len}
use Rattle.patterns.specs.Bytes.{run}
use Rattle.patterns.proofs.Runs.{Passed}

-- the next k bytes from i on are x, and r are left
pub record Piece (t : List ℕ) (i k : ℕ) (x r : List ℕ) : Type 0 where
  pub front : x ++ r ≡ drop i t
  pub size : length x ≡ k
  pub left : r ≡ drop (i + k) t

drop_front : (x r : List ℕ) → drop (length x) (x ++ r) ≡ r
drop_front [] r = refl
drop_front (a ∷ x) r = drop_front x r

pub piece : {s x r t : List ℕ} {i k m : ℕ} → s ≡ x ++ r → length x ≡ m → s ≡ drop i t → m ≡ k → Piece t i k x r
piece {s} {x} {r} {t} {i} {k} c l q e =
    record {
      front = sym c ∙ q;
      size = l ∙ e;
      left = sym (drop_front x r) ∙ ap (drop (length x)) (sym c ∙ q) ∙ ap (λ (n : ℕ). drop n (drop i t)) (l ∙ e) ∙ drop-drop k i t;
    }

pub run_is : (f : ℕ → Bool) (s : List ℕ) → prefix_len f s ≡ run f s
unfolding run
run_is f [] = refl
run_is f (b ∷ s) = go (f b) (run_is f s)
  where
    go : (c : Bool) → prefix_len f s ≡ run f s → cond c (1 + prefix_len f s) 0 ≡ cond c (suc (run f s)) 0
    go true e = omega arith
    go false e = refl

run_front : (f : ℕ → Bool) (x r : List ℕ) → run f x ≡ min (run f (x ++ r)) (length x)
unfolding run
run_front f [] r = omega arith
run_front f (b ∷ x) r = go (f b) (run_front f x r)
  where
    go : (c : Bool) → run f x ≡ min (run f (x ++ r)) (length x) → cond c (suc (run f x)) 0 ≡ min (cond c (suc (run f (x ++ r))) 0) (suc (length x))
    go true e = omega arith
    go false e = omega arith

run_past : (f : ℕ → Bool) (x r : List ℕ) → length x ≤ run f x → run f (x ++ r) ≡ length x + run f r
unfolding run
run_past f [] r h = omega arith
run_past f (b ∷ x) r h = go (f b) h (λ k. run_past f x r k)
  where
    go : (c : Bool) → suc (length x) ≤ cond c (suc (run f x)) 0 → (length x ≤ run f x → run f (x ++ r) ≡ length x + run f r) → cond c (suc (run f (x ++ r))) 0 ≡ suc (length x) + run f r
    go true k e = omega (arith, e (omega arith))
    go false k e = absurd (omega arith)

-- n of the piece's bytes pass the test
module _ {f : ℕ → Bool} {t x r : List ℕ} {i k n : ℕ} (p : Passed f t i) (q : Piece t i k x r) (e : n ≡ prefix_len f x) where
  pub some_pass : n < k → i + n ≡ run f t
  some_pass h = omega (arith, p.so_far, ap (run f) q.front, run_front f x r, run_is f x, q.size)

  pub all_pass : k ≤ n → Passed f t (i + k)
  all_pass h =
      let m : run f (x ++ r) ≡ length x + run f r = run_past f x r (omega (arith, run_is f x, q.size)) in
      record {
        within = omega (arith, ap length q.front, q.size, length-append x r, length-drop i t, p.within);
        so_far = omega (arith, p.so_far, m, ap (run f) q.front, ap (run f) q.left, q.size);
      }

-- the rest passes or ends
pub rest_passes : {f : ℕ → Bool} {t s : List ℕ} {i n : ℕ} → Passed f t i → s ≡ drop i t → n ≡ prefix_len f s → i + n ≡ run f t
rest_passes {f} {t} {s} p q e = omega (arith, p.so_far, ap (run f) q, run_is f s)
