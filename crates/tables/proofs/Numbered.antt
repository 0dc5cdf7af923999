-- A `for` over the numbered items of an iterator. Assumes nothing.
use mathlib.Core.Path.{◌≡◌, refl, sym, ap, ◌∙◌}
use mathlib.Core.List.{List, [], ◌∷◌, ◌++◌, map, map-append}
use Prim.Native.Nat.{ℕ, ◌+◌}
use native.Mathlib.Omega.{arith}
use lib.ListN.{length}
use Rattle.std.specs.Prelude.{Option, Some, None}
use Rattle.std.specs.List.{enumerate_from}
use Rattle.std.specs.Iterator.{Yields}
use Rattle.std.specs.Iterator.Adapters.{enumerate_source, enumerate_count, enumerate_steps}
use Rattle.std.specs.declared.iter.Enumerate.{Enumerate}
use Rattle.std.proofs.lemmas.Iterator.{YieldsList}
use Rattle.std.proofs.lemmas.Iterator.Consumers.{YieldsList-at, YieldsList-from_enumerate, YieldsList-turn, YieldsList-end}
use Rattle.std.proofs.lemmas.List.FromFn.{length-enumerate_from, get_or-enumerate_from}

module _ {A B : Type 0} (f : A → B) where
  -- what f says of each item
  abbrev pub each : List (ℕ × A) → List B
  each xs = map (λ p. f p.1) xs

  pub each_more : (xs : List (ℕ × A)) (p : ℕ × A) → each (xs ++ (p ∷ [])) ≡ each xs ++ (f p.1 ∷ [])
  each_more xs p = map-append (λ p. f p.1) xs (p ∷ [])

  unnumbered : (n : ℕ) (l : List A) → each (enumerate_from n l) ≡ map f l
  unnumbered n [] = refl
  unnumbered n (x ∷ l) = ap (f x ∷◌) (unnumbered (n + 1) l)

  repaired : (xs : List (ℕ × A)) → each (map (λ p. (p.0, p.1)) xs) ≡ each xs
  repaired [] = refl
  repaired (x ∷ xs) = ap (f x.1 ∷◌) (repaired xs)

-- the loop began at t, has had xs and is at u
module _ {S A : Type 0} {steps : S → Option A → S → Type 0} {s t : Enumerate S} {all : List A} (e : YieldsList steps (λ x. x) (enumerate_source s) all) (n : enumerate_count s ≡ 0) (b : t ≡ s) (xs : List (ℕ × A)) (u : Enumerate S)
    (y : Yields (enumerate_steps steps) t xs u) (r : Option (ℕ × A)) (w : Enumerate S) where
  road : YieldsList (enumerate_steps steps) (λ (p : ℕ × A). (p.0, p.1)) t (enumerate_from 0 all)
  road = YieldsList-at b (YieldsList-from_enumerate e n)

  -- the next item has their count as its number
  pub numbered : {i : ℕ} {x : A} → r ≡ Some (i, x) → enumerate_steps steps u r w → i ≡ length xs
  numbered {i} {x} g p =
      let h = YieldsList-turn road xs u y r w (i, x) g p in
      let k = ap (λ (p : ℕ × A). p.0) (h.1 ∙ get_or-enumerate_from 0 all (length xs) (i, x) (omega (arith, h.0, length-enumerate_from 0 all))) in
      omega arith

  -- there is no next: they were all
  pub all_numbered : r ≡ None → enumerate_steps steps u r w → {B : Type 0} (f : A → B) → each f xs ≡ map f all
  all_numbered g p f = sym (repaired f xs) ∙ ap (each f) (YieldsList-end road xs u y r w g p).0 ∙ unnumbered f 0 all
