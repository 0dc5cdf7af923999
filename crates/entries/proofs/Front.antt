-- A list of which the first i records are what f says of their index: what a loop that lays records has done at i. Assumes nothing.
use mathlib.Core.Path.{◌≡◌, refl, ap}
use Prim.Native.Nat.{ℕ, zero, suc, ◌≤◌}
use native.Mathlib.Nat.{le_of_suc-le-suc, not-suc-le-zero}
use mathlib.Core.List.{List, [], ◌∷◌}
use lib.ListN.{length, set}
use Rattle.tables.specs.Tables.{tabulate}

module _ {A : Type 0} where
  abbrev pub front : (ℕ → A) → ℕ → List A → List A
  front f i [] = []
  front f zero (x ∷ xs) = x ∷ xs
  front f (suc i) (x ∷ xs) = f 0 ∷ front (λ j. f (suc j)) i xs

  abbrev on : A → List A → List A
  on x xs = x ∷ xs

  pub front_start : (f : ℕ → A) (l : List A) → front f 0 l ≡ l
  front_start f [] = refl
  front_start f (x ∷ xs) = refl

  pub front_length : (f : ℕ → A) (i : ℕ) (l : List A) → length (front f i l) ≡ length l
  front_length f i [] = refl
  front_length f zero (x ∷ xs) = refl
  front_length f (suc i) (x ∷ xs) = ap suc (front_length (λ j. f (suc j)) i xs)

  pub front_next : (f : ℕ → A) (i : ℕ) (l : List A) → set (front f i l) i (f i) ≡ front f (suc i) l
  front_next f i [] = refl
  front_next f zero (x ∷ []) = refl
  front_next f zero (x ∷ y ∷ xs) = refl
  front_next f (suc i) (x ∷ xs) = ap (on (f 0)) (front_next (λ j. f (suc j)) i xs)

  pub front_all : (f : ℕ → A) (i : ℕ) (l : List A) → length l ≤ i → front f i l ≡ tabulate (length l) f
  unfolding tabulate
  front_all f i [] all = refl
  front_all f zero (x ∷ xs) all = absurd (not-suc-le-zero all)
  front_all f (suc i) (x ∷ xs) all = ap (on (f 0)) (front_all (λ j. f (suc j)) i xs (le_of_suc-le-suc all))

  pub length_tabulate : (n : ℕ) (f : ℕ → A) → length (tabulate n f) ≡ n
  unfolding tabulate
  length_tabulate zero f = refl
  length_tabulate (suc n) f = ap suc (length_tabulate n (λ j. f (suc j)))
