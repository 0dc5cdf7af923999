-- The entries that are left of a table. Assumes nothing.
use Rattle.std.proofs.Common.{◌≡◌, ℕ, zero, suc, ◌+◌, ◌*◌, ◌/◌, ◌<◌, ◌≤◌, List, [], ◌∷◌, length, take, drop, refl, sym, ap, ap₂, ◌∙◌, arith, length-drop, length-take}
use Rattle.std.proofs.Math.Nat.{div-eq_of_lt, add-div_left, suc-mul, zero-mul, add_comm}
use lib.Seq.{drop-drop, take_all}
use borrow.Author.Tests.{lt-ltb}
use Rattle.tables.specs.Tables.{entry_at, tabulate}
use Rattle.tables.specs.Left.{entries_of}

pub left_none : {A : Type 0} (w : ℕ) (decode : List ℕ → A) (t : List ℕ) → length t < w → entries_of w decode t ≡ []
unfolding tabulate
left_none w decode t h = rw (div-eq_of_lt h) refl

-- functions that agree below n list the same
alike : {A : Type 0} (n : ℕ) (f g : ℕ → A) → ((i : ℕ) → i < n → f i ≡ g i) → tabulate n f ≡ tabulate n g
unfolding tabulate
alike zero f g h = refl
alike (suc n) f g h = ap₂ (◌∷◌) (h 0 (omega arith)) (alike n (λ i. f (suc i)) (λ i. g (suc i)) (λ i k. h (suc i) (omega arith)))

-- how many there is room for, after one
one_fewer : (w : ℕ) (t : List ℕ) → 0 < w → w ≤ length t → length t / w ≡ suc (length (drop w t) / w)
one_fewer w t p h =
    let e : length t ≡ w + length (drop w t) = omega (arith, length-drop w t) in
    rw e (add-div_left (length (drop w t)) p ∙ omega arith)

-- an entry where there is room for it
there : (w : ℕ) (t : List ℕ) (i : ℕ) → i < length t / w → entry_at w t i ≡ take w (drop (i * w) t)
unfolding entry_at
there w t i h = rw (lt-ltb i (length t / w) h) refl

first_is : (w : ℕ) (t : List ℕ) → 0 < w → w ≤ length t → entry_at w t 0 ≡ entry_at w (take w t) 0
first_is w t p h =
    let l : length (take w t) ≡ w = omega (arith, length-take w t) in
    let some : 0 < length t / w = omega (arith, one_fewer w t p h) in
    let one : 0 < length (take w t) / w = omega (arith, one_fewer w (take w t) p (omega arith)) in
    rw (there w t 0 some, there w (take w t) 0 one, zero-mul w) (sym (take_all w (take w t) (omega arith)))

later_is : (w : ℕ) (t : List ℕ) (i : ℕ) → 0 < w → w ≤ length t → i < length (drop w t) / w → entry_at w t (suc i) ≡ entry_at w (drop w t) i
later_is w t i p h k =
    let some : suc i < length t / w = omega (arith, one_fewer w t p h) in
    rw (there w t (suc i) some, there w (drop w t) i k, drop-drop (i * w) w t, suc-mul i w, add_comm (i * w) w) refl

pub left_some : {A : Type 0} (w : ℕ) (decode : List ℕ → A) (t : List ℕ) → 0 < w → w ≤ length t → entries_of w decode t ≡ decode (entry_at w (take w t) 0) ∷ entries_of w decode (drop w t)
unfolding tabulate
left_some w decode t p h =
    ap (λ (n : ℕ). tabulate n (λ i. decode (entry_at w t i))) (one_fewer w t p h)
    ∙ ap₂ (◌∷◌) (ap decode (first_is w t p h)) (alike (length (drop w t) / w) _ _ (λ i k. ap decode (later_is w t i p h k)))
