-- A fixed word at the start of a text, and as the whole of it. Assumes nothing.
use mathlib.Core.Path.{◌≡◌, refl, sym, ap₂, ◌∙◌}
use mathlib.Core.Bool.{Bool, true, false, ◌&&◌, false≢true}
use mathlib.Core.List.{List, [], ◌∷◌}
use Prim.Native.Nat.{ℕ, zero, suc, ◌≤◌, ◌<◌, zero-le}
use native.Mathlib.Omega.{arith}
use lib.Dec.{T, eqb, eqb→eq, eqb_refl}
use lib.ListN.{length, get_or}
use borrow.Author.Tests.{eq-eqb}
use Rattle.std.specs.List.{starts_with}
use Rattle.patterns.specs.Bytes.{starts, same}
use Rattle.patterns.proofs.Tests.{T_of, of_T, and_l, and_r, and_t}

pub starts_long : (w s : List ℕ) → starts w s ≡ true → length w ≤ length s
unfolding starts
starts_long [] s e = zero-le
starts_long (a ∷ w) [] e = absurd (false≢true e)
starts_long (a ∷ w) (b ∷ s) e = omega (arith, starts_long w s (of_T _ (and_r (eqb b a) (starts w s) (T_of e))))

pub starts_byte : (w s : List ℕ) (i : ℕ) → starts w s ≡ true → i < length w → get_or s i 0 ≡ get_or w i 0
unfolding starts
starts_byte [] s i e h = absurd (omega arith)
starts_byte (a ∷ w) [] i e h = absurd (false≢true e)
starts_byte (a ∷ w) (b ∷ s) zero e h = eqb→eq b a (and_l (eqb b a) (starts w s) (T_of e))
starts_byte (a ∷ w) (b ∷ s) (suc i) e h = starts_byte w s i (of_T _ (and_r (eqb b a) (starts w s) (T_of e))) (omega arith)

-- ---- the whole text
starts_same : (w s : List ℕ) → length s ≡ length w → starts w s ≡ true → s ≡ w
unfolding starts
starts_same [] [] e h = refl
starts_same [] (b ∷ s) e h = absurd (omega arith)
starts_same (a ∷ w) [] e h = absurd (omega arith)
starts_same (a ∷ w) (b ∷ s) e h =
    ap₂ ◌∷◌ (eqb→eq b a (and_l (eqb b a) (starts w s) (T_of h))) (starts_same w s (omega arith) (of_T _ (and_r (eqb b a) (starts w s) (T_of h))))

pub same_is : (w s : List ℕ) → same w s ≡ true → s ≡ w
unfolding same
same_is w s h = starts_same w s (eqb→eq _ _ (and_l (eqb (length s) (length w)) (starts w s) (T_of h))) (of_T _ (and_r (eqb (length s) (length w)) (starts w s) (T_of h)))

starts_self : (v : List ℕ) → T (starts v v)
unfolding starts
starts_self [] = tt
starts_self (a ∷ v) = and_t (eqb a a) (starts v v) (eqb_refl a) (starts_self v)

pub same_self : (w : List ℕ) → same w w ≡ true
unfolding same
same_self w = of_T _ (and_t (eqb (length w) (length w)) (starts w w) (eqb_refl (length w)) (starts_self w))

-- ---- the library's test
-- two tests that pass alike
alike : (a b : Bool) → (a ≡ true → b ≡ true) → (b ≡ true → a ≡ true) → a ≡ b
alike true b f g = sym (f refl)
alike false true f g = g refl
alike false false f g = refl

starts_alike : (w s : List ℕ) → starts_with eqb s w ≡ starts w s
unfolding starts
starts_alike [] s = refl
starts_alike (a ∷ w) [] = refl
starts_alike (a ∷ w) (b ∷ s) =
    ap₂ ◌&&◌ (alike (eqb a b) (eqb b a) (λ e. eq-eqb b a (sym (eqb→eq a b (T_of e)))) (λ e. eq-eqb a b (sym (eqb→eq b a (T_of e))))) (starts_alike w s)

pub starts_is : {r : Bool} (w s : List ℕ) → r ≡ starts_with eqb s w → r ≡ starts w s
starts_is w s e = e ∙ starts_alike w s
