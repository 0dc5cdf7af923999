-- A rule of a table, or of all bytes, by one test that antt computes. Assumes nothing.
use mathlib.Core.Path.{◌≡◌, ◌∙◌, sym, subst}
use mathlib.Core.Bool.{Bool, true, ◌&&◌, false≢true}
use mathlib.Core.Logic.{⊎_elim}
use mathlib.Core.List.{List, [], ◌∷◌}
use Prim.Native.Nat.{ℕ, zero, suc, ◌+◌, ◌≤◌, ◌<◌}
use Prim.Native.Char.{code}
use native.Mathlib.Nat.{add-zero, zero-add, add-suc, suc-add}
use native.Mathlib.Omega.{arith}
use lib.Dec.{T, leb, ltb, eqb, eqb→eq, leb→le, le→leb, ltb→lt}
use lib.ListN.{length, get_or, replicate}
use Rattle.patterns.specs.Bytes.{within, Set, in_set}
use Rattle.patterns.proofs.Tests.{T_of, of_T, and_l, and_r, and_t, or_cases, implies, modus}

-- the test passes at each entry of the list and its place, counted from i
abbrev pub every : (ℕ → ℕ → Bool) → ℕ → List ℕ → Bool
every f i [] = true
every f i (x ∷ xs) = f i x && every f (suc i) xs

from : (f : ℕ → ℕ → Bool) (xs : List ℕ) (i : ℕ) → T (every f i xs) → (k : ℕ) → k < length xs → T (f (i + k) (get_or xs k 0))
from f [] i t k h = absurd (omega arith)
from f (x ∷ xs) i t zero h = subst (λ (m : ℕ). T (f m x)) (sym (add-zero i)) (and_l (f i x) (every f (suc i) xs) t)
from f (x ∷ xs) i t (suc k) h =
    subst (λ (m : ℕ). T (f m (get_or xs k 0))) (suc-add i k ∙ sym (add-suc i k))
    (from f xs (suc i) (and_r (f i x) (every f (suc i) xs) t) k (omega arith))

pub at : (f : ℕ → ℕ → Bool) (xs : List ℕ) → T (every f 0 xs) → (k : ℕ) → k < length xs → T (f k (get_or xs k 0))
at f xs t k h = subst (λ (m : ℕ). T (f m (get_or xs k 0))) (zero-add k) (from f xs 0 t k h)

-- a table of the values of f at each byte
pub table_rule : (f : ℕ → ℕ) (l : List ℕ) → T (every (λ k x. eqb x (f k)) 0 l) → length l ≡ 256 → (b : ℕ) → b < 256 → get_or l b 0 ≡ f b
table_rule f l t n b h = eqb→eq _ _ (at (λ k x. eqb x (f k)) l t b (omega arith))

-- the test passes at every number below n
abbrev pub below : ℕ → (ℕ → Bool) → Bool
below n f = every (λ b x. f b) 0 (replicate n 0)

pub below_law : (n : ℕ) (f : ℕ → Bool) → T (below n f) → (b : ℕ) → b < length (replicate {A = ℕ} n 0) → T (f b)
below_law n f t b h = at (λ k x. f k) (replicate n 0) t b h

pub byte_law : (f : ℕ → Bool) → T (below 256 f) → (b : ℕ) → b < 256 → T (f b)
byte_law f t b h = below_law 256 f t b h

-- the bounds that a test gives
pub within_is : (a e x : ℕ) → T (within a e x) → (a ≤ x) × (x ≤ e)
within_is a e x t = (leb→le a x (and_l (leb a x) (leb x e) t), leb→le x e (and_r (leb a x) (leb x e) t))

pub within_of : (a e x : ℕ) → a ≤ x → x ≤ e → T (within a e x)
within_of a e x h k = and_t (leb a x) (leb x e) (le→leb a x h) (le→leb x e k)

-- what is in a set is a byte, where its ranges end below 256
abbrev pub small : Set → Bool
small [] = true
small (r ∷ l) = ltb (code r.1) 256 && small l

pub set_small : (f : Set) → T (small f) → (b : ℕ) → in_set f b ≡ true → b < 256
set_small [] t b h = absurd (false≢true h)
set_small (r ∷ f) t b h =
    ⊎_elim
    (λ p. omega (arith, (within_is (code r.0) (code r.1) b (T_of p)).1, ltb→lt (code r.1) 256 (and_l (ltb (code r.1) 256) (small f) t)))
    (λ p. set_small f (and_r (ltb (code r.1) 256) (small f) t) b p)
    (or_cases (within (code r.0) (code r.1) b) (in_set f b) h)

-- the bytes of a set pass a test
pub subset : (f : Set) (g : ℕ → Bool) → T (small f) → T (below 256 (λ b. implies (in_set f b) (g b))) → (b : ℕ) → in_set f b ≡ true → g b ≡ true
subset f g s t b h = of_T (g b) (modus (in_set f b) (g b) (byte_law (λ b. implies (in_set f b) (g b)) t b (set_small f s b h)) (T_of h))
