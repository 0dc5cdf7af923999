-- Laws of UTF-8: the rows of the table as tests of the bytes, the length of a character, and what follows it. Assumes nothing.
use mathlib.Core.Path.{◌≡◌, refl, ap, ap₂}
use mathlib.Core.Bool.{Bool, true, false, false≢true}
use mathlib.Core.Logic.{inl, inr}
use mathlib.Core.List.{List, [], ◌∷◌}
use Prim.Native.Nat.{ℕ, zero, suc, ◌+◌, ◌-◌, ◌*◌, ◌/◌, ◌≤◌, ◌<◌}
use native.Mathlib.Nat.{add-zero}
use native.Mathlib.Omega.{arith}
use native.Mathlib.Decide.{dec_lt}
use borrow.Author.Tests.{ne_eqb}
use lib.ListN.{length, take, drop, get_or, length-drop, drop_of_length-le}
use lib.Seq.{drop-drop, get_or-drop, take_all}
use Rattle.std.specs.Bool.{then_some}
use Rattle.std.proofs.Common.{◌==◌, ◌↔◌, IsTrue, Option, Some, None}
use Rattle.utf8.specs.Rows.{value3, value4, Two, Three, Four}
use Rattle.utf8.specs.Utf8.{Scalar, Encodes, Begins, Utf8, FirstChar, IsUtf8, Rest, one, two, three, four, done, char, begins, nothing, good, bad}

-- the bytes of w are those that f has at 0, 1 ..
abbrev Reads : (ℕ → ℕ) → List ℕ → Type 0
Reads f [] = Unit {0}
Reads f (b ∷ w) = (f 0 ≡ b) × Reads (λ i. f (suc i)) w

reads : (n : ℕ) (s : List ℕ) → n ≤ length s → (n ≡ length (take n s)) × Reads (λ i. get_or s i 0) (take n s)
reads zero s h = (refl, tt)
reads (suc n) [] h = absurd (omega arith)
reads (suc n) (a ∷ s) h = let r = reads n s (omega arith) in (ap suc r.0, (refl, r.1))

taken : (w s : List ℕ) → length w ≤ length s → Reads (λ i. get_or s i 0) w → take (length w) s ≡ w
taken [] s h r = refl
taken (b ∷ w) [] h r = absurd (omega arith)
taken (b ∷ w) (a ∷ s) h r = ap₂ ◌∷◌ r.0 (taken w s (omega arith) r.1)

-- each row, of the bytes that s begins with
abbrev pub One : List ℕ → ℕ → Type 0
One s n = (n ≡ 1) × (1 ≤ length s) × (get_or s 0 0 < 0x80)

abbrev pub IsTwo : List ℕ → ℕ → Type 0
IsTwo s n = (n ≡ 2) × (2 ≤ length s) × Two (get_or s 0 0) (get_or s 1 0)

abbrev pub IsThree : List ℕ → ℕ → Type 0
IsThree s n = (n ≡ 3) × (3 ≤ length s) × Three (get_or s 0 0) (get_or s 1 0) (get_or s 2 0)

abbrev pub IsFour : List ℕ → ℕ → Type 0
IsFour s n = (n ≡ 4) × (4 ≤ length s) × Four (get_or s 0 0) (get_or s 1 0) (get_or s 2 0) (get_or s 3 0)

-- P holds for a character of n bytes that s begins with, if it does in each row
pub record Rows (s : List ℕ) (n : ℕ) (P : Type 0) : Type 0 where
  pub of_one : One s n → P
  pub of_two : IsTwo s n → P
  pub of_three : IsThree s n → P
  pub of_four : IsFour s n → P

no_surrogate : {c : ℕ} → Scalar c → c / 0x800 ≡ 0x1B → ⊥
no_surrogate (inl h) e = omega arith
no_surrogate (inr h) e = omega arith

scalar_of : (c : ℕ) → c ≤ 0x10FFFF → (c / 0x800 ≡ 0x1B → ⊥) → Scalar c
scalar_of c h k = elim (dec_lt c 0xD800) [ yes p ↦ inl p | no p ↦ inr (omega arith) ]

rows : {s : List ℕ} {c n : ℕ} {P : Type 0} → Begins s c n → Rows s n P → P
rows {s} {n = n} b q =
    let r = reads n s b.within in
    elim b.encodes [
      | one p e ↦ q.of_one (omega (arith, rw e at r))
      | two x y hx hy v lo hi e ↦ q.of_two (omega (arith, rw e at r))
      | three x y z hx hy hz v lo hi e ↦ q.of_three (omega (arith, rw e at r, no_surrogate b.scalar))
      | four x y z w hx hy hz hw v lo hi e ↦ q.of_four (omega (arith, rw e at r))
    ]

pub refused : {s : List ℕ} → ((n : ℕ) → Rows s n ⊥) → FirstChar s None
refused f = nothing (λ c n b. rows b (f n))

module _ {s : List ℕ} where
  here : {n : ℕ} (c : ℕ) → Scalar c → n ≤ length s → Encodes c (take n s) → FirstChar s (Some n)
  here {n} c p h e = begins c n (record { scalar = p; within = h; encodes = e })

  pub one_here : One s 1 → Begins s (get_or s 0 0) 1
  one_here t = record { scalar = inl (omega arith); within = omega arith; encodes = one (omega arith) (taken _ s (omega arith) (omega arith)) }

  two_here : IsTwo s 2 → FirstChar s (Some 2)
  two_here t =
      here (get_or s 0 0 * 0x40 + get_or s 1 0 - 0x3080) (inl (omega arith)) (omega arith)
      (two (get_or s 0 0 - 0xC0) (get_or s 1 0 - 0x80) (omega arith) (omega arith) (omega arith) (omega arith) (omega arith) (taken _ s (omega arith) (omega arith)))

  three_here : IsThree s 3 → FirstChar s (Some 3)
  three_here t =
      here (value3 (get_or s 0 0) (get_or s 1 0) (get_or s 2 0)) (scalar_of _ (omega arith) (omega arith)) (omega arith)
      (three (get_or s 0 0 - 0xE0) (get_or s 1 0 - 0x80) (get_or s 2 0 - 0x80) (omega arith) (omega arith) (omega arith) (omega arith) (omega arith) (omega arith)
      (taken _ s (omega arith) (omega arith)))

  four_here : IsFour s 4 → FirstChar s (Some 4)
  four_here t =
      here (value4 (get_or s 0 0) (get_or s 1 0) (get_or s 2 0) (get_or s 3 0)) (inr (omega arith)) (omega arith)
      (four (get_or s 0 0 - 0xF0) (get_or s 1 0 - 0x80) (get_or s 2 0 - 0x80) (get_or s 3 0 - 0x80) (omega arith) (omega arith) (omega arith) (omega arith) (omega arith)
      (omega arith) (omega arith) (taken _ s (omega arith) (omega arith)))

-- ---- the arms of `char_len`: what a row's test decides
by_test : {s : List ℕ} {o : Option ℕ} {r : Bool} {P : Type 0} (n : ℕ) → (IsTrue r ↔ P) → o ≡ then_some r n → (P → FirstChar s (Some n)) → ((P → ⊥) → FirstChar s None) → FirstChar s o
by_test {s} {r = true} n p e f g = rw e (f (p.0 refl))
by_test {s} {r = false} n p e f g = rw e (g (λ x. false≢true (p.1 x)))

module _ {s : List ℕ} {o : Option ℕ} {r : Bool} where
  pub two_arm : (IsTrue r ↔ Two (get_or s 0 0) (get_or s 1 0)) → o ≡ then_some r 2 → 0x80 ≤ get_or s 0 0 → get_or s 0 0 < 0xE0 → 2 ≤ length s → FirstChar s o
  two_arm p e k l h =
      by_test 2 p e (λ x. two_here (refl, h, x))
      (λ f. refused (λ n. record { of_one = λ t. omega arith; of_two = λ t. f t.2; of_three = λ t. omega arith; of_four = λ t. omega arith }))

  pub three_arm : (IsTrue r ↔ Three (get_or s 0 0) (get_or s 1 0) (get_or s 2 0)) → o ≡ then_some r 3 → 0xE0 ≤ get_or s 0 0 → get_or s 0 0 < 0xF0 → 3 ≤ length s → FirstChar s o
  three_arm p e k l h =
      by_test 3 p e (λ x. three_here (refl, h, x))
      (λ f. refused (λ n. record { of_one = λ t. omega arith; of_two = λ t. omega arith; of_three = λ t. f t.2; of_four = λ t. omega arith }))

  pub four_arm : (IsTrue r ↔ Four (get_or s 0 0) (get_or s 1 0) (get_or s 2 0) (get_or s 3 0)) → o ≡ then_some r 4 → 0xF0 ≤ get_or s 0 0 → 4 ≤ length s → FirstChar s o
  four_arm p e k h =
      by_test 4 p e (λ x. four_here (refl, h, x))
      (λ f. refused (λ n. record { of_one = λ t. omega arith; of_two = λ t. omega arith; of_three = λ t. omega arith; of_four = λ t. f t.2 }))

-- ---- a character's length, and its bytes
pub begins_size : {s : List ℕ} {c n c' n' : ℕ} → Begins s c n → Begins s c' n' → n ≡ n'
begins_size b d = rows b (rows d (omega arith))

pub begins_some : {s : List ℕ} {c n : ℕ} → Begins s c n → (1 ≤ n) × (n ≤ length s)
begins_some b = rows b (omega arith)

pub begins_high : {s : List ℕ} {c n : ℕ} → Begins s c n → 0x80 ≤ get_or s 0 0 → (i : ℕ) → i < n → 0x80 ≤ get_or s i 0
begins_high b h zero k = h
begins_high b h (suc zero) k = rows b (omega arith)
begins_high b h (suc (suc zero)) k = rows b (omega arith)
begins_high b h (suc (suc (suc zero))) k = rows b (omega arith)
begins_high b h (suc (suc (suc (suc i)))) k = rows b (omega arith)

-- ---- what the contracts say has one answer
pub char_len_one : {s : List ℕ} {r r' : Option ℕ} → FirstChar s r → FirstChar s r' → r ≡ r'
char_len_one (begins c n b) (begins c' n' b') = ap Some (begins_size b b')
char_len_one (begins c n b) (nothing f) = absurd (f c n b)
char_len_one (nothing f) (begins c n b) = absurd (f c n b)
char_len_one (nothing f) (nothing f') = refl

pub is_utf8_one : {s : List ℕ} {r r' : Bool} → IsUtf8 s r → IsUtf8 s r' → r ≡ r'
is_utf8_one (good e u) (good e' u') = cc
is_utf8_one (good e u) (bad e' f) = absurd (f u)
is_utf8_one (bad e f) (good e' u) = absurd (f u)
is_utf8_one (bad e f) (bad e' f') = cc

-- ---- the text is UTF-8 exactly if what follows its first n bytes is
after : {s : List ℕ} {c n : ℕ} → Begins s c n → Utf8 s → Utf8 (drop n s)
after b done = absurd (omega (arith, begins_some b))
after b (char c n d u) = rw (begins_size b d) u

none_of : {s : List ℕ} → 0 < length s → ((c m : ℕ) → Begins s c m → ⊥) → Utf8 s → ⊥
none_of h f done = omega arith
none_of h f (char c n b u) = f c n b

module _ {s : List ℕ} where
  pub rest_none : Rest s 0
  rest_none = record { there = λ u. u; back = λ u. u }

  pub rest_char : {c n : ℕ} → Begins s c n → Rest s n
  rest_char b = record { there = after b; back = char _ _ b }

  pub rest_ascii : 0 < length s → get_or s 0 0 < 0x80 → Rest s 1
  rest_ascii h k = rest_char (one_here (omega arith))

  pub rest_more : {n m : ℕ} → Rest s n → Rest (drop n s) m → Rest s (n + m)
  rest_more p q = record { there = λ u. rw drop-drop at (q.there (p.there u)); back = λ u. p.back (q.back (rw drop-drop u)) }

  pub rest_end : {n : ℕ} → length s ≤ n → Rest s n → Utf8 s
  rest_end h r = r.back (rw (drop_of_length-le s h) done)

  pub rest_stop : {n : ℕ} → n < length s → Rest s n → ((c m : ℕ) → Begins (drop n s) c m → ⊥) → Utf8 s → ⊥
  rest_stop {n} h r f u = none_of (omega (arith, length-drop n s)) f (r.there u)

-- ---- what a text lends from i on, and the character there
pub lent : (s : List ℕ) (i : ℕ) → take (length s - i) (drop i s) ≡ drop i s
lent s i = take_all (length s - i) (drop i s) (omega (arith, length-drop i s))

pub char_within : {s : List ℕ} {n : ℕ} → FirstChar s (Some n) → n ≤ length s
char_within (begins c n b) = b.within

pub next_ascii : {s : List ℕ} {i : ℕ} → Rest s i → i < length s → get_or s i 0 < 0x80 → Rest s (i + 1)
next_ascii {s} {i} r h k = rest_more r (rest_ascii (omega (arith, length-drop i s)) (rw (get_or-drop, add-zero) k))

-- ---- the loop of `is_utf8`: the text is UTF-8 exactly if t, what is left of it, is
pub record Left (s t : List ℕ) : Type 0 where
  pub there : Utf8 s → Utf8 t
  pub back : Utf8 t → Utf8 s

module _ {s t : List ℕ} (r : Left s t) where
  pub left_more : {n : ℕ} → FirstChar t (Some n) → Left s (take (length t - n) (drop n t))
  left_more (begins c n b) = rw (lent t n) (record { there = λ u. after b (r.there u); back = λ u. r.back (char c n b u) })

  pub left_end : {b : Bool} → FirstChar t None → b ≡ (length t == 0) → IsUtf8 s b
  left_end f e = rw e (go t f r)
    where
      go : (t : List ℕ) → FirstChar t None → Left s t → IsUtf8 s (length t == 0)
      go [] f r = good refl (r.back done)
      go (b ∷ t) (nothing f) r = bad (ne_eqb (length (b ∷ t)) 0 (λ e. omega arith)) (λ u. none_of (omega arith) f (r.there u))
