-- Digits and their reading. Assumes nothing.
use mathlib.Core.Path.{◌≡◌, refl, sym, ap, ◌∙◌}
use mathlib.Core.Bool.{Bool, true, false, cond, not, ◌||◌}
use mathlib.Core.Logic.{◌⊎◌, inl, inr}
use Prim.Native.Nat.{ℕ, ◌+◌, ◌-◌, ◌*◌, ◌/◌, ◌^◌, ◌≤◌, ◌<◌}
use native.Mathlib.Nat.{mul-le-mul_left, le-div_iff_mul-le, div-lt_iff_lt-mul}
use native.Mathlib.Omega.{arith}
use lib.Dec.{T, ltb, eqb}
use borrow.Author.Tests.{lt-ltb, le-ltb, ltb-true, ltb-false}
use Rattle.patterns.specs.Bytes.{in_set, digit, word}
use Rattle.patterns.proofs.Table.{byte_law}
use Rattle.numeral.proofs.Bases.{either_no}
use Rattle.numeral.specs.Numeral.{most, digit_of}
use Rattle.numeral.specs.Parser.{opens}

-- the next digit takes a value past 64 bits: none below 2 ^ 60, and from there on by a division
pub small_fits : (v base d : ℕ) → base ≤ 16 → d < base → v < 2 ^ 60 → false ≡ ltb most (v * base + d)
small_fits v base d p q h = sym (le-ltb most (v * base + d) (omega (arith, mul-le-mul_left v p)))

pub over_is : (v base d : ℕ) → base ≤ 16 → d < base → ltb ((most - d) / base) v ≡ ltb most (v * base + d)
over_is v base d p q = go (ltb ((most - d) / base) v) refl
  where
    go : (r : Bool) → ltb ((most - d) / base) v ≡ r → r ≡ ltb most (v * base + d)
    go true e = sym (lt-ltb most (v * base + d) (omega (arith, (div-lt_iff_lt-mul {k = base} (omega arith)).0 (ltb-true _ _ e))))
    go false e = sym (le-ltb most (v * base + d) (omega (arith, (le-div_iff_mul-le {k = base} (omega arith)).0 (ltb-false _ _ e))))

-- ---- letters, digits and `_`
agree : (x y : Bool) → T (cond x y (not y)) → x ≡ y
agree true true t = refl
agree true false t = absurd t
agree false true t = absurd t
agree false false t = refl

word_is : (b : ℕ) → b < 256 → in_set word b ≡ (ltb (digit_of b) 36 || eqb b 95)
unfolding word digit_of
word_is b h = agree (in_set word b) (ltb (digit_of b) 36 || eqb b 95) (byte_law (λ b. let y = ltb (digit_of b) 36 || eqb b 95 in cond (in_set word b) y (not y)) tt b h)

pub digit_word : (b : ℕ) → b < 256 → digit_of b < 36 → in_set word b ≡ true
digit_word b h d = word_is b h ∙ rw (lt-ltb (digit_of b) 36 d)

-- the test of a byte, by its value as a digit
module _ (b d : ℕ) (h : b < 256) (e : d ≡ digit_of b) where
  pub digit_byte : d < 36 → ltb d 36 ≡ in_set word b
  digit_byte k = lt-ltb d 36 k ∙ sym (digit_word b h (omega (arith, e)))

  pub other_byte : 36 ≤ d → eqb b 95 ≡ in_set word b
  other_byte k = sym (word_is b h ∙ rw (le-ltb (digit_of b) 36 (omega (arith, e))))

  pub digit_first : ltb d 10 ≡ in_set digit b
  unfolding digit digit_of
  digit_first = ap (λ (d : ℕ). ltb d 10) e ∙ agree (ltb (digit_of b) 10) (in_set digit b) (byte_law (λ b. cond (ltb (digit_of b) 10) (in_set digit b) (not (in_set digit b))) tt b h)

-- no suffix word begins with a digit below 15
pub low_shut : (b : ℕ) → digit_of b < 15 → opens b ≡ false
unfolding digit_of
low_shut b h = either_no "f" "u" b no
  where
    no : (b ≡ 117) ⊎ (b ≡ 102) → ⊥
    no (inl e) = omega (arith, ap digit_of e)
    no (inr e) = omega (arith, ap digit_of e)
