-- A number's decimal digits: how many there are, and the last one. Assumes nothing.
use mathlib.Core.Path.{◌≡◌, refl, sym, ap, ap₂, ◌∙◌}
use mathlib.Core.Bool.{Bool, cond}
use mathlib.Core.List.{[], ◌∷◌, ◌++◌}
use Prim.Native.Nat.{ℕ, zero, suc, ◌+◌, ◌-◌, ◌*◌, ◌/◌, ◌%◌, ◌^◌, ◌≤◌, ◌<◌}
use native.Mathlib.Nat.{add-zero, add-suc, suc-add, pow-suc, one-le-pow, le-div_iff_mul-le, div-lt_iff_lt-mul}
use native.Mathlib.Decide.{dec_le}
use native.Mathlib.Omega.{arith}
use lib.Dec.{leb}
use borrow.Author.Tests.{le-leb, lt-leb}
use Rattle.std.proofs.lemmas.Fmt.{decimal_digit, decimal_step}
use Rattle.std.specs.Fmt.{decimal as printed}
use Rattle.json_text.specs.Json.{digits, powers, decimal}

-- ---- how many digits
power_above : (n : ℕ) → n < 10 ^ suc n
power_above zero = omega arith
power_above (suc n) = rw (pow-suc 10 (suc n)) (omega (arith, power_above n))

powers_past : (n d : ℕ) → powers n (n + d) ≡ powers n n
unfolding powers
powers_past n zero = ap (powers n) (add-zero n)
powers_past n (suc d) =
    let h : n < 10 ^ suc (n + d) = omega (arith, power_above (n + d)) in
    rw (add-suc, lt-leb (10 ^ suc (n + d)) n h, add-zero (powers n (n + d))) (powers_past n d)

powers_none : (n m : ℕ) → n < 10 → powers n m ≡ 0
unfolding powers
powers_none n zero h = refl
powers_none n (suc m) h =
    let k : n < 10 ^ suc m = rw (pow-suc 10 m) (omega (arith, one-le-pow m 10 (omega arith))) in
    rw (lt-leb (10 ^ suc m) n k, powers_none n m h)

power_shift : (n m : ℕ) → leb (10 ^ suc m) n ≡ leb (10 ^ m) (n / 10)
power_shift n m =
    elim (dec_le (10 ^ m) (n / 10)) [
      | yes p ↦ le-leb (10 ^ suc m) n (rw (pow-suc 10 m) ((le-div_iff_mul-le {k = 10} (omega arith)).0 p)) ∙ sym (le-leb (10 ^ m) (n / 10) p)
      | no p ↦
          let q : n / 10 < 10 ^ m = omega arith in
          lt-leb (10 ^ suc m) n (rw (pow-suc 10 m) ((div-lt_iff_lt-mul {k = 10} (omega arith)).0 q)) ∙ sym (lt-leb (10 ^ m) (n / 10) q)
    ]

powers_more : (n m : ℕ) → 10 ≤ n → powers n (suc m) ≡ suc (powers (n / 10) m)
unfolding powers
powers_more n zero h = rw (le-leb 10 n h)
powers_more n (suc m) h =
    ap₂ ◌+◌ (powers_more n m h) (ap (λ (b : Bool). cond b 1 0) (power_shift n (suc m))) ∙ suc-add (powers (n / 10) m) (cond (leb (10 ^ suc m) (n / 10)) 1 0)

powers_tenth : (n : ℕ) → 10 ≤ n → powers n n ≡ suc (powers (n / 10) (n / 10))
powers_tenth n h =
    let some : n ≡ suc (n - 1) = omega arith in
    let rest : n - 1 ≡ n / 10 + (n - 1 - n / 10) = omega arith in
    ap (powers n) some ∙ powers_more n (n - 1) h ∙ ap (λ (k : ℕ). suc (powers (n / 10) k)) rest ∙ ap suc (powers_past (n / 10) (n - 1 - n / 10))

-- ---- the digits: a number below 10 is its digit, and any other has its last digit after those of its tenth
module _ (n : ℕ) where
  pub decimal_one : n < 10 → decimal n ≡ (48 + n) ∷ []
  unfolding decimal digits
  decimal_one h = let e : n % 10 ≡ n = omega arith in rw (powers_none n n h, e)

  pub decimal_more : 10 ≤ n → decimal n ≡ decimal (n / 10) ++ ((48 + n % 10) ∷ [])
  unfolding decimal digits
  decimal_more h = ap (λ (k : ℕ). digits (suc k) n) (powers_tenth n h)

-- it has the fewest places that hold it
places : (k n : ℕ) → 10 ^ k ≤ n → n < 10 ^ suc k → powers n n ≡ k
places zero n h l = powers_none n n l
places (suc k) n h l =
    let p : 10 ^ k * 10 ≤ n = rw pow-suc at h in
    let q : n < 10 ^ suc k * 10 = rw (pow-suc 10 (suc k)) at l in
    powers_tenth n (omega (arith, one-le-pow k 10 (omega arith)))
    ∙ ap suc (places k (n / 10) ((le-div_iff_mul-le {k = 10} (omega arith)).1 p) ((div-lt_iff_lt-mul {k = 10} (omega arith)).1 q))

pub fewest : (k n : ℕ) → 10 ^ k ≤ n → n < 10 ^ suc k → decimal n ≡ digits (suc k) n
unfolding decimal
fewest k n h l = ap (λ (m : ℕ). digits (suc m) n) (places k n h l)

-- ---- they are what `{}` prints
as_printed : (m n : ℕ) → n < m → n < 2 ^ 64 → decimal n ≡ printed n
as_printed zero n h l = absurd (omega arith)
as_printed (suc m) n h l =
    elim (dec_le 10 n) [
      | yes k ↦ rw (decimal_more n k, decimal_step n k l, as_printed m (n / 10) (omega arith) (omega arith))
      | no k ↦ decimal_one n (omega arith) ∙ sym (decimal_digit n (omega arith))
    ]

pub decimal_printed : (n : ℕ) → n < 2 ^ 64 → printed n ≡ decimal n
decimal_printed n h = sym (as_printed (suc n) n (omega arith) h)
