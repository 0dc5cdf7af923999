-- A value is read back from either of its two spellings, so that no two values are printed alike. Assumes nothing.
use mathlib.Core.Path.{◌≡◌, refl, sym, ap, ◌∙◌}
use mathlib.Core.Bool.{cond}
use mathlib.Core.List.{List, [], ◌∷◌, ◌++◌}
use Prim.Native.Nat.{ℕ, zero, suc, ◌+◌, ◌-◌, ◌*◌, ◌/◌, ◌%◌, ◌<◌}
use native.Mathlib.Decide.{dec_le}
use native.Mathlib.Omega.{arith}
use borrow.Author.Tests.{le-leb, lt-leb}
use Rattle.patterns.specs.Bytes.{within}
use Rattle.json_text.specs.Json.{decimal, quoted, value_text}
use Rattle.json_text.proofs.Decimal.{decimal_one, decimal_more}

-- n with the digits of a text put after it; other bytes, as quotes, say nothing
pub number_from : ℕ → List ℕ → ℕ
number_from n [] = n
number_from n (b ∷ w) = number_from (cond (within 48 57 b) (n * 10 + (b - 48)) n) w

on : (n : ℕ) (v w : List ℕ) → number_from n (v ++ w) ≡ number_from (number_from n v) w
unfolding number_from
on n [] w = refl
on n (b ∷ v) w = on (cond (within 48 57 b) (n * 10 + (b - 48)) n) v w

digit : (n d : ℕ) → d < 10 → number_from n ((48 + d) ∷ []) ≡ n * 10 + d
unfolding number_from
digit n d h = rw (le-leb 48 (48 + d) (omega arith), le-leb (48 + d) 57 (omega arith)) (omega arith)

of_decimal : (m n : ℕ) → n < m → number_from 0 (decimal n) ≡ n
of_decimal zero n h = absurd (omega arith)
of_decimal (suc m) n h =
    elim (dec_le 10 n) [
      | yes k ↦ rw (decimal_more n k, on 0 (decimal (n / 10)), of_decimal m (n / 10) (omega arith), digit (n / 10) (n % 10) (omega arith)) (omega arith)
      | no k ↦ rw (decimal_one n (omega arith), digit 0 n (omega arith)) (omega arith)
    ]

-- "reads both spellings as one number"
pub read_back : (v : ℕ) → number_from 0 (value_text v) ≡ v
unfolding value_text quoted number_from
read_back v =
    elim (dec_le v 9007199254740991) [
      | yes h ↦ rw (le-leb v 9007199254740991 h) (of_decimal (suc v) v (omega arith))
      | no h ↦ rw (lt-leb v 9007199254740991 (omega arith), on 0 (decimal v)) (of_decimal (suc v) v (omega arith))
    ]

pub values_one : (v w : ℕ) → value_text v ≡ value_text w → v ≡ w
values_one v w e = sym (read_back v) ∙ ap (number_from 0) e ∙ read_back w
