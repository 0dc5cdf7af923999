-- The base of a spelling. Assumes nothing.
use mathlib.Core.Path.{◌≡◌, refl, ap, ◌∙◌}
use mathlib.Core.Bool.{Bool, true, false, cond}
use mathlib.Core.Logic.{◌⊎◌, inl, inr}
use mathlib.Core.List.{List, [], ◌∷◌}
use Prim.Native.Nat.{ℕ, ◌+◌, ◌*◌, ◌≤◌, ◌<◌}
use Prim.Native.Char.{Char, code}
use native.Mathlib.Omega.{arith}
use lib.Dec.{leb, ltb, eqb, leb→le}
use lib.ListN.{length, take, drop, get_or}
use Rattle.patterns.specs.Bytes.{within, in_set, either}
use Rattle.patterns.proofs.Tests.{and_no}
use Rattle.std.proofs.Common.{Ok, Err}
use Rattle.tables.specs.declared.entry_codes.Suffix.{Suffix}
use Rattle.numeral.specs.declared.Base.{Base}
use Rattle.numeral.specs.declared.NumberLiteral.{NumberLiteral}
use Rattle.numeral.specs.declared.NumberParseError.{NumberParseError}
use Rattle.numeral.specs.Numeral.{most, base_code, base_in, base_of, digit_of, digit_in, cut_of, suffix_kind, reading, read_to, rest_of, numeral_of}

code_small : (base : Base) → base_code base ≤ 16
code_small Base.Binary = omega arith
code_small Base.Octal = omega arith
code_small Base.Decimal = omega arith
code_small Base.Hexadecimal = omega arith

outside : (c b : ℕ) → (b ≡ c → ⊥) → within c c b ≡ false
outside c b f = and_no (leb c b) (leb b c) (λ p q. f (omega (arith, leb→le c b p, leb→le b c q)))

pub either_no : (c d : Char) (b : ℕ) → ((b ≡ code d) ⊎ (b ≡ code c) → ⊥) → in_set (either c d) b ≡ false
either_no c d b f = rw (outside (code c) b (λ e. f (inr e)), outside (code d) b (λ e. f (inl e)))

pub base_small : (s : List ℕ) → base_of s ≤ 16
base_small s = code_small (base_in s)

pub base_short : (s : List ℕ) → length s < 2 → Base.Decimal ≡ base_in s
unfolding base_in
base_short [] h = refl
base_short (a ∷ []) h = go (eqb a 48)
  where
    go : (t : Bool) → Base.Decimal ≡ cond t Base.Decimal Base.Decimal
    go true = refl
    go false = refl
base_short (a ∷ b ∷ s) h = absurd (omega arith)

pub base_letter : (s : List ℕ) (r : Base) (b c : ℕ) → get_or s 0 0 ≡ 48 → (get_or s 1 0 ≡ b) ⊎ (get_or s 1 0 ≡ c) → r ≡ base_in (48 ∷ b ∷ []) → r ≡ base_in (48 ∷ c ∷ []) → r ≡ base_in s
unfolding base_in
base_letter s r b c h (inl e) p q = p ∙ rw (h, e)
base_letter s r b c h (inr e) p q = q ∙ rw (h, e)

pub base_none : (s : List ℕ) → get_or s 0 0 ≡ 48 → ((get_or s 1 0 ≡ 88) ⊎ (get_or s 1 0 ≡ 120) → ⊥) → ((get_or s 1 0 ≡ 79) ⊎ (get_or s 1 0 ≡ 111) → ⊥) → ((get_or s 1 0 ≡ 66) ⊎ (get_or s 1 0 ≡ 98) → ⊥) → Base.Decimal ≡ base_in s
unfolding base_in
base_none s e f g h = rw (e, either_no "x" "X" (get_or s 1 0) f, either_no "o" "O" (get_or s 1 0) g, either_no "b" "B" (get_or s 1 0) h)

-- ---- the base that an answer tells
base_read : (base : Base) (x : Suffix) (v : ℕ) (s : List ℕ) (n : NumberLiteral) → reading base x v s ≡ Ok n → n.base ≡ base
unfolding reading
base_read base x v [] n e = cc
base_read base x v (c ∷ s) n e = go (digit_in (base_code base) c) (ltb most (v * base_code base + digit_of c)) e (base_read base x (v * base_code base + digit_of c) s n)
  where
    go : (t o : Bool) → cond t (cond o (Err NumberParseError.Overflow) (reading base x (v * base_code base + digit_of c) s)) (Err NumberParseError.InvalidFormat) ≡ Ok n → (reading base x (v * base_code base + digit_of c) s ≡ Ok n → n.base ≡ base) → n.base ≡ base
    go true true e f = absurd (let z : ◌≡◌ {A = ℕ} 0 1 = cc in omega arith)
    go true false e f = f e
    go false o e f = absurd (let z : ◌≡◌ {A = ℕ} 0 1 = cc in omega arith)

-- it is the one that the spelling's beginning sets
pub base_told : (s : List ℕ) {n : NumberLiteral} → numeral_of s ≡ Ok n → base_code n.base ≡ base_of s
unfolding numeral_of rest_of read_to
base_told s {n} e = let t = cond (eqb (base_of s) 10) s (drop 2 s) in let k = cut_of (base_of s) t in go (eqb k 0) (digit_in 10 (get_or t k 0)) (suffix_kind (drop k t)) (take k t) e
  where
    go : (f g : Bool) (y : Suffix) (t : List ℕ) → cond f (Err NumberParseError.InvalidFormat) (cond g (Err NumberParseError.InvalidFormat) (reading (base_in s) y 0 t)) ≡ Ok n → base_code n.base ≡ base_of s
    go true g y t e = absurd (let z : ◌≡◌ {A = ℕ} 0 1 = cc in omega arith)
    go false true y t e = absurd (let z : ◌≡◌ {A = ℕ} 0 1 = cc in omega arith)
    go false false y t e = ap base_code (base_read (base_in s) y 0 t n e)
