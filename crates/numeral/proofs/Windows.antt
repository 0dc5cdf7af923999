-- The last four bytes as one number, and the suffix word that they end with. Assumes nothing.
use mathlib.Core.Path.{◌≡◌, refl, sym, ap, ap₂, subst, ◌∙◌}
use mathlib.Core.Bool.{Bool, true, false≢true}
use mathlib.Core.List.{List, [], ◌∷◌, ◌++◌, append_assoc}
use Prim.Native.Nat.{ℕ, zero, suc, ◌+◌, ◌*◌, ◌%◌, ◌<◌}
use native.Mathlib.Omega.{arith}
use lib.ListN.{length, drop, replicate, length-append}
use Rattle.std.proofs.Math.Seq.{drop-append_seam}
use Rattle.patterns.specs.Bytes.{bytes, in_set, word}
use Rattle.patterns.specs.Patterns.{All}
use Rattle.tables.specs.declared.entry_codes.Suffix.{Suffix}
use Rattle.numeral.specs.Parser.{Word, felt, u32, Ending, ended, not_ended, Last}

-- ---- a byte more
pub last_none : Last [] 0
last_none = record { front = []; a = 0; b = 0; c = 0; d = 0; bytes = omega arith; ends = refl; is = refl }

pub last_on : {r : List ℕ} {l b : ℕ} → Last r l → b < 256 → Last (r ++ b ∷ []) (l % 16777216 * 256 + b)
last_on {r} {l} {b} p h =
    record {
      front = p.front ++ p.a ∷ [];
      a = p.b;
      b = p.c;
      c = p.d;
      d = b;
      bytes = omega arith;
      ends = ap (λ s. s ++ b ∷ []) p.ends ∙ append_assoc p.front (p.a ∷ p.b ∷ p.c ∷ p.d ∷ []) (b ∷ []) ∙ sym (append_assoc p.front (p.a ∷ []) (p.b ∷ p.c ∷ p.d ∷ b ∷ []));
      is = omega (arith, p.is, p.bytes);
    }

-- ---- ends of a list
-- ends of one length are the same
ends_same : (f g u v : List ℕ) → length u ≡ length v → f ++ u ≡ g ++ v → u ≡ v
ends_same f g u v h e =
    let k : length f ≡ length g = omega (arith, h, ap length e, length-append f u, length-append g v) in
    sym (drop-append_seam f u) ∙ ap₂ drop k e ∙ drop-append_seam g v

-- an end that begins with no zero lies within what zeros stand before
unpadded : (n : ℕ) (r f : List ℕ) (b : ℕ) (w : List ℕ) → (b ≡ 0 → ⊥) → replicate n 0 ++ r ≡ f ++ b ∷ w → (q : List ℕ) × (r ≡ q ++ b ∷ w)
unpadded zero r f b w h e = (f, e)
unpadded (suc n) r [] b w h e = absurd (h (cc e))
unpadded (suc n) r (c ∷ f) b w h e = unpadded n r f b w h (cc e)

-- ---- the number's bytes
abbrev number : List ℕ → ℕ → ℕ
number [] v = v
number (b ∷ s) v = number s (v * 256 + b)

module _ {r : List ℕ} {l : ℕ} (p : Last r l) (q w : List ℕ) where
  last_four : length w ≡ 4 → 0 ∷ 0 ∷ 0 ∷ 0 ∷ r ≡ q ++ w → l ≡ number w 0
  last_four h e = omega (arith, p.is, ap (λ s. number s 0) (ends_same p.front q (p.a ∷ p.b ∷ p.c ∷ p.d ∷ []) w (sym h) (sym p.ends ∙ e)))

  last_three : length w ≡ 3 → 0 ∷ 0 ∷ 0 ∷ 0 ∷ r ≡ q ++ w → l % 16777216 ≡ number w 0
  last_three h e =
      let f = append_assoc p.front (p.a ∷ []) (p.b ∷ p.c ∷ p.d ∷ []) in
      omega (arith, p.is, p.bytes, ap (λ s. number s 0) (ends_same (p.front ++ p.a ∷ []) q (p.b ∷ p.c ∷ p.d ∷ []) w (sym h) (f ∙ sym p.ends ∙ e)))

-- ---- the words
module _ {l : ℕ} where
  pub felt_ends : l ≡ 1717922932 → (r : List ℕ) → Last r l → Ending r Suffix.Felt
  felt_ends h r p =
      let a : p.a ≡ 102 = omega (arith, p.is, p.bytes) in
      let b : p.b ≡ 101 = omega (arith, p.is, p.bytes) in
      let c : p.c ≡ 108 = omega (arith, p.is, p.bytes) in
      let d : p.d ≡ 116 = omega (arith, p.is, p.bytes) in
      let e : 0 ∷ 0 ∷ 0 ∷ 0 ∷ r ≡ p.front ++ bytes "felt" = cc in
      let (q, s) = unpadded 4 r p.front 102 (bytes "elt") (omega arith) e in
      ended q felt s

  pub u32_ends : l % 16777216 ≡ 7680818 → (r : List ℕ) → Last r l → Ending r Suffix.U32
  u32_ends h r p =
      let b : p.b ≡ 117 = omega (arith, p.is, p.bytes) in
      let c : p.c ≡ 51 = omega (arith, p.is, p.bytes) in
      let d : p.d ≡ 50 = omega (arith, p.is, p.bytes) in
      let f : p.front ++ p.a ∷ bytes "u32" ≡ (p.front ++ p.a ∷ []) ++ bytes "u32" = sym (append_assoc p.front (p.a ∷ []) (bytes "u32")) in
      let e : 0 ∷ 0 ∷ 0 ∷ 0 ∷ r ≡ (p.front ++ p.a ∷ []) ++ bytes "u32" = cc in
      let (q, s) = unpadded 4 r (p.front ++ p.a ∷ []) 117 (bytes "32") (omega arith) e in
      ended q u32 s

  pub none_ends : (l ≡ 1717922932 → ⊥) → (l % 16777216 ≡ 7680818 → ⊥) → (r : List ℕ) → Last r l → Ending r Suffix.Absent
  none_ends f u r p = not_ended go
    where
      go : (q w : List ℕ) (x : Suffix) → Word w x → r ≡ q ++ w → ⊥
      go q w x felt e = f (last_four p (0 ∷ 0 ∷ 0 ∷ 0 ∷ q) (bytes "felt") refl (ap (λ s. 0 ∷ 0 ∷ 0 ∷ 0 ∷ s) e))
      go q w x u32 e = u (last_three p (0 ∷ 0 ∷ 0 ∷ 0 ∷ q) (bytes "u32") refl (ap (λ s. 0 ∷ 0 ∷ 0 ∷ 0 ∷ s) e))

-- one word at most ends a list
apart : (p q : List ℕ) → p ++ bytes "felt" ≡ q ++ bytes "u32" → ⊥
apart p q e = omega (arith, ap (λ s. number s 0) (ends_same (p ++ 102 ∷ []) q (bytes "elt") (bytes "u32") refl (append_assoc p (102 ∷ []) (bytes "elt") ∙ e)))

words_one : {w v : List ℕ} {x y : Suffix} (p q : List ℕ) → Word w x → Word v y → p ++ w ≡ q ++ v → x ≡ y
words_one p q felt felt e = refl
words_one p q felt u32 e = absurd (apart p q e)
words_one p q u32 felt e = absurd (apart q p (sym e))
words_one p q u32 u32 e = refl

pub ending_one : {r : List ℕ} {x y : Suffix} → Ending r x → Ending r y → x ≡ y
ending_one (ended q a e) (ended p b f) = words_one q p a b (sym e ∙ f)
ending_one (ended {w} {x} q a e) (not_ended f) = absurd (f q w x a e)
ending_one (not_ended f) (ended {w} {x} q a e) = absurd (f q w x a e)
ending_one (not_ended f) (not_ended g) = refl

-- ---- a lone `0`
in_middle : (f : ℕ → Bool) (q : List ℕ) (b : ℕ) (w : List ℕ) → All f (q ++ b ∷ w) → f b ≡ true
in_middle f [] b w a = a.0
in_middle f (c ∷ q) b w a = in_middle f q b w a.1

-- zeros stand before words alone, so a zero before the last byte is one of them
zero_before : (n : ℕ) (s f : List ℕ) (b : ℕ) → All (in_set word) s → replicate (suc n) 0 ++ s ≡ f ++ 0 ∷ b ∷ [] → (b ≡ 0 → ⊥) → s ≡ b ∷ []
unfolding word
zero_before zero s [] b a e h = cc
zero_before (suc n) s [] b a e h = absurd (h (cc))
zero_before zero s (c ∷ f) b a e h = absurd (false≢true (in_middle (in_set word) f 0 (b ∷ []) (subst (All (in_set word)) (cc) a)))
zero_before (suc n) s (c ∷ f) b a e h = zero_before n s f b a (cc) h

pub zero_alone : {s : List ℕ} → All (in_set word) s → Last s 48 → s ≡ 48 ∷ []
zero_alone {s} a p =
    let c : p.c ≡ 0 = omega (arith, p.is, p.bytes) in
    let d : p.d ≡ 48 = omega (arith, p.is, p.bytes) in
    let f : p.front ++ p.a ∷ p.b ∷ 0 ∷ 48 ∷ [] ≡ (p.front ++ p.a ∷ p.b ∷ []) ++ 0 ∷ 48 ∷ [] = sym (append_assoc p.front (p.a ∷ p.b ∷ []) (0 ∷ 48 ∷ [])) in
    zero_before 3 s (p.front ++ p.a ∷ p.b ∷ []) 48 a (cc) (omega arith)

pub alone_zero : {l : ℕ} → Last (48 ∷ []) l → l ≡ 48
alone_zero p = last_four p (0 ∷ []) (0 ∷ 0 ∷ 0 ∷ 48 ∷ []) refl refl
