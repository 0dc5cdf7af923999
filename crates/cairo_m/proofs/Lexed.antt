-- The tokens of a text stand in order within it, every field of a token fits its width, and its base is what its bytes say. Assumes nothing.
use mathlib.Core.Path.{◌≡◌, refl, sym, ap, subst, ◌∙◌}
use mathlib.Core.Bool.{Bool, true, false, cond}
use mathlib.Core.List.{List, [], ◌∷◌}
use Prim.Native.Nat.{ℕ, zero, suc, ◌+◌, ◌-◌, ◌*◌, ◌^◌, ◌≤◌, ◌<◌, zero-le}
use native.Mathlib.Omega.{arith}
use native.Mathlib.Nat.{le_refl, le_trans}
use lib.Dec.{ltb, eqb}
use lib.ListN.{length, take, drop, get_or, length-drop}
use lib.Seq.{drop-drop}
use borrow.Author.Tests.{ltb-false, ne_eqb}
use Rattle.std.specs.Prelude.{Result, Ok, Err}
use Rattle.tables.specs.Tables.{Token, Diagnostic}
use Rattle.tables.specs.TokenKinds.{NUMBER}
use Rattle.tables.specs.Codes.{suffix_code}
use Rattle.tables.specs.declared.entry_codes.Suffix.{Suffix}
use Rattle.tables.proofs.Laws.{TokenFits, zero_token}
use Rattle.numeral.specs.Numeral.{most, base_code, base_in, base_of, digit_of, digit_in, cut_of, suffix_kind, reading, read_to, rest_of, numeral_of}
use Rattle.numeral.proofs.Bases.{base_small, base_told}
use Rattle.numeral.specs.declared.Base.{Base}
use Rattle.numeral.specs.declared.NumberLiteral.{NumberLiteral}
use Rattle.numeral.specs.declared.NumberParseError.{NumberParseError}
use Rattle.lexer.specs.Tokens.{Spells, white_space, comment, numeral, name, fixed}
use Rattle.lexer.specs.Lexes.{Item, skipped, token, error, item_of, Step, matched, strange, tokens, Lexes, done, step}
use Rattle.lexer.proofs.Texts.{fixed_kind}
use Rattle.lexer.proofs.Determined.{step_some}
use Rattle.grammar.proofs.Spans.{Ordered}
use Rattle.cairo_m.specs.Bases.{token_base}

-- what holds either way of a test
pub either_way : {A : Type 0} (P : A → Type 0) {a b : A} (c : Bool) → (c ≡ true → P a) → (c ≡ false → P b) → P (cond c a b)
either_way P true f g = f refl
either_way P false f g = g refl

-- ---- numerals: a value of 64 bits
data Small : Result NumberLiteral NumberParseError → Type 0 where
  number : {l : NumberLiteral} → l.value ≤ most → Small (Ok l)
  overflow : Small (Err NumberParseError.Overflow)
  format : Small (Err NumberParseError.InvalidFormat)

reading_small : (base : Base) (v : ℕ) (x : Suffix) (s : List ℕ) → v ≤ most → Small (reading base x v s)
unfolding reading
reading_small base v x [] h = number h
reading_small base v x (b ∷ s) h =
    either_way Small (digit_in (base_code base) b)
    (λ p. either_way Small (ltb most (v * base_code base + digit_of b)) (λ q. overflow) (λ q. reading_small base (v * base_code base + digit_of b) x s (ltb-false _ _ q)))
    (λ p. format)

rest_small : (base : Base) (s : List ℕ) → Small (rest_of base s)
unfolding rest_of read_to
rest_small base s =
    let k = cut_of (base_code base) s in
    either_way Small (eqb k 0) (λ p. format)
    (λ p. either_way Small (digit_in 10 (get_or s k 0)) (λ q. format) (λ q. reading_small base 0 (suffix_kind (drop k s)) (take k s) zero-le))

numeral_small : (s : List ℕ) → Small (numeral_of s)
unfolding numeral_of
numeral_small s = rest_small (base_in s) (cond (eqb (base_of s) 10) s (drop 2 s))

-- ---- items, over the bytes w
data Fine (w : List ℕ) : Item → Type 0 where
  nothing : Fine w skipped
  fine : {k x b v : ℕ} → k < 256 → x < 256 → v < 2 ^ 64 → b ≡ cond (eqb k NUMBER) (base_of w) 0 → Fine w (token k x b v)
  wrong : {r : ℕ} → Fine w (error r)

spells_kind : {k : ℕ} {s : List ℕ} → Spells k s → k < 51
spells_kind (white_space e p) = omega arith
spells_kind (comment e p) = omega arith
spells_kind (numeral e p) = omega arith
spells_kind (name e p) = omega arith
spells_kind {k} (fixed h e) = fixed_kind k (subst (λ (w : List ℕ). 1 ≤ length w) e h)

code_fits : (x : Suffix) → suffix_code x < 256
code_fits Suffix.Absent = omega arith
code_fits Suffix.Felt = omega arith
code_fits Suffix.U32 = omega arith
code_fits Suffix.Other = omega arith

item_fine : (k : ℕ) (w : List ℕ) {a : Result NumberLiteral NumberParseError} → k < 51 → Small a → numeral_of w ≡ a → Fine w (item_of k a)
item_fine zero w h s e = nothing
item_fine (suc zero) w h (number {l} p) e = fine {k = 1} {x = suffix_code l.suffix} {v = l.value} (omega arith) (code_fits l.suffix) (omega arith) (base_told w e)
item_fine (suc zero) w h overflow e = wrong
item_fine (suc zero) w h format e = wrong
item_fine (suc (suc k)) w h s e = fine {k = suc (suc k)} {x = 0} {b = 0} {v = 0} (omega arith) (omega arith) (omega arith) (sym (rw (ne_eqb (suc (suc k)) NUMBER (λ e. omega arith))))

step_fine : {s : List ℕ} {n : ℕ} {i : Item} → Step s n i → Fine (take n s) i
step_fine {s} {n} (matched k b e) = subst (Fine (take n s)) (sym e) (item_fine k (take n s) (spells_kind b.spells) (numeral_small (take n s)) refl)
step_fine {s} {n} (strange c t b e) = subst (Fine (take n s)) (sym e) wrong

-- ---- tokens one after the other, from a on and within the text
record Placed (text : List ℕ) (t : Token) : Type 0 where
  some : t.start < t.end
  inside : t.end ≤ length text
  kind_fits : t.kind < 256
  suffix_fits : t.suffix < 256
  value_fits : t.value < 2 ^ 64
  base_is : t.base ≡ token_base text t

data Line (text : List ℕ) : ℕ → List Token → Type 0 where
  end : {a : ℕ} → Line text a []
  next : {a : ℕ} {t : Token} {ts : List Token} → a ≤ t.start → Placed text t → Line text t.end ts → Line text a (t ∷ ts)

earlier : {text : List ℕ} {a b : ℕ} {ts : List Token} → b ≤ a → Line text a ts → Line text b ts
earlier h end = end
earlier h (next g p l) = next (le_trans h g) p l

item_line : {text : List ℕ} {a n : ℕ} {i : Item} {ts : List Token} → Fine (take n (drop a text)) i → 1 ≤ n → a + n ≤ length text → Line text (a + n) ts → Line text a (tokens i a (a + n) ts)
unfolding token_base
item_line nothing h k l = earlier (omega arith) l
item_line {text} {a} {n} (fine {k = c} {x} {b} {v} p q r f) h k l =
    let e : a + n - a ≡ n = omega arith in
    next {t = record { kind = c; suffix = x; start = a; end = a + n; base = b; value = v }} (le_refl _)
    (record { some = omega arith; inside = k; kind_fits = p; suffix_fits = q; value_fits = r; base_is = f ∙ ap (λ (m : ℕ). cond (eqb c NUMBER) (base_of (take m (drop a text))) 0) (sym e) }) l
item_line wrong h k l = earlier (omega arith) l

line : {text : List ℕ} {at : ℕ} {s : List ℕ} {ts : List Token} {ds : List Diagnostic} → Lexes at s ts ds → s ≡ drop at text → at ≤ length text → Line text at ts
line done e h = end
line {text} {at} {s} (step n i st l) e h =
    let k = step_some st in
    let m : at + n ≤ length text = omega (arith, ap length e, length-drop at text) in
    item_line (subst (λ (w : List ℕ). Fine (take n w) i) e (step_fine st)) k.0 m (line l (ap (drop n) e ∙ drop-drop n at text) m)

line_at : {text : List ℕ} {a : ℕ} {ts : List Token} → Line text a ts → (i : ℕ) → i < length ts → Placed text (get_or ts i zero_token)
line_at end i h = absurd (omega arith)
line_at (next g p l) zero h = p
line_at (next g p l) (suc i) h = line_at l i (omega arith)

line_from : {text : List ℕ} {a : ℕ} {ts : List Token} → Line text a ts → 0 < length ts → a ≤ (get_or ts 0 zero_token).start
line_from end h = absurd (omega arith)
line_from (next g p l) h = g

line_apart : {text : List ℕ} {a : ℕ} {ts : List Token} → Line text a ts → (i : ℕ) → suc i < length ts → (get_or ts i zero_token).end ≤ (get_or ts (suc i) zero_token).start
line_apart end i h = absurd (omega arith)
line_apart (next g p l) zero h = line_from l (omega arith)
line_apart (next g p l) (suc i) h = line_apart l i (omega arith)

base_byte : {text : List ℕ} {t : Token} → Placed text t → t.base < 256
unfolding token_base
base_byte {text} {t} p =
    let w = take (t.end - t.start) (drop t.start text) in
    subst (λ (b : ℕ). b < 256) (sym p.base_is) (either_way (λ (b : ℕ). b < 256) (eqb t.kind NUMBER) (λ e. omega (arith, base_small w)) (λ e. omega arith))

module _ {text : List ℕ} {ts : List Token} {ds : List Diagnostic} (l : Lexes 0 text ts ds) where
  in_line : Line text 0 ts
  in_line = line l refl (omega arith)

  pub ordered : Ordered (record { text = text; tokens = ts })
  ordered = record { some = λ i h. (line_at in_line i h).some; apart = line_apart in_line; inside = λ i h. (line_at in_line i h).inside }

  pub fits : length text ≤ 65535 → (i : ℕ) → i < length ts → TokenFits (get_or ts i zero_token)
  fits h i k = let p = line_at in_line i k in omega (arith, base_byte p)

  -- without a bound on the text
  pub values : (i : ℕ) → i < length ts → ((get_or ts i zero_token).base < 256) × ((get_or ts i zero_token).value < 2 ^ 64)
  values i k = let p = line_at in_line i k in (base_byte p, p.value_fits)

  pub token_bases : (i : ℕ) → i < length ts → (get_or ts i zero_token).base ≡ token_base text (get_or ts i zero_token)
  token_bases i k = (line_at in_line i k).base_is
