-- The suffix words in a rest, and the cut that they make. Assumes nothing.
use mathlib.Core.Path.{◌≡◌, refl, sym, ap, ◌∙◌}
use mathlib.Core.Bool.{Bool, true, false, cond, ◌&&◌, false≢true}
use mathlib.Core.List.{List, [], ◌∷◌, ◌++◌}
use Prim.Native.Nat.{ℕ, zero, suc, ◌+◌, ◌-◌, ◌≤◌, ◌<◌, min}
use native.Mathlib.Omega.{arith}
use native.Mathlib.Decide.{dec_le}
use lib.Dec.{ltb, eqb, eqb→eq}
use lib.ListN.{length, take, drop, get_or, length-append, length-drop}
use borrow.Author.Tests.{eq-eqb, ne_eqb, lt-ltb}
use Rattle.std.proofs.Math.Bool.{and-false}
use Rattle.std.proofs.Math.Seq.{drop-append_seam}
use Rattle.std.proofs.lemmas.Bool.{false_from_ne_true}
use Rattle.std.proofs.lemmas.List.{take-append-drop, drop-append-le, get_or-append-add}
use Rattle.patterns.specs.Bytes.{bytes, run, starts, same}
use Rattle.patterns.specs.Patterns.{All}
use Rattle.patterns.proofs.Tests.{T_of, of_T, and_l, and_r}
use Rattle.patterns.proofs.Words.{starts_long, same_is}
use Rattle.tables.specs.declared.entry_codes.Suffix.{Suffix}
use Rattle.numeral.specs.declared.Base.{Base}
use Rattle.numeral.specs.Numeral.{base_code, digit_of, digit_in, last_below, last_of, cut_at, cut_by, cut_of, suffix_kind}
use Rattle.numeral.specs.Parser.{Word, Never, Occurs}

-- ---- any word, at a place
-- what follows a text long enough for the word changes nothing
starts_on : (w a t : List ℕ) → length w ≤ length a → starts w (a ++ t) ≡ starts w a
unfolding starts
starts_on [] a t h = refl
starts_on (b ∷ w) [] t h = absurd (omega arith)
starts_on (b ∷ w) (c ∷ a) t h = ap (λ e. eqb c b && e) (starts_on w a t (omega arith))

starts_drop : (w r t : List ℕ) (k : ℕ) → k + length w ≤ length r → starts w (drop k (r ++ t)) ≡ starts w (drop k r)
starts_drop w r t k h = ap (starts w) (drop-append-le k r t (omega arith)) ∙ starts_on w (drop k r) t (omega (arith, length-drop k r))

-- one that ends the text is its end
ends : (w s : List ℕ) (k : ℕ) → starts w (drop k s) ≡ true → length s - k ≡ length w → s ≡ take k s ++ w
unfolding same
ends w s k e h = sym (take-append-drop k s) ∙ ap (λ t. take k s ++ t) (same_is w (drop k s) (rw (eq-eqb _ _ (length-drop k s ∙ h), e)))

same_starts : (w s : List ℕ) → same w s ≡ true → starts w s ≡ true
unfolding same
same_starts w s e = of_T _ (and_r (eqb (length s) (length w)) (starts w s) (T_of e))

-- ---- any word, at its last place
-- at none of the places from a to below n
abbrev Free : List ℕ → List ℕ → ℕ → ℕ → Type 0
Free w s a n = (j : ℕ) → a ≤ j → j < n → starts w (drop j s) ≡ true → ⊥

-- its last place below n is k, or k is the end of s
data Found (w s : List ℕ) (n k : ℕ) : Type 0 where
  none : k ≡ length s → Free w s 0 n → Found w s n k
  some : k < n → starts w (drop k s) ≡ true → Free w s (suc k) n → Found w s n k

free_more : (w s : List ℕ) (a n : ℕ) → Free w s a n → starts w (drop n s) ≡ false → Free w s a (suc n)
free_more w s a n f e j h i t = elim (dec_le n j) [ yes p ↦ (let q : j ≡ n = omega arith in false≢true (sym e ∙ ap (λ k. starts w (drop k s)) (sym q) ∙ t)) | no p ↦ f j h (omega arith) t ]

found_below : (w s : List ℕ) (n : ℕ) → Found w s n (last_below w s n)
unfolding last_below
found_below w s zero = none refl (λ j h i e. omega arith)
found_below w s (suc n) = go (starts w (drop n s)) refl (found_below w s n)
  where
    go : (t : Bool) → starts w (drop n s) ≡ t → Found w s n (last_below w s n) → Found w s (suc n) (cond t n (last_below w s n))
    go true e f = some (omega arith) e (λ j h i u. omega arith)
    go false e (none p f) = none p (free_more w s 0 n f e)
    go false e (some h p f) = some (omega arith) p (free_more w s _ n f e)

found : (w s : List ℕ) → Found w s (length s) (last_of w s)
unfolding last_of
found w s = found_below w s (length s)

last_never : (w s : List ℕ) → Free w s 0 (length s) → last_of w s ≡ length s
last_never w s f = elim (found w s) [ none p g ↦ p | some h p g ↦ absurd (f _ (omega arith) h p) ]

last_within : (w s : List ℕ) (k : ℕ) → k < length s → starts w (drop k s) ≡ true → last_of w s < length s
last_within w s k h e = elim (found w s) [ none p f ↦ absurd (f k (omega arith) h e) | some i p f ↦ i ]

last_end : (w q : List ℕ) → 0 < length w → starts w w ≡ true → last_of w (q ++ w) ≡ length q
last_end w q h e = go (last_of w (q ++ w)) (found w (q ++ w))
  where
    there : starts w (drop (length q) (q ++ w)) ≡ true
    there = ap (starts w) (drop-append_seam q w) ∙ e

    go : (k : ℕ) → Found w (q ++ w) (length (q ++ w)) k → k ≡ length q
    go k (none p f) = absurd (f (length q) (omega arith) (omega (arith, length-append q w)) there)
    go k (some i p f) = elim (dec_le (length q) k) [ yes l ↦ omega (arith, starts_long w _ p, length-drop k (q ++ w), length-append q w) | no l ↦ absurd (f (length q) (omega arith) (omega (arith, length-append q w)) there) ]

-- ---- the cut that a word makes
cut_other : (w s : List ℕ) → ((q : List ℕ) → s ≡ q ++ w → ⊥) → cut_by w s ≡ length s
unfolding cut_by cut_at
cut_other w s f = go (last_of w s) (found w s) (ltb 0 (last_of w s))
  where
    same_both : (t : Bool) (n : ℕ) → cond t n n ≡ n
    same_both true n = refl
    same_both false n = refl

    go : (k : ℕ) → Found w s (length s) k → (t : Bool) → cond (t && eqb (length s - k) (length w)) k (length s) ≡ length s
    go k (none p g) t = rw p (same_both (t && eqb (length s - length s) (length w)) (length s))
    go k (some h p g) t = rw (ne_eqb (length s - k) (length w) (λ e. f (take k s) (ends w s k p e)), and-false t)

cut_ends : (w q : List ℕ) → 0 < length w → 0 < length q → starts w w ≡ true → cut_by w (q ++ w) ≡ length q
unfolding cut_by cut_at
cut_ends w q h i e = rw (last_end w q h e, lt-ltb 0 (length q) i, eq-eqb (length (q ++ w) - length q) (length w) (omega (arith, length-append q w)))

-- ---- the two words
word_some : {w : List ℕ} {x : Suffix} → Word w x → 0 < length w
word_some Word.felt = omega arith
word_some Word.u32 = omega arith

word_self : {w : List ℕ} {x : Suffix} → Word w x → starts w w ≡ true
unfolding starts
word_self Word.felt = refl
word_self Word.u32 = refl

-- they end in different bytes
words_differ : (q p : List ℕ) → q ++ bytes "felt" ≡ p ++ bytes "u32" → ⊥
words_differ q p e =
    let n : length q + 3 ≡ length p + 2 = omega (arith, ap length e, length-append q (bytes "felt"), length-append p (bytes "u32")) in
    let b : get_or (q ++ bytes "felt") (length q + 3) 0 ≡ 116 = get_or-append-add q (bytes "felt") 3 0 in
    let c : get_or (p ++ bytes "u32") (length p + 2) 0 ≡ 50 = get_or-append-add p (bytes "u32") 2 0 in
    cc

-- ---- a word occurs, or none does
-- a word that occurs in r with a byte more, but not in r, ends it
pub never_on : (r : List ℕ) (b : ℕ) → Never r → ((q w : List ℕ) (x : Suffix) → Word w x → r ++ b ∷ [] ≡ q ++ w → ⊥) → Never (r ++ b ∷ [])
never_on r b n f w x k o h e =
    let m = word_some o in
    let l : k + length w ≤ length r + 1 = omega (arith, starts_long w (drop k (r ++ b ∷ [])) e, length-drop k (r ++ b ∷ []), length-append r (b ∷ [])) in
    elim (dec_le (k + length w) (length r)) [
      | yes p ↦ n w x k o (omega arith) (sym (starts_drop w r (b ∷ []) k p) ∙ e)
      | no p ↦ f (take k (r ++ b ∷ [])) w x o (ends w (r ++ b ∷ []) k e (omega (arith, length-append r (b ∷ []))))
    ]

pub occurs_on : (r t : List ℕ) → Occurs r → Occurs (r ++ t)
occurs_on r t o =
    let l : o.place + length o.text ≤ length r = omega (arith, starts_long o.text (drop o.place r) o.there, length-drop o.place r, o.within) in
    record { text = o.text; suffix = o.suffix; place = o.place; is = o.is; within = omega (arith, o.within, length-append r t); there = starts_drop o.text r t o.place l ∙ o.there }

pub occurs_end : (q w : List ℕ) (x : Suffix) → Word w x → Occurs (q ++ w)
occurs_end q w x o =
    record { text = w; suffix = x; place = length q; is = o; within = omega (arith, word_some o, length-append q w); there = ap (starts w) (drop-append_seam q w) ∙ word_self o }

-- ---- the cut
pub cut_never : (base : ℕ) (r : List ℕ) → Never r → cut_of base r ≡ run (digit_in base) r
unfolding cut_of
cut_never base r n = rw (eq-eqb _ _ (never Word.felt), eq-eqb _ _ (never Word.u32))
  where
    never : {w : List ℕ} {x : Suffix} → Word w x → last_of w r ≡ length r
    never {w} {x} o = last_never w r (λ k a h e. n w x k o h e)

-- where a word occurs, the smaller cut counts
cut_occurs : (base : ℕ) (r : List ℕ) → Occurs r → cut_of base r ≡ min (cut_by (bytes "felt") r) (cut_by (bytes "u32") r)
unfolding cut_of
cut_occurs base r o = go o.is (last_within o.text r o.place o.within o.there)
  where
    go : {w : List ℕ} {x : Suffix} → Word w x → last_of w r < length r → cut_of base r ≡ min (cut_by (bytes "felt") r) (cut_by (bytes "u32") r)
    go Word.felt l = rw (ne_eqb (last_of (bytes "felt") r) (length r) (λ e. omega arith))
    go Word.u32 l = rw (ne_eqb (last_of (bytes "u32") r) (length r) (λ e. omega arith), and-false)

-- a word occurs, and none ends r: the cut is the end
pub cut_inside : (base : ℕ) (r : List ℕ) → Occurs r → ((q w : List ℕ) (x : Suffix) → Word w x → r ≡ q ++ w → ⊥) → cut_of base r ≡ length r
cut_inside base r o f = omega (arith, cut_occurs base r o, cut_other (bytes "felt") r (λ q. f q _ _ Word.felt), cut_other (bytes "u32") r (λ q. f q _ _ Word.u32))

-- a word ends r, past its first byte: the cut is before it
pub cut_end : (base : ℕ) (q w : List ℕ) (x : Suffix) → Word w x → 0 < length q → cut_of base (q ++ w) ≡ length q
cut_end base q w x Word.felt h =
    let r = q ++ bytes "felt" in
    omega (arith, length-append q (bytes "felt"), cut_occurs base r (occurs_end q _ _ Word.felt), cut_ends (bytes "felt") q (omega arith) h (word_self Word.felt), cut_other (bytes "u32") r (words_differ q))
cut_end base q w x Word.u32 h =
    let r = q ++ bytes "u32" in
    omega (arith, length-append q (bytes "u32"), cut_occurs base r (occurs_end q _ _ Word.u32), cut_ends (bytes "u32") q (omega arith) h (word_self Word.u32), cut_other (bytes "felt") r (λ p e. words_differ p q (sym e)))

-- the word alone: there is none past the first byte
pub cut_alone : (base : ℕ) (w : List ℕ) (x : Suffix) → Word w x → cut_of base w ≡ length w
unfolding cut_of cut_by cut_at last_of last_below starts
cut_alone base w x Word.felt = refl
cut_alone base w x Word.u32 = refl

-- ---- the suffix
pub suffix_end : (w : List ℕ) (x : Suffix) → Word w x → suffix_kind w ≡ x
unfolding suffix_kind same starts
suffix_end w x Word.felt = refl
suffix_end w x Word.u32 = refl

pub suffix_never : (r : List ℕ) (k : ℕ) → Never r → k < length r → suffix_kind (drop k r) ≡ Suffix.Other
unfolding suffix_kind
suffix_never r k n h = rw (ne_eqb (length (drop k r)) 0 (λ e. omega (arith, length-drop k r)), not_word Word.felt, not_word Word.u32)
  where
    not_word : {w : List ℕ} {x : Suffix} → Word w x → same w (drop k r) ≡ false
    not_word {w} {x} o = false_from_ne_true _ (λ e. n w x k o h (same_starts w (drop k r) e))

-- ---- digits
all_drop : (f : ℕ → Bool) (s : List ℕ) (k : ℕ) → All f s → All f (drop k s)
all_drop f s zero a = a
all_drop f [] (suc k) a = tt
all_drop f (b ∷ s) (suc k) a = all_drop f s k a.1

-- a word's bytes are the text's
all_word : (f : ℕ → Bool) (w s : List ℕ) → All f s → starts w s ≡ true → All f w
unfolding starts
all_word f [] s a e = tt
all_word f (c ∷ w) [] a e = absurd (false≢true e)
all_word f (c ∷ w) (b ∷ s) a e =
    let t = T_of e in
    (ap f (sym (eqb→eq b c (and_l (eqb b c) (starts w s) t))) ∙ a.0, all_word f w s a.1 (of_T _ (and_r (eqb b c) (starts w s) t)))

-- l and u are no digits in any base
no_letters : (base : Base) → (digit_in (base_code base) 108 ≡ false) × (digit_in (base_code base) 117 ≡ false)
unfolding digit_in digit_of
no_letters Base.Binary = (refl, refl)
no_letters Base.Octal = (refl, refl)
no_letters Base.Decimal = (refl, refl)
no_letters Base.Hexadecimal = (refl, refl)

pub digits_never : (base : Base) (r : List ℕ) → All (digit_in (base_code base)) r → Never r
digits_never base r a w x k o h e = go o (all_word f w (drop k r) (all_drop f r k a) e)
  where
    f : ℕ → Bool
    f = digit_in (base_code base)

    go : {w : List ℕ} {x : Suffix} → Word w x → All f w → ⊥
    go Word.felt b = false≢true (sym (no_letters base).0 ∙ b.1.1.0)
    go Word.u32 b = false≢true (sym (no_letters base).1 ∙ b.0)
