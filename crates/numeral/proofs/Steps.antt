-- The steps of a numeral's parser, and its answer. Assumes nothing.
use mathlib.Core.Path.{◌≡◌, refl, sym, ap, subst, ◌∙◌}
use mathlib.Core.Bool.{Bool, true, false, cond}
use mathlib.Core.Logic.{◌⊎◌, inl, inr}
use mathlib.Core.List.{List, [], ◌∷◌, ◌++◌}
use Prim.Native.Nat.{ℕ, ◌+◌, ◌*◌, ◌^◌, ◌≤◌, ◌<◌}
use native.Mathlib.Nat.{mul-le-mul_left}
use native.Mathlib.Numerals.{add-one}
use native.Mathlib.Omega.{arith}
use lib.Dec.{eqb, eqb→eq, lit≤}
use lib.ListN.{length, take, get_or}
use borrow.Author.Tests.{ne_eqb, lt-ltb, le-ltb}
use Rattle.std.proofs.Math.Seq.{take-suc}
use Rattle.std.specs.Prelude.{Some, None, Result, Ok, Err}
use Rattle.patterns.specs.Bytes.{in_set, word, run}
use Rattle.patterns.proofs.Tests.{T_of}
use Rattle.patterns.proofs.Runs.{Passed, passed_none, passed_more, passed_stop, passed_end}
use Rattle.tables.specs.declared.entry_codes.Suffix.{Suffix}
use Rattle.numeral.specs.declared.Base.{Base}
use Rattle.numeral.specs.declared.NumberParseError.{NumberParseError}
use Rattle.numeral.specs.declared.NumberParser.{NumberParser}
use Rattle.numeral.specs.Numeral.{base_code, base_in, base_of, digit_of, digit_in, rest_of, numeral_of}
use Rattle.numeral.specs.Parser.{rest, Word, felt, u32, Ending, ended, not_ended, Last, literal, said, fault, opens, Marked, Reads, unread, Ready, Upto, After, Reached, WithDigit, value, full, still, BaseSet, set, unset, NextCut, kept, decimal, first, cut_unless, Ended, Step, on, stop}
use Rattle.numeral.proofs.Digits.{digit_word, low_shut}
use Rattle.numeral.proofs.Bases.{base_short, base_none, base_small}
use Rattle.numeral.proofs.Windows.{last_none, zero_alone, alone_zero}
use Rattle.numeral.proofs.States.{Value, Open, all_on, mark_none, mark_on, reads_says, reads_digit, reads_full, reads_still, reads_word, reads_cut, reads_on, end_digits, end_other, end_word}

-- ---- the base, and the rest that is read in it
pub extended : (s : List ℕ) (b : ℕ) → (s ≡ 48 ∷ [] → Base.Decimal ≡ base_in (48 ∷ b ∷ [])) → (base_in (s ++ b ∷ []) ≡ base_in s) × (rest (s ++ b ∷ []) ≡ rest s ++ b ∷ [])
unfolding base_in
extended [] b f = (sym (base_short (b ∷ []) (omega arith)), rw (← base_short (b ∷ []) (omega arith)) refl)
extended (a ∷ []) b f = (ten, rw ten (rw (← base_short (a ∷ []) (omega arith)) refl))
  where
    go : (t : Bool) → eqb a 48 ≡ t → base_in (a ∷ b ∷ []) ≡ Base.Decimal
    go true e = let z = eqb→eq a 48 (T_of e) in ap (λ (a : ℕ). base_in (a ∷ b ∷ [])) z ∙ sym (f (ap (λ (a : ℕ). a ∷ []) z))
    go false e = rw e

    ten : base_in (a ∷ b ∷ []) ≡ base_in (a ∷ [])
    ten = go (eqb a 48) refl ∙ base_short (a ∷ []) (omega arith)
extended (a ∷ c ∷ s) b f = (refl, go (eqb (base_of (a ∷ c ∷ s)) 10))
  where
    go : (t : Bool) → cond t (a ∷ c ∷ (s ++ b ∷ [])) (s ++ b ∷ []) ≡ cond t (a ∷ c ∷ s) s ++ b ∷ []
    go true = refl
    go false = refl

-- before any byte
pub fresh : {base : Base} {x d : ℕ} → x ≡ base_code base → d ≤ x → d ≤ 15 → Upto base [] (record { value = 0; mark = Err NumberParseError.InvalidFormat; whole = Err NumberParseError.InvalidFormat; cut = None; radix = x; last = 0; base = base; digits = d })
fresh e h k =
    record {
      base_is = refl;
      radix = e;
      ready = λ o. record { few = k; based = h; uncut = refl; fits = refl };
      last = last_none;
      mark = mark_none;
      reads = unread refl;
    }

pub before_any : {n : NumberParser} → Upto Base.Decimal [] n → After [] n
unfolding base_in
before_any u = record { words = tt; upto = u }

-- ---- one step
-- the state after `0` alone
lone : {n : NumberParser} (s : List ℕ) → s ≡ 48 ∷ [] → After s n → (n.last ≡ 48) × (n.radix ≡ 10)
unfolding base_in
lone {n} s q a =
    let u = a.upto in
    let ten : base_in s ≡ Base.Decimal = ap base_in q in
    let one : rest s ≡ 48 ∷ [] = ap rest q in
    (alone_zero (subst (λ (r : List ℕ). Last r n.last) one u.last), u.radix ∙ ap base_code ten)

ten_code : (base : Base) → base_code base ≡ 10 → base ≡ Base.Decimal
ten_code Base.Binary e = absurd (omega arith)
ten_code Base.Octal e = absurd (omega arith)
ten_code Base.Decimal e = refl
ten_code Base.Hexadecimal e = absurd (omega arith)

moved : {m : NumberParser} {c d : Base} {r t : List ℕ} → d ≡ c → t ≡ r → Upto c r m → Upto d t m
moved {m} {c} {d} {r} p q u = subst (λ (t : List ℕ). Upto d t m) (sym q) (subst (λ (c : Base). Upto c r m) (sym p) u)

module _ {n : NumberParser} {b : ℕ} (g : in_set word b ≡ true) where
  pub step_on : (m : NumberParser) → m.base ≡ n.base → m.radix ≡ n.radix → (0 < m.digits → Ready m) → ((r : List ℕ) → Last r n.last → Last (r ++ b ∷ []) m.last)
      → ((base : Base) (r : List ℕ) → Upto base r n → Marked base (r ++ b ∷ []) m.mark × Reads base (r ++ b ∷ []) m.value m.whole m.cut)
      → (n.last ≡ 48 → n.radix ≡ 10 → Base.Decimal ≡ base_in (48 ∷ b ∷ [])) → Step n b (Some m)
  step_on m e f y l k z = on g (λ s a. record { words = all_on _ s b a.words g; upto = go s a.upto (extended s b (λ q. let h = lone s q a in z h.0 h.1)) })
    where
      go : (s : List ℕ) → Upto (base_in s) (rest s) n → (base_in (s ++ b ∷ []) ≡ base_in s) × (rest (s ++ b ∷ []) ≡ rest s ++ b ∷ []) → Upto (base_in (s ++ b ∷ [])) (rest (s ++ b ∷ [])) m
      go s u x =
          let h = k (base_in s) (rest s) u in
          moved x.0 x.1 (record { base_is = e ∙ u.base_is; radix = f ∙ u.radix; ready = y; last = l (rest s) u.last; mark = h.0; reads = h.1 })

  -- a byte after `0` that sets the base
  pub step_prefix : {m : NumberParser} {base : Base} → n.last ≡ 48 → n.radix ≡ 10 → base ≡ base_in (48 ∷ b ∷ []) → (base ≡ Base.Decimal → ⊥) → Upto base [] m → Step n b (Some m)
  step_prefix {m} {base} l t e h u = on g (λ s a. go s a (zero s a))
    where
      zero : (s : List ℕ) → After s n → s ≡ 48 ∷ []
      zero s a =
          let ten = ten_code (base_in s) (sym a.upto.radix ∙ t) in
          let all : rest s ≡ s = rw ten in
          zero_alone a.words (subst (λ (r : List ℕ). Last r 48) all (subst (λ (k : ℕ). Last (rest s) k) l a.upto.last))

      go : (s : List ℕ) → After s n → s ≡ 48 ∷ [] → After (s ++ b ∷ []) m
      go s a q =
          let i : base_in (s ++ b ∷ []) ≡ base = ap (λ (s : List ℕ). base_in (s ++ b ∷ [])) q ∙ sym e in
          let j : rest (s ++ b ∷ []) ≡ [] = ap (λ (s : List ℕ). rest (s ++ b ∷ [])) q ∙ rw (← e, ne_eqb (base_code base) 10 (λ z. h (ten_code base z))) refl in
          record { words = all_on _ s b a.words g; upto = moved i j u }

-- ---- each kind of step
-- a digit sets no base
ten_digit : (b : ℕ) → digit_of b < 10 → Base.Decimal ≡ base_in (48 ∷ b ∷ [])
unfolding digit_of
ten_digit b h = base_none (48 ∷ b ∷ []) refl (no 88 120 (lit≤ tt) (lit≤ tt)) (no 79 111 (lit≤ tt) (lit≤ tt)) (no 66 98 (lit≤ tt) (lit≤ tt))
  where
    no : (c d : ℕ) → 10 ≤ digit_of c → 10 ≤ digit_of d → (b ≡ c) ⊎ (b ≡ d) → ⊥
    no c d k l (inl e) = omega (arith, ap digit_of e)
    no c d k l (inr e) = omega (arith, ap digit_of e)

-- its radix
pub radix_small : {n : NumberParser} → Reached n → n.radix ≤ 16
radix_small p = omega (arith, p.after.upto.radix, base_small p.so_far)

module _ {n : NumberParser} {b d l : ℕ} {k : Result ℕ NumberParseError} (p : Reached n) (g : in_set word b ≡ true) (e : d ≡ digit_of b) (f : (r : List ℕ) → Last r n.last → Last (r ++ b ∷ []) l) (i : k ≡ cond (opens b) (said n.value n.whole) n.mark) where
  marks : (base : Base) (r : List ℕ) → Upto base r n → Marked base (r ++ b ∷ []) k
  marks base r u = rw i (mark_on b u.mark (reads_says u.reads))

  digit_is : (base : Base) (r : List ℕ) → Upto base r n → d < n.radix → digit_in (base_code base) b ≡ true
  unfolding digit_in
  digit_is base r u h = lt-ltb (digit_of b) (base_code base) (omega (arith, u.radix))

  uncut : (base : Base) (r : List ℕ) → Upto base r n → n.cut ≡ None → Reads base r n.value n.whole None
  uncut base r u c = subst (Reads base r n.value n.whole) c u.reads

  -- a digit of the base
  module _ (c : n.cut ≡ None) (h : d < n.radix) where
    alone : n.last ≡ 48 → n.radix ≡ 10 → Base.Decimal ≡ base_in (48 ∷ b ∷ [])
    alone q t = ten_digit b (omega arith)

    pub step_value : {v : ℕ} → WithDigit n d (Ok v) → Step n b (Some (record { value = v; mark = k; whole = Ok tt; cut = n.cut; radix = n.radix; last = l; base = n.base; digits = n.digits }))
    step_value (value w t) = step_on g _ refl refl ready f (λ base r u. (marks base r u, reads base r u)) alone
      where
        ready : 0 < n.digits → Ready (record { value = n.value * n.radix + d; mark = k; whole = Ok tt; cut = n.cut; radix = n.radix; last = l; base = n.base; digits = n.digits })
        ready o = let y = p.after.upto.ready o in record { few = y.few; based = y.based; uncut = y.uncut; fits = refl }

        reads : (base : Base) (r : List ℕ) → Upto base r n → Reads base (r ++ b ∷ []) (n.value * n.radix + d) (Ok tt) n.cut
        reads base r u = rw (c, e, u.radix) (reads_digit b (digit_is base r u h) (uncut base r u c) w (rw (e, u.radix) at t))

    pub step_full : {z : NumberParseError} → WithDigit n d (Err z) → Step n b (Some (record { value = n.value; mark = k; whole = Err z; cut = n.cut; radix = n.radix; last = l; base = n.base; digits = 0 }))
    step_full t = step_on g _ refl refl (λ o. absurd (omega arith)) f (λ base r u. (marks base r u, rw c (reads base r u t))) alone
      where
        reads : (base : Base) (r : List ℕ) → Upto base r n → {z : NumberParseError} → WithDigit n d (Err z) → Reads base (r ++ b ∷ []) n.value (Err z) None
        reads base r u (full w t) = reads_full b (digit_is base r u h) (uncut base r u c) w (rw (e, u.radix) at t)
        reads base r u (still w) = reads_still b (digit_is base r u h) (uncut base r u c) w

  -- another byte
  pub step_ended : {c : Value} {m : NumberParser} → (n.cut ≡ None → n.radix ≤ d) → BaseSet n b None → NextCut n d c → Ended n c k l m → Step n b (Some m)
  unfolding digit_in
  step_ended {c} {m} y o x q = subst (λ (m : NumberParser). Step n b (Some m)) (sym q.is) (step_on g _ refl refl (λ z. absurd (omega arith)) f (λ base r u. (marks base r u, by_end base r u q.suffix (q.ending (r ++ b ∷ []) (f r u.last)))) (alone o))
    where
      alone : BaseSet n b None → n.last ≡ 48 → n.radix ≡ 10 → Base.Decimal ≡ base_in (48 ∷ b ∷ [])
      alone (unset z) = z

      no_digit : (base : Base) (r : List ℕ) → Upto base r n → n.cut ≡ None → digit_in (base_code base) b ≡ false
      no_digit base r u i = le-ltb (digit_of b) (base_code base) (omega (arith, e, u.radix, y i))

      at_cut : (base : Base) (r : List ℕ) → Upto base r n → (c : Value) → NextCut n d c → Open (r ++ b ∷ []) → Reads base (r ++ b ∷ []) n.value (Err (fault n.whole)) (Some c)
      at_cut base r u c (kept i) o = reads_on b (subst (Reads base r n.value n.whole) i u.reads) o
      at_cut base r u c (decimal i j) o = rw (lt-ltb (digit_of b) 10 (omega (arith, e))) at (reads_cut b (uncut base r u i) (no_digit base r u i) o)
      at_cut base r u c (first i j) o = rw (le-ltb (digit_of b) 10 (omega (arith, e))) at (reads_cut b (uncut base r u i) (no_digit base r u i) o)

      by_end : (base : Base) (r : List ℕ) → Upto base r n → (x : Suffix) → Ending (r ++ b ∷ []) x → Reads base (r ++ b ∷ []) n.value (Err (fault n.whole)) (Some (cut_unless x c (fault n.whole)))
      by_end base r u z (ended q felt t) = reads_word b u.reads (no_digit base r u) q _ _ felt t
      by_end base r u z (ended q u32 t) = reads_word b u.reads (no_digit base r u) q _ _ u32 t
      by_end base r u z (not_ended o) = at_cut base r u c x o

-- `step`'s own: a digit that only adds to the value
pub step_fast : {n : NumberParser} {b d l : ℕ} → Reached n → b < 256 → d ≡ digit_of b → d < n.digits → n.value < 2 ^ 60 → ((r : List ℕ) → Last r n.last → Last (r ++ b ∷ []) l)
    → Step n b (Some (record { value = n.value * n.radix + d; mark = n.mark; whole = Ok tt; cut = n.cut; radix = n.radix; last = l; base = n.base; digits = n.digits }))
step_fast {n} {b} {d} {l} p h e k v f =
    let y = p.after.upto.ready (omega arith) in
    step_value p (digit_word b h (omega (arith, e, y.few))) e f (rw (low_shut b (omega (arith, e, y.few))) refl) y.uncut (omega (arith, y.based)) (value y.fits (omega (arith, y.few, radix_small p, mul-le-mul_left n.value (radix_small p))))

pub step_base : {n m : NumberParser} {b : ℕ} {base : Base} → in_set word b ≡ true → BaseSet n b (Some base) → Upto base [] m → Step n b (Some m)
step_base g (set l t e h) u = step_prefix g l t e h u

-- ---- the answer
module _ {n : NumberParser} (s : List ℕ) (a : After s n) where
  pub says_word : {x : Suffix} → Ending (rest s) x → (x ≡ Suffix.Absent → ⊥) → literal n.base x n.mark ≡ numeral_of s
  unfolding numeral_of
  says_word (ended {w} {x} q p e) h =
      let k = subst (λ (r : List ℕ). Marked (base_in s) r n.mark) e a.upto.mark in
      ap (λ (c : Base). literal c x n.mark) a.upto.base_is ∙ sym (ap (rest_of (base_in s)) e ∙ end_word q p k)
  says_word (not_ended f) h = absurd (h refl)

  pub says_digits : n.cut ≡ None → literal n.base Suffix.Absent (said n.value n.whole) ≡ numeral_of s
  unfolding numeral_of
  says_digits e = ap (λ (c : Base). literal c Suffix.Absent (said n.value n.whole)) a.upto.base_is ∙ sym (end_digits (subst (Reads (base_in s) (rest s) n.value n.whole) e a.upto.reads))

  pub says_cut : {c : Result (Unit {0}) NumberParseError} → Ending (rest s) Suffix.Absent → n.cut ≡ Some c → literal n.base Suffix.Other (said n.value c) ≡ numeral_of s
  unfolding numeral_of
  says_cut {c} p e = ap (λ (b : Base). literal b Suffix.Other (said n.value c)) a.upto.base_is ∙ sym (end_other (subst (Reads (base_in s) (rest s) n.value n.whole) e a.upto.reads) (open_end p refl))
    where
      open_end : {x : Suffix} → Ending (rest s) x → x ≡ Suffix.Absent → (q w : List ℕ) (x : Suffix) → Word w x → rest s ≡ q ++ w → ⊥
      open_end (ended {w} {x} q felt e) h = absurd (let z : ◌≡◌ {A = ℕ} 0 1 = cc in omega arith)
      open_end (ended {w} {x} q u32 e) h = absurd (let z : ◌≡◌ {A = ℕ} 0 1 = cc in omega arith)
      open_end (not_ended f) h = f

-- ---- through the bytes of a text: the first i are a numeral's, and n is the state after them
pub record Way (t : List ℕ) (i k : ℕ) (n : NumberParser) : Type 0 where
  pub passed : Passed (in_set word) t i
  pub count : k ≡ i
  pub after : After (take i t) n

module _ {t : List ℕ} where
  pub way_none : {n : NumberParser} → Upto Base.Decimal [] n → Way t 0 0 n
  way_none u = record { passed = passed_none; count = refl; after = before_any u }

  pub way_more : {i k : ℕ} {n m : NumberParser} → Way t i k n → i < length t → Step n (get_or t i 0) (Some m) → Way t (i + 1) (k + 1) m
  way_more {i} w h (on g f) =
      record { passed = passed_more w.passed h g; count = omega (arith, w.count); after = rw (add-one, take-suc t i 0 h) (f (take i t) w.after) }

  pub way_stop : {i k : ℕ} {n : NumberParser} → Way t i k n → i < length t → Step n (get_or t i 0) None → k ≡ run (in_set word) t
  way_stop w h (stop g) = w.count ∙ passed_stop w.passed h g

  pub way_end : {i k : ℕ} {n : NumberParser} → Way t i k n → length t ≤ i → k ≡ run (in_set word) t
  way_end w h = w.count ∙ passed_end w.passed h

  pub way_after : {i k : ℕ} {n : NumberParser} → Way t i k n → After (take k t) n
  way_after {n = n} w = subst (λ (i : ℕ). After (take i t) n) (sym w.count) w.after
