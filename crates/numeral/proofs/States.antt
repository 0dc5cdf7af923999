-- What the bytes so far say, with a byte more, and at the end of a spelling. Assumes nothing.
use mathlib.Core.Path.{◌≡◌, refl, sym, ap, subst, ◌∙◌}
use mathlib.Core.Bool.{Bool, true, false, cond, false≢true}
use mathlib.Core.List.{List, [], ◌∷◌, ◌++◌, append_assoc, append-nil}
use Prim.Native.Nat.{ℕ, zero, suc, ◌+◌, ◌*◌, ◌-◌, ◌≤◌, ◌<◌}
use native.Mathlib.Omega.{arith}
use native.Mathlib.Decide.{dec_le}
use native.Mathlib.Nat.{le_refl}
use lib.Dec.{lit<}
use lib.ListN.{length, take, get_or, length-append, get_or-append, get_or-eq_default, drop_of_length-le}
use lib.Seq.{take_all}
use borrow.Author.Tests.{lt-ltb, le-ltb, ne_eqb, eq-eqb}
use Rattle.std.proofs.Math.Seq.{take-append_seam, drop-append_seam, get_or-append_seam, get_or-append_right}
use Rattle.std.proofs.lemmas.List.{nil_from_length, take-append-le}
use Rattle.std.specs.Prelude.{Option, Some, None, Result, Ok, Err}
use Rattle.patterns.specs.Bytes.{run}
use Rattle.patterns.specs.Patterns.{All}
use Rattle.tables.specs.declared.entry_codes.Suffix.{Suffix}
use Rattle.numeral.specs.declared.Base.{Base}
use Rattle.numeral.specs.declared.NumberLiteral.{NumberLiteral}
use Rattle.numeral.specs.declared.NumberParseError.{NumberParseError}
use Rattle.numeral.specs.Numeral.{most, base_code, digit_of, digit_in, suffix_kind, reading, read_to, rest_of, cut_of, last_of, last_below}
use Rattle.numeral.specs.Parser.{Word, felt, u32, Never, Occurs, literal, said, Says, opens, Marked, Goes, Fails, fault, late, Reads, unread, digits, over, other, suffixed}
use Rattle.numeral.proofs.Words.{never_on, occurs_on, occurs_end, cut_never, cut_inside, cut_end, cut_alone, suffix_end, suffix_never, digits_never}
use Rattle.patterns.proofs.Runs.{run_whole}

abbrev pub Value : Type 0
Value = Result (Unit {0}) NumberParseError

pub all_on : (f : ℕ → Bool) (r : List ℕ) (b : ℕ) → All f r → f b ≡ true → All f (r ++ b ∷ [])
all_on f [] b a e = (e, tt)
all_on f (c ∷ r) b a e = (a.0, all_on f r b a.1 e)

more : (r : List ℕ) (b : ℕ) → 0 < length (r ++ b ∷ [])
more r b = omega (arith, length-append r (b ∷ []))

-- ---- the mark
pub mark_none : {base : Base} {m : Result ℕ NumberParseError} → Marked base [] m
mark_none = record { says = λ k h e f. absurd (omega arith) }

pub mark_on : {base : Base} {r : List ℕ} {m s : Result ℕ NumberParseError} (b : ℕ) → Marked base r m → Says base r s → Marked base (r ++ b ∷ []) (cond (opens b) s m)
mark_on {base} {r} {m} {s} b old now = record { says = λ k h e f. elim (dec_le (suc k) (length r)) [ yes p ↦ before k e f p | no p ↦ here k e (omega (arith, h, length-append r (b ∷ []))) ] }
  where
    before : (k : ℕ) → opens (get_or (r ++ b ∷ []) k 0) ≡ true → ((j : ℕ) → k < j → j < length (r ++ b ∷ []) → opens (get_or (r ++ b ∷ []) j 0) ≡ false) → k < length r → Says base (take k (r ++ b ∷ [])) (cond (opens b) s m)
    before k e f p =
        let shut : opens b ≡ false = subst (λ (c : ℕ). opens c ≡ false) (get_or-append_seam r b [] 0) (f (length r) p (omega (arith, length-append r (b ∷ [])))) in
        let was : (j : ℕ) → j < length r → get_or (r ++ b ∷ []) j 0 ≡ get_or r j 0 = λ j l. get_or-append r (b ∷ []) 0 j l in
        rw (shut, take-append-le k r (b ∷ []) (omega arith)) (old.says k p (subst (λ (c : ℕ). opens c ≡ true) (was k p) e) (λ j i l. subst (λ (c : ℕ). opens c ≡ false) (was j l) (f j i (omega (arith, length-append r (b ∷ []))))))

    here : (k : ℕ) → opens (get_or (r ++ b ∷ []) k 0) ≡ true → k ≡ length r → Says base (take k (r ++ b ∷ [])) (cond (opens b) s m)
    here k e p =
        let open_b : opens b ≡ true = subst (λ (c : ℕ). opens c ≡ true) (ap (λ (j : ℕ). get_or (r ++ b ∷ []) j 0) p ∙ get_or-append_seam r b [] 0) e in
        rw (p, open_b, take-append_seam r (b ∷ [])) now

-- ---- a byte more
module _ {base : Base} {r : List ℕ} where
  fails_on : {e : NumberParseError} (b : ℕ) → Fails base r e → Fails base (r ++ b ∷ []) e
  fails_on b f = record { on = λ x t. ap (reading base x 0) (append_assoc r (b ∷ []) t) ∙ f.on x (b ∷ t) }

  module _ {v : ℕ} (b : ℕ) (g : Goes base r v) where
    split : (x : Suffix) (t : List ℕ) → reading base x 0 ((r ++ b ∷ []) ++ t) ≡ reading base x v (b ∷ t)
    split x t = ap (reading base x 0) (append_assoc r (b ∷ []) t) ∙ g.on x (b ∷ t)

    goes_on : digit_in (base_code base) b ≡ true → v * base_code base + digit_of b ≤ most → Goes base (r ++ b ∷ []) (v * base_code base + digit_of b)
    unfolding reading
    goes_on d h = record { on = λ x t. split x t ∙ rw (d, le-ltb most (v * base_code base + digit_of b) h) }

    goes_over : digit_in (base_code base) b ≡ true → most < v * base_code base + digit_of b → Fails base (r ++ b ∷ []) NumberParseError.Overflow
    unfolding reading
    goes_over d h = record { on = λ x t. split x t ∙ rw (d, lt-ltb most (v * base_code base + digit_of b) h) }

    goes_wrong : digit_in (base_code base) b ≡ false → Fails base (r ++ b ∷ []) NumberParseError.InvalidFormat
    unfolding reading
    goes_wrong d = record { on = λ x t. split x t ∙ rw d }

goes_none : (base : Base) (r : List ℕ) → r ≡ [] → Goes base r 0
goes_none base r e = rw e (record { on = λ x t. refl })

abbrev Late : Value
Late = Err NumberParseError.Overflow

-- no word ends r
abbrev pub Open : List ℕ → Type 0
Open r = (q w : List ℕ) (x : Suffix) → Word w x → r ≡ q ++ w → ⊥

-- the cut from b on, the first byte that is no digit
abbrev pub cut_before : Bool → Value → Value
cut_before t w = cond t (Err NumberParseError.InvalidFormat) w

run_stops : (f : ℕ → Bool) (r : List ℕ) (b : ℕ) (t : List ℕ) → All f r → f b ≡ false → run f (r ++ b ∷ t) ≡ length r
unfolding run
run_stops f [] b t a e = rw e
run_stops f (c ∷ r) b t a e = rw (a.0, run_stops f r b t a.1 e)

whole : (base : Base) (r : List ℕ) (x : Suffix) {a : Result NumberLiteral NumberParseError} → reading base x 0 (r ++ []) ≡ a → reading base x 0 r ≡ a
whole base r x f = ap (reading base x 0) (sym (append-nil r)) ∙ f

-- the cut is the end
at_end : (base : Base) (r : List ℕ) {a : Result NumberLiteral NumberParseError} → 0 < length r → cut_of (base_code base) r ≡ length r → reading base Suffix.Absent 0 r ≡ a → rest_of base r ≡ a
unfolding rest_of read_to digit_in digit_of suffix_kind
at_end base r h e f = rw (e, ne_eqb (length r) 0 (omega arith), get_or-eq_default r 0 (le_refl (length r)), drop_of_length-le r (le_refl (length r)), take_all (length r) r (le_refl (length r))) f

module _ {base : Base} {r : List ℕ} where
  -- what all of it says
  pub reads_says : {v : ℕ} {w : Value} {c : Option Value} → Reads base r v w c → Says base r (said v w)
  unfolding reading
  reads_says (unread e) = record { nothing = λ z. refl; something = λ h x. absurd (omega (arith, ap length e)) }
  reads_says (digits h a l f) = record { nothing = λ e. absurd (omega (arith, ap length e)); something = λ z x. whole base r x (f.on x []) }
  reads_says (over h a f) = record { nothing = λ e. absurd (omega (arith, ap length e)); something = λ z x. whole base r x (f.on x []) }
  reads_says (other h f n k) = record { nothing = λ e. absurd (omega (arith, ap length e)); something = λ z x. whole base r x (f.on x []) }
  reads_says (suffixed f o) = record { nothing = λ e. absurd (omega (arith, o.within, ap length e)); something = λ z x. whole base r x (f.on x []) }

  running : {v : ℕ} {w : Value} → Reads base r v w None → All (digit_in (base_code base)) r
  running (unread e) = rw e tt
  running (digits l a m g) = a
  running (over l a f) = a

  -- another digit
  goes : {v : ℕ} {w : Value} → Reads base r v w None → late w ≡ false → Goes base r v
  goes (unread e) n = goes_none base r e
  goes (digits l a m g) n = g
  goes (over l a f) n = absurd (false≢true (sym n))

  module _ (b : ℕ) (d : digit_in (base_code base) b ≡ true) where
    pub reads_digit : {v : ℕ} {w : Value} → Reads base r v w None → late w ≡ false → v * base_code base + digit_of b ≤ most → Reads base (r ++ b ∷ []) (v * base_code base + digit_of b) (Ok tt) None
    reads_digit p n h = digits (more r b) (all_on _ r b (running p) d) h (goes_on b (goes p n) d h)

    pub reads_full : {v : ℕ} {w : Value} → Reads base r v w None → late w ≡ false → most < v * base_code base + digit_of b → Reads base (r ++ b ∷ []) v Late None
    reads_full p n h = over (more r b) (all_on _ r b (running p) d) (goes_over b (goes p n) d h)

    pub reads_still : {v : ℕ} {w : Value} → Reads base r v w None → late w ≡ true → Reads base (r ++ b ∷ []) v Late None
    reads_still (unread e) n = absurd (false≢true n)
    reads_still (digits l a m g) n = absurd (false≢true n)
    reads_still (over l a f) n = over (more r b) (all_on _ r b a d) (fails_on b f)

  -- the digits r, then b, then whatever makes no word
  stopped : {m : Result ℕ NumberParseError} (b : ℕ) → All (digit_in (base_code base)) r → Says base r m → digit_in (base_code base) b ≡ false → (t : List ℕ) → Never (r ++ b ∷ t) → rest_of base (r ++ b ∷ t) ≡ literal base Suffix.Other (cond (digit_in 10 b) (Err NumberParseError.InvalidFormat) m)
  unfolding rest_of read_to
  stopped {m} b a s d t n =
      rw (
        cut_never (base_code base) (r ++ b ∷ t) n,
        run_stops (digit_in (base_code base)) r b t a d,
        get_or-append_seam r b t 0,
        take-append_seam r (b ∷ t),
        suffix_never (r ++ b ∷ t) (length r) n (omega (arith, length-append r (b ∷ t))),
      ) (elim (dec_le 1 (length r)) [ yes h ↦ rw (ne_eqb (length r) 0 (omega arith), s.something h Suffix.Other) (go (digit_in 10 b)) | no h ↦ rw (eq-eqb (length r) 0 (omega arith), s.nothing (nil_from_length r (omega arith))) (none (digit_in 10 b)) ])
    where
      go : (u : Bool) → cond u (Err NumberParseError.InvalidFormat) (literal base Suffix.Other m) ≡ literal base Suffix.Other (cond u (Err NumberParseError.InvalidFormat) m)
      go true = refl
      go false = refl

      none : (u : Bool) → Err NumberParseError.InvalidFormat ≡ literal base Suffix.Other (cond u (Err NumberParseError.InvalidFormat) (Err NumberParseError.InvalidFormat))
      none true = refl
      none false = refl

  -- another byte
  module _ (b : ℕ) where
    fault_on : {v : ℕ} {w : Value} → Reads base r v w None → digit_in (base_code base) b ≡ false → Fails base (r ++ b ∷ []) (fault w)
    fault_on (unread e) d = goes_wrong b (goes_none base r e) d
    fault_on (digits l a m g) d = goes_wrong b g d
    fault_on (over l a f) d = fails_on b f

    fails : {v : ℕ} {w : Value} {c : Option Value} → Reads base r v w c → (c ≡ None → digit_in (base_code base) b ≡ false) → Fails base (r ++ b ∷ []) (fault w)
    fails (unread e) d = fault_on (unread e) (d refl)
    fails (digits l a m g) d = fault_on (digits l a m g) (d refl)
    fails (over l a f) d = fails_on b f
    fails (other l f n k) d = fails_on b f
    fails (suffixed f o) d = fails_on b f

    pub reads_word : {v : ℕ} {w : Value} {c : Option Value} → Reads base r v w c → (c ≡ None → digit_in (base_code base) b ≡ false) → (q z : List ℕ) (x : Suffix) → Word z x → r ++ b ∷ [] ≡ q ++ z → Reads base (r ++ b ∷ []) v (Err (fault w)) (Some (Err (fault w)))
    reads_word p d q z x i e = suffixed (fails p d) (subst Occurs (sym e) (occurs_end q z x i))

    pub reads_cut : {v : ℕ} {w : Value} → Reads base r v w None → digit_in (base_code base) b ≡ false → Open (r ++ b ∷ []) → Reads base (r ++ b ∷ []) v (Err (fault w)) (Some (cut_before (digit_in 10 b) w))
    reads_cut {v} {w} p d o =
        other (more r b) (fault_on p d) (never_on r b (digits_never base r (running p)) o)
        (λ t n.
        let e = append_assoc r (b ∷ []) t in
        ap (rest_of base) e ∙ stopped b (running p) (reads_says p) d t (subst Never e n) ∙ ap (literal base Suffix.Other) (told (digit_in 10 b)))
      where
        told : (u : Bool) → cond u (Err NumberParseError.InvalidFormat) (said v w) ≡ said v (cut_before u w)
        told true = refl
        told false = refl

    pub reads_on : {v : ℕ} {w c : Value} → Reads base r v w (Some c) → Open (r ++ b ∷ []) → Reads base (r ++ b ∷ []) v (Err (fault w)) (Some c)
    reads_on (other l f n k) o = other (more r b) (fails_on b f) (never_on r b n o) (λ t m. let e = append_assoc r (b ∷ []) t in ap (rest_of base) e ∙ k (b ∷ t) (subst Never e m))
    reads_on (suffixed f o) p = suffixed (fails_on b f) (occurs_on r (b ∷ []) o)

  pub end_other : {v : ℕ} {w c : Value} → Reads base r v w (Some c) → Open r → rest_of base r ≡ literal base Suffix.Other (said v c)
  end_other (other l f n k) o = ap (rest_of base) (sym (append-nil r)) ∙ k [] (subst Never (sym (append-nil r)) n)
  end_other (suffixed f o) p = at_end base r (omega (arith, o.within)) (cut_inside (base_code base) r o p) (whole base r Suffix.Absent (f.on Suffix.Absent []))

pub end_digits : {base : Base} {r : List ℕ} {v : ℕ} {w : Value} → Reads base r v w None → rest_of base r ≡ literal base Suffix.Absent (said v w)
unfolding rest_of read_to cut_of last_of last_below run
end_digits {base} {r} {v} {w} p = go r (running p) (reads_says p)
  where
    go : (r : List ℕ) → All (digit_in (base_code base)) r → Says base r (said v w) → rest_of base r ≡ literal base Suffix.Absent (said v w)
    go [] a s = rw (s.nothing refl)
    go (c ∷ r) a s = at_end base (c ∷ r) (omega arith) (cut_never (base_code base) (c ∷ r) (digits_never base (c ∷ r) a) ∙ run_whole (digit_in (base_code base)) (c ∷ r) a) (s.something (omega arith) Suffix.Absent)

-- a word that ends the spelling
inner : {w : List ℕ} {x : Suffix} → Word w x → (i : ℕ) → 0 < i → i < length w → opens (get_or w i 0) ≡ false
inner felt zero h l = absurd (omega arith)
inner felt (suc zero) h l = refl
inner felt (suc (suc zero)) h l = refl
inner felt (suc (suc (suc zero))) h l = refl
inner felt (suc (suc (suc (suc i)))) h l = absurd (omega arith)
inner u32 zero h l = absurd (omega arith)
inner u32 (suc zero) h l = refl
inner u32 (suc (suc zero)) h l = refl
inner u32 (suc (suc (suc i))) h l = absurd (omega arith)

first : {w : List ℕ} {x : Suffix} → Word w x → (0 < length w) × (opens (get_or w 0 0) ≡ true) × (digit_in 10 (get_or w 0 0) ≡ false)
unfolding digit_in digit_of
first felt = (lit< tt, refl, refl)
first u32 = (lit< tt, refl, refl)

-- it is no digits in any base
alone : (base : Base) {w : List ℕ} {x : Suffix} → Word w x → reading base Suffix.Absent 0 w ≡ Err NumberParseError.InvalidFormat
unfolding reading digit_in digit_of
alone Base.Binary felt = refl
alone Base.Octal felt = refl
alone Base.Decimal felt = refl
alone Base.Hexadecimal felt = refl
alone Base.Binary u32 = refl
alone Base.Octal u32 = refl
alone Base.Decimal u32 = refl
alone Base.Hexadecimal u32 = refl

pub end_word : {base : Base} {m : Result ℕ NumberParseError} {w : List ℕ} {x : Suffix} (q : List ℕ) → Word w x → Marked base (q ++ w) m → rest_of base (q ++ w) ≡ literal base x m
unfolding rest_of read_to
end_word {base} {m} {w} {x} q p k = go q refl
  where
    at : (j : ℕ) → length q ≤ j → get_or (q ++ w) j 0 ≡ get_or w (j - length q) 0
    at j h = get_or-append_right q w j 0 h

    head : get_or (q ++ w) (length q) 0 ≡ get_or w 0 0
    head = at (length q) (le_refl (length q)) ∙ ap (λ (i : ℕ). get_or w i 0) (omega arith)

    says : Says base q m
    says =
        subst (λ (l : List ℕ). Says base l m) (take-append_seam q w)
        (k.says (length q) (omega (arith, length-append q w, first p)) (ap opens head ∙ (first p).1)
        (λ j i l. ap opens (at j (omega arith)) ∙ inner p (j - length q) (omega arith) (omega (arith, length-append q w))))

    go : (r : List ℕ) → q ≡ r → rest_of base (q ++ w) ≡ literal base x m
    go [] e = rw (says.nothing e, e) (at_end base w (first p).0 (cut_alone (base_code base) w x p) (alone base p))
    go (c ∷ r) e =
        let h : 0 < length q = omega (arith, ap length e) in
        rw (cut_end (base_code base) q w x p h, ne_eqb (length q) 0 (omega arith), head, (first p).2, drop-append_seam q w, suffix_end w x p, take-append_seam q w) (says.something h x)
