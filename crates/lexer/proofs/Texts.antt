-- The kinds' fixed texts and the bytes' classes: each law is one test that antt computes at all kinds or at all bytes. Assumes nothing.
use mathlib.Core.Path.{◌≡◌, refl, sym, ap, subst, ◌∙◌}
use mathlib.Core.Bool.{Bool, true, false, ◌&&◌, ◌||◌, not, beq, false≢true}
use mathlib.Core.Logic.{◌⊎◌, inl, inr, ⊎_elim}
use mathlib.Core.List.{List, [], ◌∷◌, ◌++◌}
use Rattle.std.specs.Prelude.{Option, Some, None}
use Rattle.std.specs.Bool.{then_some}
use Rattle.std.proofs.lemmas.List.{get_or_default}
use Prim.Native.Nat.{ℕ, ◌-◌, ◌≤◌, ◌<◌, min}
use Prim.Native.String.{String}
use native.Mathlib.Omega.{arith}
use native.Mathlib.Decide.{dec_lt}
use lib.Dec.{T, leb, ltb, eqb, le→leb, leb→le, eqb→eq, T_not}
use lib.ListN.{length, take, get_or, get_or-eq_default}
use lib.Seq.{take_all, get_or-append_seam}
use lib.Pointwise.{pointwise, bytes_decides}
use Rattle.std.proofs.Common.{slice_index_or}
use borrow.Author.Tests.{eqb-true, eqb-false, eq-eqb, ne_eqb, lt-ltb}
use Rattle.patterns.specs.Bytes.{bytes, within, same, starts, Set, in_set, white, letter, digit, word, run}
use Rattle.patterns.specs.Patterns.{All}
use Rattle.patterns.proofs.Tests.{T_of, of_T, and_l, and_r, and_t, or_cases, implies, modus}
use Rattle.patterns.proofs.Table.{below, below_law, byte_law, small, subset, within_is, within_of}
use Rattle.patterns.proofs.Runs.{run_all}
use Rattle.patterns.proofs.Words.{same_is, same_self}
use Rattle.tables.specs.TokenKinds.{LPAREN, SEMI}
use Rattle.lexer.specs.Kinds.{texts, fixed_of}
use Rattle.lexer.specs.Classes.{kind_from, next_of, pair_of, class_of, key_of, KindIs, kind, no_kind}

-- ---- kinds
pub kind_law : (f : ℕ → Bool) → T (below 51 f) → (k : ℕ) → k < 51 → T (f k)
kind_law f t k h = below_law 51 f t k h

pub fixed_kind : (k : ℕ) → 1 ≤ length (fixed_of k) → k < 51
unfolding fixed_of texts
fixed_kind k h =
    elim (dec_lt k 51) [
      | yes p ↦ p
      | no p ↦ absurd (omega (arith, ap (λ (t : String). length (bytes t)) (get_or-eq_default texts "" {n = k} (omega arith))))
    ]

-- two kinds have two texts: the kind can be found from its text
found_back : (k : ℕ) → 1 ≤ length (fixed_of k) → kind_from 0 texts (fixed_of k) ≡ k
unfolding fixed_of texts kind_from same starts
found_back k h =
    eqb→eq _ k
    (modus (leb 1 (length (fixed_of k))) _ (kind_law (λ k. implies (leb 1 (length (fixed_of k))) (eqb (kind_from 0 texts (fixed_of k)) k)) tt k (fixed_kind k h)) (le→leb 1 _ h))

pub fixed_one : (j k : ℕ) → 1 ≤ length (fixed_of j) → fixed_of j ≡ fixed_of k → j ≡ k
fixed_one j k h e = sym (found_back j h) ∙ ap (kind_from 0 texts) e ∙ found_back k (subst (λ (l : List ℕ). 1 ≤ length l) e h)

-- a kind with a fixed text is a keyword or a mark
pub data Fixed (k : ℕ) : Type 0 where
  keyword : 2 ≤ k → k ≤ 19 → class_of (get_or (fixed_of k) 0 0) ≡ 0xFE → All (in_set word) (fixed_of k) → Fixed k
  mark : 21 ≤ k → 21 ≤ class_of (get_or (fixed_of k) 0 0) → class_of (get_or (fixed_of k) 0 0) ≤ 50 → length (fixed_of k) ≤ 2 → Fixed k

is_keyword : ℕ → Bool
unfolding fixed_of texts class_of word run
is_keyword k = within 2 19 k && (eqb (class_of (get_or (fixed_of k) 0 0)) 0xFE && leb (length (fixed_of k)) (run (in_set word) (fixed_of k)))

is_mark : ℕ → Bool
unfolding fixed_of texts class_of
is_mark k = leb 21 k && (within 21 50 (class_of (get_or (fixed_of k) 0 0)) && leb (length (fixed_of k)) 2)

pub fixed_is : (k : ℕ) → 1 ≤ length (fixed_of k) → Fixed k
unfolding is_keyword is_mark fixed_of texts class_of word run starts
fixed_is k h =
    ⊎_elim
    (λ p.
    let a = within_is 2 19 k (and_l (within 2 19 k) _ (T_of p)) in
    let b = and_r (within 2 19 k) _ (T_of p) in
    let n = leb→le (length (fixed_of k)) (run (in_set word) (fixed_of k)) (and_r (eqb (class_of (get_or (fixed_of k) 0 0)) 0xFE) _ b) in
    keyword a.0 a.1 (eqb→eq _ 0xFE (and_l (eqb (class_of (get_or (fixed_of k) 0 0)) 0xFE) _ b))
    (subst (All (in_set word)) (take_all (run (in_set word) (fixed_of k)) (fixed_of k) n) (run_all (in_set word) (fixed_of k))))
    (λ p.
    let b = and_r (leb 21 k) _ (T_of p) in
    let c = within_is 21 50 (class_of (get_or (fixed_of k) 0 0)) (and_l (within 21 50 (class_of (get_or (fixed_of k) 0 0))) _ b) in
    mark (leb→le 21 k (and_l (leb 21 k) _ (T_of p))) c.0 c.1 (leb→le _ 2 (and_r (within 21 50 (class_of (get_or (fixed_of k) 0 0))) _ b)))
    (or_cases (is_keyword k) (is_mark k)
    (of_T _ (modus (leb 1 (length (fixed_of k))) _ (kind_law (λ k. implies (leb 1 (length (fixed_of k))) (is_keyword k || is_mark k)) tt k (fixed_kind k h)) (le→leb 1 _ h))))

-- ---- a keyword has two to eight bytes
keyword_size : (j : ℕ) → 2 ≤ j → j ≤ 19 → (2 ≤ length (fixed_of j)) × (length (fixed_of j) ≤ 8)
unfolding fixed_of texts
keyword_size j a b =
    within_is 2 8 _ (modus (within 2 19 j) _ (kind_law (λ j. implies (within 2 19 j) (within 2 8 (length (fixed_of j)))) tt j (omega arith)) (within_of 2 19 j a b))

module _ {w : List ℕ} where
  pub too_short : length w < 2 → KindIs 2 19 w None
  too_short h = no_kind (λ j a b e. omega (arith, keyword_size j a b, ap length e))

  pub too_long : 8 < length w → KindIs 2 19 w None
  too_long h = no_kind (λ j a b e. omega (arith, keyword_size j a b, ap length e))

-- ---- marks of two bytes: the second byte goes by the first
pairs : ℕ → Bool
unfolding fixed_of texts next_of
pairs j =
    implies (leb 21 j && eqb (length (fixed_of j)) 2)
    (eqb (next_of (get_or (fixed_of j) 0 0)) (get_or (fixed_of j) 1 0) && (leb 1 (next_of (get_or (fixed_of j) 0 0)) && not (eqb (get_or (fixed_of j) 0 0) 47)))

pub next_is : (j b d : ℕ) → 21 ≤ j → b ∷ d ∷ [] ≡ fixed_of j → (next_of b ≡ d) × (1 ≤ next_of b) × (b ≡ 47 → ⊥)
unfolding pairs fixed_of texts next_of
next_is j b d h e =
    let t =
    subst (λ (l : List ℕ). T (eqb (next_of (get_or l 0 0)) (get_or l 1 0) && (leb 1 (next_of (get_or l 0 0)) && not (eqb (get_or l 0 0) 47)))) (sym e)
    (modus (leb 21 j && eqb (length (fixed_of j)) 2) _ (kind_law pairs tt j (fixed_kind j (omega (arith, ap length e))))
    (and_t (leb 21 j) _ (le→leb 21 j h) (subst (λ (l : List ℕ). T (eqb (length l) 2)) e tt))) in
    let u = and_r (eqb (next_of b) d) _ t in
    (eqb→eq (next_of b) d (and_l (eqb (next_of b) d) _ t), leb→le 1 (next_of b) (and_l (leb 1 (next_of b)) _ u), (λ q. T_not (eqb b 47) (and_r (leb 1 (next_of b)) _ u) (subst (λ (x : ℕ). T (eqb x 47)) (sym q) tt)))

pub no_pair : {b d n : ℕ} → n ≡ next_of b → (n ≡ d → ⊥) → KindIs 21 50 (b ∷ d ∷ []) None
no_pair {b} {d} e f = no_kind (λ j g h q. f (e ∙ (next_is j b d g q).0))

pub zero_pair : {b d k : ℕ} → b < 256 → k ≡ pair_of b → k ≡ 0 → KindIs 21 50 (b ∷ d ∷ []) None
unfolding next_of pair_of fixed_of texts kind_from same starts
zero_pair {b} {d} h q z =
    let t = modus (eqb (pair_of b) 0) _ (byte_law (λ b. implies (eqb (pair_of b) 0) (eqb (next_of b) 0)) tt b h) (T_of (eq-eqb _ 0 (sym q ∙ z))) in
    no_kind (λ j a c r. omega (arith, (next_is j b d a r).1, eqb→eq _ 0 t))

pub a_pair : {b d n k : ℕ} → b < 256 → n ≡ next_of b → n ≡ d → k ≡ pair_of b → (k ≡ 0 → ⊥) → KindIs 21 50 (b ∷ d ∷ []) (Some k)
unfolding next_of pair_of fixed_of texts kind_from same starts
a_pair {b} {d} {k = k} h e f q z =
    let t =
    modus (leb 1 (pair_of b)) _
    (byte_law (λ b. implies (leb 1 (pair_of b)) (within 21 50 (pair_of b) && same (fixed_of (pair_of b)) (b ∷ next_of b ∷ []))) tt b h)
    (le→leb 1 (pair_of b) (omega arith)) in
    let r = within_is 21 50 (pair_of b) (and_l (within 21 50 (pair_of b)) _ t) in
    let w : b ∷ next_of b ∷ [] ≡ fixed_of (pair_of b) = same_is _ _ (of_T _ (and_r (within 21 50 (pair_of b)) _ t)) in
    let g : next_of b ≡ d = sym e ∙ f in
    kind (omega (arith, r.0)) (omega (arith, r.1)) (ap (λ (x : ℕ). b ∷ x ∷ []) (sym g) ∙ w ∙ ap fixed_of (sym q))

-- none begins with a bracket, a comma or a semicolon
pub lone_next : (b : ℕ) → b < 256 → within LPAREN SEMI (class_of b) ≡ true → next_of b ≡ 0
unfolding class_of next_of
lone_next b h e = eqb→eq _ 0 (modus (within LPAREN SEMI (class_of b)) _ (byte_law (λ b. implies (within LPAREN SEMI (class_of b)) (eqb (next_of b) 0)) tt b h) (T_of e))

-- ---- keys
-- a keyword without what fills its row
abbrev pub spelled : ℕ × List ℕ → List ℕ
spelled r = take (min r.0 (length r.1)) r.1

-- the keys have the kind of each keyword at its key, and no other kind; the rows have each keyword, and nothing at 0
pub record KeyTable (keys : List ℕ) (rows : List (ℕ × List ℕ)) : Type 0 where
  pub kind : (b : ℕ) → b < 256 → (get_or keys b 0 ≡ 0) ⊎ (2 ≤ get_or keys b 0) × (get_or keys b 0 ≤ 19)
  pub some : (j : ℕ) → 2 ≤ j → j ≤ 19 → get_or keys (key_of (fixed_of j)) 0 ≡ j
  pub text : (j : ℕ) → 2 ≤ j → j ≤ 19 → spelled (get_or rows j (0, [])) ≡ fixed_of j
  pub none : spelled (get_or rows 0 (0, [])) ≡ []
  pub size : length rows ≡ 20

abbrev pub keyed : List ℕ → List (ℕ × List ℕ) → ℕ → Bool
keyed keys rows j = implies (within 2 19 j) (eqb (get_or keys (key_of (fixed_of j)) 0) j && same (fixed_of j) (spelled (get_or rows j (0, []))))

pub key_table : (keys : List ℕ) (rows : List (ℕ × List ℕ)) → length rows ≡ 20 → spelled (get_or rows 0 (0, [])) ≡ [] → T (below 256 (λ b. eqb (get_or keys b 0) 0 || within 2 19 (get_or keys b 0))) → T (below 51 (keyed keys rows)) → KeyTable keys rows
key_table keys rows n o u t =
    record {
      kind = λ b h. ⊎_elim (λ q. inl (eqb-true _ 0 q)) (λ q. inr (within_is 2 19 _ (T_of q))) (or_cases (eqb (get_or keys b 0) 0) _ (of_T _ (byte_law (λ b. eqb (get_or keys b 0) 0 || within 2 19 (get_or keys b 0)) u b h)));
      some = λ j a b. eqb→eq _ j (and_l (eqb (get_or keys (key_of (fixed_of j)) 0) j) _ (law j a b));
      text = λ j a b. same_is (fixed_of j) _ (of_T _ (and_r (eqb (get_or keys (key_of (fixed_of j)) 0) j) _ (law j a b)));
      none = o;
      size = n;
    }
  where
    law : (j : ℕ) → 2 ≤ j → j ≤ 19 → T (eqb (get_or keys (key_of (fixed_of j)) 0) j && same (fixed_of j) (spelled (get_or rows j (0, []))))
    law j a b = modus (within 2 19 j) _ (kind_law (keyed keys rows) t j (omega arith)) (within_of 2 19 j a b)

module _ {keys : List ℕ} {rows : List (ℕ × List ℕ)} (t : KeyTable keys rows) {b : ℕ} (h : b < 256) where
  pub key_within : get_or keys b 0 < 20
  key_within = ⊎_elim (λ z. omega arith) (λ g. omega (arith, g.1)) (t.kind b h)

  pub no_key : {w : List ℕ} → b ≡ key_of w → get_or keys b 0 ≡ 0 → KindIs 2 19 w None
  no_key q z = no_kind (λ j a c f. omega (arith, z, ap (λ (i : ℕ). get_or keys i 0) (q ∙ ap key_of f), t.some j a c))

  -- the row at a key, whatever is read past the rows
  row : (d : ℕ × List ℕ) → slice_index_or rows (get_or keys b 0) d ≡ get_or rows (get_or keys b 0) (0, [])
  row d = get_or_default rows (get_or keys b 0) d (0, []) (omega (arith, key_within, t.size))

  module _ {w v : List ℕ} (d : ℕ × List ℕ) {r : Bool} (n : 2 ≤ length w) (q : b ≡ key_of w) (s : v ≡ spelled (slice_index_or rows (get_or keys b 0) d)) (e : r ≡ pointwise eqb w v) where
    pub a_keyword : r ≡ true → KindIs 2 19 w (Some (get_or keys b 0))
    a_keyword x =
        let f : w ≡ spelled (get_or rows (get_or keys b 0) (0, [])) = (bytes_decides w v).0 (sym e ∙ x) ∙ s ∙ ap spelled (row d) in
        ⊎_elim
        (λ z. absurd (omega (arith, ap length f, ap length (ap (λ (k : ℕ). spelled (get_or rows k (0, []))) z ∙ t.none))))
        (λ g. kind g.0 g.1 (f ∙ t.text _ g.0 g.1)) (t.kind b h)

    pub no_keyword : r ≡ false → KindIs 2 19 w None
    no_keyword x =
        no_kind
        (λ j a c f.
        let k : get_or keys b 0 ≡ j = ap (λ (i : ℕ). get_or keys i 0) (q ∙ ap key_of f) ∙ t.some j a c in
        false≢true (sym x ∙ e ∙ (bytes_decides w v).1 (f ∙ sym (s ∙ ap spelled (row d) ∙ ap (λ (i : ℕ). spelled (get_or rows i (0, []))) k ∙ t.text j a c))))

-- ---- marks of two bytes, in rows by the first mark's kind, from 21 on
-- a row has a mark that begins so, and no row lacks one
abbrev pub a_mark : ℕ → ℕ × ℕ → Bool
a_mark k p = implies (leb 1 p.1) (within 21 50 p.1 && same (fixed_of p.1) (fixed_of k ++ p.0 ∷ []))

abbrev pub marked : List (ℕ × ℕ) → ℕ → ℕ → Bool
marked rows k j =
    let d = get_or (fixed_of j) (length (fixed_of k)) 0 in
    let p = get_or rows (k - 21) (0, 0) in
    implies (within 21 50 k && within 21 50 j) (implies (same (fixed_of j) (fixed_of k ++ d ∷ [])) (eqb p.0 d && eqb p.1 j))

pub record MarkTable (rows : List (ℕ × ℕ)) : Type 0 where
  pub right : T (below 51 (λ k. implies (within 21 50 k) (a_mark k (get_or rows (k - 21) (0, 0)))))
  pub whole : T (below 51 (λ k. below 51 (marked rows k)))
  pub size : length rows ≡ 30

module _ {rows : List (ℕ × ℕ)} (t : MarkTable rows) (k d : ℕ) (e : ℕ × ℕ) (a : 21 ≤ k) (b : k ≤ 50) where
  abbrev pub its_row : ℕ × ℕ
  its_row = slice_index_or rows (k - 21) e

  row_is : its_row ≡ get_or rows (k - 21) (0, 0)
  row_is = get_or_default rows (k - 21) e (0, 0) (omega (arith, t.size))

  mark_found : its_row.0 ≡ d → (its_row.1 ≡ 0 → ⊥) → KindIs 21 50 (fixed_of k ++ d ∷ []) (Some its_row.1)
  mark_found q z =
      let p = its_row in
      let u = subst (λ (x : ℕ × ℕ). T (a_mark k x)) (sym row_is) (modus (within 21 50 k) _ (kind_law (λ k. implies (within 21 50 k) (a_mark k (get_or rows (k - 21) (0, 0)))) t.right k (omega arith)) (within_of 21 50 k a b)) in
      let m = modus (leb 1 p.1) _ u (le→leb 1 p.1 (omega arith)) in
      let r = within_is 21 50 p.1 (and_l (within 21 50 p.1) _ m) in
      kind r.0 r.1 (ap (λ (x : ℕ). fixed_of k ++ x ∷ []) (sym q) ∙ same_is _ _ (of_T _ (and_r (within 21 50 p.1) _ m)))

  mark_missed : (its_row.0 ≡ d → 21 ≤ its_row.1 → ⊥) → KindIs 21 50 (fixed_of k ++ d ∷ []) None
  mark_missed g =
      no_kind
      (λ j c h q.
      let x : get_or (fixed_of j) (length (fixed_of k)) 0 ≡ d = ap (λ (w : List ℕ). get_or w (length (fixed_of k)) 0) (sym q) ∙ get_or-append_seam (fixed_of k) d [] 0 in
      let s : same (fixed_of j) (fixed_of k ++ get_or (fixed_of j) (length (fixed_of k)) 0 ∷ []) ≡ true = ap (λ (y : ℕ). same (fixed_of j) (fixed_of k ++ y ∷ [])) x ∙ ap (same (fixed_of j)) q ∙ same_self (fixed_of j) in
      let m = modus _ _ (modus _ _ (kind_law (marked rows k) (kind_law (λ k. below 51 (marked rows k)) t.whole k (omega arith)) j (omega arith)) (and_t (within 21 50 k) _ (within_of 21 50 k a b) (within_of 21 50 j c h))) (T_of s) in
      let p = get_or rows (k - 21) (0, 0) in
      let n = eqb→eq p.0 _ (and_l (eqb p.0 _) _ m) in
      let o = eqb→eq p.1 j (and_r (eqb p.0 _) _ m) in
      g (ap (λ (y : ℕ × ℕ). y.0) row_is ∙ n ∙ x) (omega (arith, ap (λ (y : ℕ × ℕ). y.1) row_is, o)))

  pub picked : {r : Option ℕ} → r ≡ then_some (eqb its_row.0 d && not (eqb its_row.1 0)) its_row.1 → KindIs 21 50 (fixed_of k ++ d ∷ []) r
  picked {r} f = go (eqb its_row.0 d) (eqb its_row.1 0) refl refl f
    where
      go : (x y : Bool) → eqb its_row.0 d ≡ x → eqb its_row.1 0 ≡ y → r ≡ then_some (x && not y) its_row.1 → KindIs 21 50 (fixed_of k ++ d ∷ []) r
      go true false p q f = rw f (mark_found (eqb-true _ d p) (eqb-false _ 0 q))
      go true true p q f = rw f (mark_missed (λ i h. omega (arith, eqb-true _ 0 q)))
      go false y p q f = rw f (mark_missed (λ i h. eqb-false _ d p i))

  -- the same, with the byte told first
  pub not_picked : (its_row.0 ≡ d → ⊥) → KindIs 21 50 (fixed_of k ++ d ∷ []) None
  not_picked f = mark_missed (λ i h. f i)

  pub picked_next : {r : Option ℕ} → its_row.0 ≡ d → r ≡ then_some (not (eqb its_row.1 0)) its_row.1 → KindIs 21 50 (fixed_of k ++ d ∷ []) r
  picked_next p f = picked (f ∙ ap (λ x. then_some (x && not (eqb its_row.1 0)) its_row.1) (sym (eq-eqb its_row.0 d p)))

-- ---- classes
classed : (f : Set) (k : ℕ) → T (small f) → T (below 256 (λ b. implies (in_set f b) (eqb (class_of b) k))) → (b : ℕ) → in_set f b ≡ true → class_of b ≡ k
classed f k s t b h = eqb-true (class_of b) k (subset f (λ b. eqb (class_of b) k) s t b h)

pub white_class : (b : ℕ) → in_set white b ≡ true → class_of b ≡ 1
unfolding class_of white
white_class = classed white 1 tt tt

pub letter_class : (b : ℕ) → in_set letter b ≡ true → class_of b ≡ 0xFE
unfolding class_of letter
letter_class = classed letter 0xFE tt tt

pub digit_class : (b : ℕ) → in_set digit b ≡ true → class_of b ≡ 0xFF
unfolding class_of digit
digit_class = classed digit 0xFF tt tt

-- a set is what the class says
says : (f : Set) (g : ℕ → Bool) → T (below 256 (λ b. beq (in_set f b) (g (class_of b)))) → (b c : ℕ) → b < 256 → c ≡ class_of b → in_set f b ≡ g c
says f g t b c h e = go (in_set f b) (g (class_of b)) (byte_law (λ b. beq (in_set f b) (g (class_of b))) t b h) ∙ ap g (sym e)
  where
    go : (x y : Bool) → T (beq x y) → x ≡ y
    go true true u = refl
    go true false u = absurd u
    go false true u = absurd u
    go false false u = refl

pub white_is : (b c : ℕ) → b < 256 → c ≡ class_of b → in_set white b ≡ eqb c 1
unfolding class_of white
white_is = says white (λ c. eqb c 1) tt

pub letter_is : (b c : ℕ) → b < 256 → c ≡ class_of b → in_set letter b ≡ eqb c 0xFE
unfolding class_of letter
letter_is = says letter (λ c. eqb c 0xFE) tt

pub digit_is : (b c : ℕ) → b < 256 → c ≡ class_of b → in_set digit b ≡ eqb c 0xFF
unfolding class_of digit
digit_is = says digit (λ c. eqb c 0xFF) tt

pub word_is : (b c : ℕ) → b < 256 → c ≡ class_of b → in_set word b ≡ leb 0xFE c
unfolding class_of word
word_is = says word (leb 0xFE) tt

-- the class of a mark is its kind, and 36, the kind of `/`, is of `/` alone
pub mark_is : (b : ℕ) → b < 256 → (class_of b ≡ 1 → ⊥) → class_of b < 0x80 → (21 ≤ class_of b) × (class_of b ≤ 50) × (b ∷ [] ≡ fixed_of (class_of b)) × (class_of b ≡ 36 → b ≡ 47)
unfolding class_of fixed_of texts same starts
mark_is b h p q =
    let t =
    modus (ltb (class_of b) 0x80 && not (eqb (class_of b) 1)) _
    (byte_law (λ b. implies (ltb (class_of b) 0x80 && not (eqb (class_of b) 1)) (within 21 50 (class_of b) && (same (fixed_of (class_of b)) (b ∷ []) && implies (eqb (class_of b) 36) (eqb b 47)))) tt b h)
    (and_t (ltb (class_of b) 0x80) _ (T_of (lt-ltb _ 0x80 q)) (T_of (ap not (ne_eqb _ 1 p)))) in
    let r = within_is 21 50 (class_of b) (and_l (within 21 50 (class_of b)) _ t) in
    let u = and_r (within 21 50 (class_of b)) _ t in (
      r.0,
      r.1,
      same_is _ _ (of_T _ (and_l (same (fixed_of (class_of b)) (b ∷ [])) _ u)),
      (λ e. eqb→eq b 47 (modus (eqb (class_of b) 36) _ (and_r (same (fixed_of (class_of b)) (b ∷ [])) _ u) (T_of (eq-eqb _ 36 e)))),
    )
