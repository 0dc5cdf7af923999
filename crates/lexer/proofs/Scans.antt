-- The scanner's loop over a comment, and what the scanner finds by the class of the first byte. Assumes nothing.
use mathlib.Core.Path.{◌≡◌, refl, sym, ap, subst, ◌∙◌}
use mathlib.Core.Bool.{Bool, true, false, cond, not, ◌&&◌, false≢true}
use mathlib.Core.Logic.{⊎_elim}
use mathlib.Core.List.{List, [], ◌∷◌, ◌++◌}
use Rattle.std.specs.Prelude.{Option, Some, None, unwrap_or, Result, Ok, Err, IsErr}
use Rattle.std.specs.List.{fold, prefix_len}
use Rattle.std.specs.Simd.{first_chunks}
use Rattle.std.proofs.lemmas.List.{take-append-drop}
use Prim.Native.Nat.{ℕ, zero, suc, ◌+◌, ◌*◌, ◌≤◌, ◌<◌}
use native.Mathlib.Nat.{add-zero}
use native.Mathlib.Omega.{arith}
use lib.Dec.{T, leb, ltb, eqb, leb→le}
use lib.ListN.{length, take, drop, get_or, length-take, length-drop, get_or-eq_default, get_or-append, length-append}
use lib.Seq.{get_or-drop, take_all, drop-drop}
use borrow.Author.Tests.{eq-eqb, lt-ltb, ltb-true}
use Rattle.patterns.specs.Bytes.{within, Set, in_set, white, word, run}
use Rattle.patterns.specs.Patterns.{All}
use Rattle.patterns.proofs.Tests.{T_of, or_cases, implies}
use Rattle.patterns.proofs.Table.{below, small, within_is, subset}
use Rattle.patterns.proofs.Runs.{Passed, passed_none, passed_more, passed_stop, passed_end, run_within, run_all, all_imp}
use Rattle.utf8.specs.Utf8.{Begins, FirstChar, Rest, begins, nothing}
use Rattle.utf8.proofs.Laws.{begins_some, begins_high, rest_none, rest_char, rest_ascii, rest_more, rest_stop, next_ascii}
use Rattle.numeral.specs.Numeral.{numeral_of}
use Rattle.numeral.specs.declared.NumberLiteral.{NumberLiteral}
use Rattle.numeral.specs.declared.NumberParseError.{NumberParseError}
use Rattle.tables.specs.TokenKinds.{IDENT, LPAREN, SEMI}
use Rattle.lexer.specs.Kinds.{texts, fixed_of}
use Rattle.lexer.specs.Classes.{class_of, KindIs, kind, no_kind}
use Rattle.lexer.specs.Tokens.{Best, Stuck}
use Rattle.lexer.specs.Scans.{Begun, not_newline, plain, all_plain, LineIs, line, broken, Scanned}
use Rattle.lexer.specs.declared.scan.Found.{Found}
use Rattle.lexer.specs.declared.scan.NotUtf8.{NotUtf8}
use Rattle.lexer.proofs.Pieces.{Piece}
use Rattle.lexer.proofs.Texts.{white_is, letter_is, digit_is, mark_is, next_is, lone_next, kind_law, fixed_kind}
use Rattle.lexer.proofs.Leads.{best_white, best_comment, best_numeral, best_name, best_mark, stuck}

-- ---- a run's first byte
pub run_first : (f : ℕ → Bool) (s : List ℕ) → 1 ≤ run f s → (0 < length s) × (f (get_or s 0 0) ≡ true)
unfolding run
run_first f [] h = absurd (omega arith)
run_first f (b ∷ s) h = (omega arith, go (f b) refl h)
  where
    go : (x : Bool) → f b ≡ x → 1 ≤ cond x (suc (run f s)) 0 → f b ≡ true
    go true e k = e
    go false e k = absurd (omega arith)

-- ---- a comment's loop
pub record Line (t : List ℕ) (i : ℕ) : Type 0 where
  pub passed : Passed not_newline t i
  pub rest : Rest t i

newline : (b : ℕ) → b ≡ 10 → not_newline b ≡ false
newline b e = rw e

no_newline : (b : ℕ) → (b ≡ 10 → ⊥) → not_newline b ≡ true
no_newline b f = go (in_set (("\n", "\n") ∷ []) b) refl
  where
    go : (x : Bool) → in_set (("\n", "\n") ∷ []) b ≡ x → not x ≡ true
    go false e = refl
    go true e = absurd (⊎_elim (λ p. let w = within_is 10 10 b (T_of p) in f (omega arith)) false≢true (or_cases (within 10 10 b) false e))

high_more : (n : ℕ) (t : List ℕ) (i : ℕ) → Passed not_newline t i → i + n ≤ length t → ((j : ℕ) → j < n → 0x80 ≤ get_or t (i + j) 0) → Passed not_newline t (i + n)
high_more zero t i p h f = subst (Passed not_newline t) (sym (add-zero i)) p
high_more (suc n) t i p h f =
    let a : 0x80 ≤ get_or t i 0 = rw add-zero at (f 0 (omega arith)) in
    let e : (i + 1) + n ≡ i + suc n = omega arith in
    subst (Passed not_newline t) e
    (high_more n t (i + 1) (passed_more p (omega arith) (no_newline (get_or t i 0) (λ z. omega arith))) (omega arith)
    (λ j k. let u : i + suc j ≡ (i + 1) + j = omega arith in subst (λ (m : ℕ). 0x80 ≤ get_or t m 0) u (f (suc j) (omega arith))))

plain_byte : (b : ℕ) → plain b ≡ true → (b < 0x80) × (b ≡ 10 → ⊥)
plain_byte b e = go (ltb b 0x80) refl e
  where
    go : (x : Bool) → ltb b 0x80 ≡ x → (x && not (eqb b 10)) ≡ true → (b < 0x80) × (b ≡ 10 → ⊥)
    go true l f = (ltb-true b 0x80 l, λ z. false≢true (sym (ap not (eq-eqb b 10 z)) ∙ f))
    go false l f = absurd (false≢true f)

plain_fold : (x : List ℕ) (p : Bool) → fold (λ p b. p && plain b) p x ≡ true → (p ≡ true) × ((j : ℕ) → j < length x → (get_or x j 0 < 0x80) × (get_or x j 0 ≡ 10 → ⊥))
plain_fold [] p e = (e, λ j h. absurd (omega arith))
plain_fold (b ∷ x) p e = go p refl (plain_fold x (p && plain b) e)
  where
    go : (q : Bool) → p ≡ q → ((p && plain b) ≡ true) × ((j : ℕ) → j < length x → (get_or x j 0 < 0x80) × (get_or x j 0 ≡ 10 → ⊥))
        → (p ≡ true) × ((j : ℕ) → j < length (b ∷ x) → (get_or (b ∷ x) j 0 < 0x80) × (get_or (b ∷ x) j 0 ≡ 10 → ⊥))
    go false z k = absurd (false≢true (sym (ap (λ (r : Bool). r && plain b) z) ∙ k.0))
    go true z k = (z, each)
      where
        each : (j : ℕ) → j < length (b ∷ x) → (get_or (b ∷ x) j 0 < 0x80) × (get_or (b ∷ x) j 0 ≡ 10 → ⊥)
        each zero h = plain_byte b (sym (ap (λ (r : Bool). r && plain b) z) ∙ k.0)
        each (suc j) h = k.1 j (omega arith)

plain_at : (x : List ℕ) → all_plain x ≡ true → (j : ℕ) → j < length x → (get_or x j 0 < 0x80) × (get_or x j 0 ≡ 10 → ⊥)
plain_at x e = (plain_fold x true e).1

module _ {t : List ℕ} where
  pub line_none : Line t 0
  line_none = record { passed = passed_none; rest = rest_none }

  pub line_ascii : {i : ℕ} → Line t i → i < length t → (get_or t i 0 ≡ 10 → ⊥) → get_or t i 0 < 0x80 → Line t (i + 1)
  line_ascii g h n a = record { passed = passed_more g.passed h (no_newline _ n); rest = next_ascii g.rest h a }

  line_many : (n : ℕ) {i : ℕ} → Line t i → i + n ≤ length t → ((j : ℕ) → j < n → (get_or t (i + j) 0 < 0x80) × (get_or t (i + j) 0 ≡ 10 → ⊥)) → Line t (i + n)
  line_many zero {i} g h f = subst (Line t) (sym (add-zero i)) g
  line_many (suc n) {i} g h f =
      let e : (i + n) + 1 ≡ i + suc n = omega arith in
      let k = f n (omega arith) in
      subst (Line t) e (line_ascii (line_many n g (omega arith) (λ j l. f j (omega arith))) (omega arith) k.1 k.0)

  pub line_plain : {i : ℕ} {x r : List ℕ} → Line t i → Piece t i 16 x r → all_plain x ≡ true → Line t (i + 16)
  line_plain {i} {x} {r} g p e =
      let h : i + 16 ≤ length t = omega (arith, ap length p.front, length-append x r, p.size, length-drop i t, g.passed.within) in
      line_many 16 g h
      (λ j k.
      let u : get_or t (i + j) 0 ≡ get_or x j 0 = sym (get_or-drop i t j 0) ∙ ap (λ (l : List ℕ). get_or l j 0) (sym p.front) ∙ get_or-append x r 0 j (omega (arith, p.size)) in
      rw u (plain_at x e j (omega (arith, p.size))))

  -- through the first chunks of sixteen, as far as they are plain
  pub line_sixteens : (k : ℕ) (l : List ℕ) {i : ℕ} → Line t i → l ≡ drop i t → k * 16 ≤ length l → Line t (i + prefix_len all_plain (first_chunks 16 k l) * 16)
  line_sixteens zero l {i} g e h = subst (Line t) (omega arith) g
  line_sixteens (suc k) l {i} g e h = go (all_plain (take 16 l)) refl (λ m. line_sixteens k (drop 16 l) m p.left (omega (arith, length-drop 16 l)))
    where
      p : Piece t i 16 (take 16 l) (drop 16 l)
      p = record { front = take-append-drop 16 l ∙ e; size = omega (arith, length-take 16 l); left = ap (drop 16) e ∙ drop-drop 16 i t }

      go : (c : Bool) → all_plain (take 16 l) ≡ c → (Line t (i + 16) → Line t (i + 16 + prefix_len all_plain (first_chunks 16 k (drop 16 l)) * 16)) → Line t (i + cond c (1 + prefix_len all_plain (first_chunks 16 k (drop 16 l))) 0 * 16)
      go true x f = subst (Line t) (omega arith) (f (line_plain g p x))
      go false x f = subst (Line t) (omega arith) g

  pub line_char : {i n : ℕ} → Line t i → i < length t → 0x80 ≤ get_or t i 0 → {s : List ℕ} {r : Option ℕ} → FirstChar s r → s ≡ drop i t → r ≡ Some n → Line t (i + n)
  line_char {i} {n} g h a {s} f r z = go (subst (FirstChar s) z f)
    where
      go : FirstChar s (Some n) → Line t (i + n)
      go (begins c m b) =
          let d : Begins (drop i t) c n = rw r at b in
          let k : 0x80 ≤ get_or (drop i t) 0 0 = rw (get_or-drop, add-zero) a in
          record {
            passed = high_more n t i g.passed (omega (arith, begins_some d, length-drop i t)) (λ j m. rw get_or-drop at (begins_high d k j m));
            rest = rest_more g.rest (rest_char d);
          }

  pub line_newline : {i : ℕ} → Line t i → i < length t → get_or t i 0 ≡ 10 → LineIs t (Ok i)
  line_newline g h e = line (passed_stop g.passed h (newline _ e)) g.rest

  pub line_end : {i : ℕ} → Line t i → length t ≤ i → LineIs t (Ok i)
  line_end g h = line (passed_end g.passed h) g.rest

  pub line_broken : {i : ℕ} → Line t i → i < length t → {s : List ℕ} {r : Option ℕ} → FirstChar s r → s ≡ drop i t → r ≡ None → (x : Result ℕ NotUtf8) → IsErr x → LineIs t x
  line_broken {i} g h {s} f r z x w = go (subst (FirstChar s) z f) x w
    where
      go : FirstChar s None → (x : Result ℕ NotUtf8) → IsErr x → LineIs t x
      go (nothing f) (Err e) w = broken (rest_stop h g.rest (rw r at f))
      go (nothing f) (Ok n) w = absurd (false≢true w)

-- ---- a character that begins no token
module _ {s : List ℕ} {r : Option ℕ} where
  pub strange_char : {n : ℕ} → Stuck s → FirstChar s r → r ≡ Some n → Scanned s (Ok (Found.Strange n))
  strange_char {n} t f z = go (subst (FirstChar s) z f)
    where
      go : FirstChar s (Some n) → Scanned s (Ok (Found.Strange n))
      go (begins c m b) = Scanned.strange t b

  pub strange_none : 0 < length s → FirstChar s r → r ≡ None → (x : Result Found NotUtf8) → IsErr x → Scanned s x
  strange_none h f z x w = go (subst (FirstChar s) z f) x w
    where
      go : FirstChar s None → (x : Result Found NotUtf8) → IsErr x → Scanned s x
      go (nothing f) (Err e) w = Scanned.broken (rest_stop h rest_none f)
      go (nothing f) (Ok n) w = absurd (false≢true w)

-- ---- what is found at the start of a text, by the class of its first byte
module _ (t : List ℕ) (i : ℕ) {c : ℕ} (r : c ≡ class_of (get_or t i 0)) (h : get_or t i 0 < 256) where
  pub class_white : c ≡ 1 → in_set white (get_or t i 0) ≡ true
  class_white e = white_is _ _ h r ∙ eq-eqb _ 1 e

  pub begun_at : i < length t → (c ≡ 1 → ⊥) → Begun (drop i t) c
  begun_at k n =
      let b : get_or (drop i t) 0 0 ≡ get_or t i 0 = rw (get_or-drop, add-zero) in
      record { some = omega (arith, length-drop i t); small = rw b h; class_is = rw b r; dark = n }

abbrev ascii : ℕ → Bool
ascii b = ltb b 0x80

ascii_rest : (n : ℕ) (s : List ℕ) → n ≤ length s → All ascii (take n s) → Rest s n
ascii_rest zero s h a = rest_none
ascii_rest (suc n) [] h a = absurd (omega arith)
ascii_rest (suc n) (b ∷ s) h a =
    let r = rest_more (rest_ascii {s = b ∷ s} (omega arith) (ltb-true b 0x80 a.0)) (ascii_rest n s (omega arith) a.1) in
    let e : 1 + n ≡ suc n = omega arith in
    subst (Rest (b ∷ s)) e r

run_rest : (f : Set) → T (small f) → T (below 256 (λ b. implies (in_set f b) (ascii b))) → (s : List ℕ) → Rest s (run (in_set f) s)
run_rest f t u s =
    ascii_rest (run (in_set f) s) s (run_within (in_set f) s)
    (all_imp (in_set f) ascii (subset f ascii t u) (take (run (in_set f) s) s) (run_all (in_set f) s))

white_rest : (s : List ℕ) → Rest s (run (in_set white) s)
unfolding white
white_rest = run_rest white tt tt

pub white_ascii : (b : ℕ) → in_set white b ≡ true → b < 0x80
unfolding white
white_ascii b w = ltb-true b 0x80 (subset white ascii tt tt b w)

word_rest : (s : List ℕ) → Rest s (run (in_set word) s)
unfolding word
word_rest = run_rest word tt tt

mark_rest : (n k : ℕ) (s : List ℕ) → n ≤ length s → 1 ≤ n → take n s ≡ fixed_of k → Rest s n
unfolding fixed_of texts run
mark_rest n k s h o e =
    let l : 1 ≤ length (fixed_of k) = omega (arith, ap length e, length-take n s) in
    let t = leb→le _ _ (kind_law (λ k. leb (length (fixed_of k)) (run ascii (fixed_of k))) tt k (fixed_kind k l)) in
    ascii_rest n s h (subst (All ascii) (sym e) (subst (All ascii) (take_all (run ascii (fixed_of k)) (fixed_of k) t) (run_all ascii (fixed_of k))))

take_one : (s : List ℕ) → 0 < length s → take 1 s ≡ get_or s 0 0 ∷ []
take_one [] h = absurd (omega arith)
take_one (a ∷ s) h = refl

take_two : (s : List ℕ) → 1 < length s → take 2 s ≡ get_or s 0 0 ∷ get_or s 1 0 ∷ []
take_two [] h = absurd (omega arith)
take_two (a ∷ s) h = ap (λ (l : List ℕ). a ∷ l) (take_one s (omega arith))

pub found_white : {s : List ℕ} → 1 ≤ length s → in_set white (get_or s 0 0) ≡ true → Scanned s (Ok (Found.Skip (run (in_set white) s)))
found_white {s} h w = Scanned.skip (best_white s h w) (white_rest s)

module _ {s : List ℕ} {c : ℕ} (g : Begun s c) where
  pub found_name : {n : ℕ} {r : Option ℕ} → c ≡ 0xFE → n ≡ run (in_set word) s → KindIs 2 19 (take n s) r → Scanned s (Ok (Found.Token (unwrap_or r IDENT) n))
  found_name {n} {r} q e i =
      let l = letter_is _ _ g.small g.class_is ∙ eq-eqb c 0xFE q in
      subst (λ (m : ℕ). Scanned s (Ok (Found.Token (unwrap_or r IDENT) m))) (sym e)
      (Scanned.token (least i) (best_name s g.some l (subst (λ (m : ℕ). KindIs 2 19 (take m s) r) e i)) (word_rest s))
    where
      least : {w : List ℕ} {r : Option ℕ} → KindIs 2 19 w r → 2 ≤ unwrap_or r IDENT
      least (kind a b d) = a
      least (no_kind b) = omega arith

  pub found_numeral : {a : Result NumberLiteral NumberParseError} {n : ℕ} → c ≡ 0xFF → n ≡ run (in_set word) s → a ≡ numeral_of (take n s) → Scanned s (Ok (Found.Number a n))
  found_numeral q e w =
      let d = digit_is _ _ g.small g.class_is ∙ eq-eqb c 0xFF q in
      Scanned.number (subst (Best s 1) (sym e) (best_numeral s g.some d)) (subst (Rest s) (sym e) (word_rest s)) w

  pub found_nothing : 0x80 ≤ c → c < 0xFE → Stuck s
  found_nothing h k = stuck s (omega (arith, g.class_is)) (omega (arith, g.class_is))

-- a mark, whose class is its kind
pub record Marked (s : List ℕ) (c : ℕ) : Type 0 where
  pub begun : Begun s c
  pub low : c < 0x80

module _ {s : List ℕ} {c : ℕ} (m : Marked s c) where
  mark_of : (21 ≤ class_of (get_or s 0 0)) × (class_of (get_or s 0 0) ≤ 50) × (get_or s 0 0 ∷ [] ≡ fixed_of (class_of (get_or s 0 0))) × (class_of (get_or s 0 0) ≡ 36 → get_or s 0 0 ≡ 47)
  mark_of = mark_is (get_or s 0 0) m.begun.small (λ e. m.begun.dark (m.begun.class_is ∙ e)) (omega (arith, m.low, m.begun.class_is))

  no_comment : (c ≡ 36 → get_or s 1 0 ≡ 47 → ⊥) → class_of (get_or s 0 0) ≡ 36 → get_or s 1 0 ≡ 47 → ⊥
  no_comment f e = f (m.begun.class_is ∙ e)

  single : (c ≡ 36 → get_or s 1 0 ≡ 47 → ⊥) → ((j : ℕ) → 2 ≤ length s → 21 ≤ j → get_or s 0 0 ∷ get_or s 1 0 ∷ [] ≡ fixed_of j → ⊥) → Scanned s (Ok (Found.Token c 1))
  single f lone =
      let k = mark_of in
      let e : take 1 s ≡ fixed_of c = take_one s m.begun.some ∙ k.2 ∙ ap fixed_of (sym m.begun.class_is) in
      Scanned.token {k = c} (omega (arith, k.0, m.begun.class_is))
      (best_mark s c 1 m.begun.some (omega arith) k.0 k.1 (no_comment f) (λ j a b d t. lone j b d (sym (take_two s (omega arith)) ∙ t)) e) (mark_rest 1 c s m.begun.some (omega arith) e)

  pub found_lone : within LPAREN SEMI c ≡ true → Scanned s (Ok (Found.Token c 1))
  found_lone w =
      let r = within_is LPAREN SEMI c (T_of w) in
      let n = lone_next (get_or s 0 0) m.begun.small (ap (within LPAREN SEMI) (sym m.begun.class_is) ∙ w) in
      single (λ q e. omega (arith, r.0)) (λ j a b e. omega (arith, n, (next_is j (get_or s 0 0) (get_or s 1 0) b e).1))

  pub found_last : length s ≡ 1 → Scanned s (Ok (Found.Token c 1))
  found_last h = single (λ q e. omega (arith, get_or-eq_default s 0 {n = 1} (omega arith))) (λ j a b e. omega arith)

  pub found_slash : c ≡ 36 → (get_or s 1 0 ≡ 47 → ⊥) → Scanned s (Ok (Found.Token c 1))
  found_slash q n = single (λ p. n) (λ j a b e. (next_is j (get_or s 0 0) (get_or s 1 0) b e).2 (mark_of.3 (sym m.begun.class_is ∙ q)))

  -- what stands in the table of marks by the first one's kind
  pub kind_marks : (21 ≤ c) × (c ≤ 50)
  kind_marks = let k = mark_of in (omega (arith, k.0, m.begun.class_is), omega (arith, k.1, m.begun.class_is))

  pub by_bytes : {d : ℕ} {r : Option ℕ} → KindIs 21 50 (fixed_of c ++ d ∷ []) r → KindIs 21 50 (get_or s 0 0 ∷ d ∷ []) r
  by_bytes {d} {r} = subst (λ (w : List ℕ). KindIs 21 50 (w ++ d ∷ []) r) (ap fixed_of m.begun.class_is ∙ sym mark_of.2)

  pub found_single : {r : Option ℕ} → (c ≡ 36 → ⊥) → KindIs 21 50 (get_or s 0 0 ∷ get_or s 1 0 ∷ []) r → r ≡ None → Scanned s (Ok (Found.Token c 1))
  found_single {r} n i z = go (subst (KindIs 21 50 (get_or s 0 0 ∷ get_or s 1 0 ∷ [])) z i)
    where
      two_most : (j : ℕ) → 2 ≤ length s → 21 ≤ j → get_or s 0 0 ∷ get_or s 1 0 ∷ [] ≡ fixed_of j → j ≤ 50
      two_most j h i e = omega (arith, fixed_kind j (omega (arith, ap length e)))

      go : KindIs 21 50 (get_or s 0 0 ∷ get_or s 1 0 ∷ []) None → Scanned s (Ok (Found.Token c 1))
      go (no_kind b) = single (λ q e. n q) (λ j h i e. b j i (two_most j h i e) e)

  pub found_pair : {r : Option ℕ} {p : ℕ} → 1 < length s → (c ≡ 36 → ⊥) → KindIs 21 50 (get_or s 0 0 ∷ get_or s 1 0 ∷ []) r → r ≡ Some p → Scanned s (Ok (Found.Token p 2))
  found_pair {r} {p} h n i z = go (subst (KindIs 21 50 (get_or s 0 0 ∷ get_or s 1 0 ∷ [])) z i)
    where
      go : KindIs 21 50 (get_or s 0 0 ∷ get_or s 1 0 ∷ []) (Some p) → Scanned s (Ok (Found.Token p 2))
      go (kind a b d) =
          let e : take 2 s ≡ fixed_of p = take_two s h ∙ d in
          Scanned.token {k = p} (omega arith)
          (best_mark s p 2 h (omega arith) mark_of.0 mark_of.1 (no_comment (λ q e. n q)) (λ j a b d t. omega arith) e) (mark_rest 2 p s h (omega arith) e)

  slashes : c ≡ 36 → get_or s 1 0 ≡ 47 → 1 < length s → Rest s 2
  slashes q e h = ascii_rest 2 s h (rw (take_two s h) (lt-ltb (get_or s 0 0) 0x80 (omega (arith, mark_of.3 (sym m.begun.class_is ∙ q))), (lt-ltb (get_or s 1 0) 0x80 (omega arith), tt)))

  module _ (q : c ≡ 36) (e : get_or s 1 0 ≡ 47) (h : 1 < length s) {u : List ℕ} (d : u ≡ drop 2 s) where
    pub found_comment : {r : Result ℕ NotUtf8} {n : ℕ} → LineIs u r → r ≡ Ok n → Scanned s (Ok (Found.Skip (n + 2)))
    found_comment {r} {n} i z = go (subst (LineIs u) z i)
      where
        go : LineIs u (Ok n) → Scanned s (Ok (Found.Skip (n + 2)))
        go (line r t) =
            let k : 2 + run not_newline (drop 2 s) ≡ n + 2 = omega (arith, r ∙ ap (run not_newline) d) in
            let l : 2 + n ≡ n + 2 = omega arith in
            Scanned.skip (subst (Best s 0) k (best_comment s h (mark_of.3 (sym m.begun.class_is ∙ q)) e)) (subst (Rest s) l (rest_more (slashes q e h) (rw d at t)))

    pub found_broken : {r : Result ℕ NotUtf8} {n : NotUtf8} → LineIs u r → r ≡ Err n → (x : Result Found NotUtf8) → IsErr x → Scanned s x
    found_broken {r} {n} i z x w = go (subst (LineIs u) z i) x w
      where
        go : LineIs u (Err n) → (x : Result Found NotUtf8) → IsErr x → Scanned s x
        go (broken t) (Err f) w = Scanned.broken (λ v. t (rw d ((slashes q e h).there v)))
        go (broken t) (Ok f) w = absurd (false≢true w)

pub line_within : {s : List ℕ} {r : Result ℕ NotUtf8} {n : ℕ} → LineIs s r → r ≡ Ok n → n ≤ length s
line_within {s} {r} {n} i z = go (subst (LineIs s) z i)
  where
    go : LineIs s (Ok n) → n ≤ length s
    go (line r t) = omega (arith, run_within not_newline s)
