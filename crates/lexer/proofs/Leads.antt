-- The longest match from a place, by the class of the first byte. Assumes nothing.
use mathlib.Core.Path.{◌≡◌, refl, sym, ap, subst, ◌∙◌}
use mathlib.Core.Bool.{Bool, true}
use mathlib.Core.Logic.{◌⊎◌, inl, inr, ⊎_elim}
use Rattle.std.specs.Prelude.{Option, unwrap_or}
use mathlib.Core.List.{List, [], ◌∷◌}
use Prim.Native.Nat.{ℕ, suc, zero, ◌+◌, ◌≤◌, ◌<◌, zero-le}
use native.Mathlib.Omega.{arith}
use native.Mathlib.Decide.{ℕ_discrete}
use lib.Dec.{lit<}
use lib.ListN.{length, take, drop, get_or, length-take, length-drop, drop_of_length-le}
use lib.Seq.{get_or-take, take-nil}
use Rattle.patterns.specs.Bytes.{bytes, in_set, white, letter, digit, word, run}
use Rattle.patterns.specs.Patterns.{All, Name}
use Rattle.patterns.proofs.Runs.{run_within, run_all, run_longest, run_some, all_head, letter_word, name_word, name_here}
use Rattle.numeral.proofs.Spellings.{spelling_word, spelling_head, spelling_some, spelling_here}
use Rattle.tables.specs.TokenKinds.{IDENT}
use Rattle.lexer.specs.Kinds.{fixed_of}
use Rattle.lexer.specs.Classes.{class_of}
use Rattle.lexer.specs.Tokens.{Spells, Best, Stuck, Comment, white_space, comment, numeral, name, fixed}
use Rattle.lexer.specs.Classes.{KindIs, kind, no_kind}
use Rattle.lexer.specs.Scans.{not_newline}
use Rattle.lexer.proofs.Texts.{Fixed, keyword, mark, fixed_is, fixed_one, white_class, letter_class, digit_class}

-- no pattern matches the empty string
part_most : (s : List ℕ) (n : ℕ) → length (take n s) ≤ length s
part_most s n = omega (arith, length-take n s)

pub spells_some : (k : ℕ) (s : List ℕ) → Spells k s → 1 ≤ length s
spells_some k s (white_space e p) = p.0
spells_some k s (comment e p) = omega (arith, ap length p.1, part_most s p.0)
spells_some k s (numeral e p) = spelling_some s p
spells_some k s (name e p) = omega (arith, p.1.0, part_most s p.0)
spells_some k s (fixed h e) = h

-- ---- what can match, by the class c of the first byte
pub data Lead (s : List ℕ) (j m c : ℕ) : Type 0 where
  is_white : c ≡ 1 → All (in_set white) (take m s) → Lead s j m c
  is_comment : c ≡ 36 → get_or s 1 0 ≡ 47 → All not_newline (drop 2 (take m s)) → Lead s j m c
  is_word : All (in_set word) (take m s) → ((c ≡ 0xFF) × (j ≡ 1)) ⊎ ((c ≡ 0xFE) × ((j ≡ IDENT) ⊎ ((2 ≤ j) × (j ≤ 19) × (take m s ≡ fixed_of j)))) → Lead s j m c
  is_mark : 21 ≤ c → c ≤ 50 → 21 ≤ j → take m s ≡ fixed_of j → m ≤ 2 → Lead s j m c

-- a byte of what the first n bytes are
byte_is : (s w : List ℕ) (n i : ℕ) → i < length w → take n s ≡ w → get_or s i 0 ≡ get_or w i 0
byte_is s w n i h e = sym (get_or-take n s i 0 (omega (arith, ap length e, length-take n s))) ∙ ap (λ (l : List ℕ). get_or l i 0) e

head_of : (f : ℕ → Bool) (s : List ℕ) (m : ℕ) → 1 ≤ m → f (get_or (take m s) 0 0) ≡ true → f (get_or s 0 0) ≡ true
head_of f s m h e = subst (λ (b : ℕ). f b ≡ true) (get_or-take m s 0 0 h) e

comment_tail : (w : List ℕ) (n : ℕ) → take n w ≡ bytes "//" → All not_newline (drop n w) → All not_newline (drop 2 w)
comment_tail w n e a =
    elim (ℕ_discrete n 2) [
      | yes p ↦ subst (λ (k : ℕ). All not_newline (drop k w)) p a
      | no p ↦ subst (All not_newline) (sym (drop_of_length-le w {i = 2} (omega (arith, ap length e, length-take n w)))) tt
    ]

lead_fixed : (s : List ℕ) (j m : ℕ) → m ≤ length s → 1 ≤ m → take m s ≡ fixed_of j → Fixed j → Lead s j m (class_of (get_or s 0 0))
lead_fixed s j m h g e (keyword a b c w) =
    let hd = byte_is s (fixed_of j) m 0 (omega (arith, ap length e, length-take m s)) e in
    is_word (subst (All (in_set word)) (sym e) w) (inr (ap class_of hd ∙ c, inr (a, b, e)))
lead_fixed s j m h g e (mark a b c l) =
    let hd = ap class_of (byte_is s (fixed_of j) m 0 (omega (arith, ap length e, length-take m s)) e) in
    is_mark (omega arith) (omega arith) a e (omega (arith, ap length e, length-take m s))

slash_class : (b : ℕ) → b ≡ 47 → class_of b ≡ 36
unfolding class_of
slash_class b e = rw e

lead_at : (s : List ℕ) (j m : ℕ) → m ≤ length s → 1 ≤ m → Spells j (take m s) → Lead s j m (class_of (get_or s 0 0))
lead_at s j m h g (white_space e p) =
    is_white (white_class (get_or s 0 0) (head_of (in_set white) s m g (all_head (in_set white) (take m s) p.0 p.1))) p.1
lead_at s j m h g (comment e (n, a, b)) =
    let u = byte_is (take m s) (bytes "//") n 0 (lit< tt) a in
    let v = byte_is (take m s) (bytes "//") n 1 (lit< tt) a in
    let k : 1 < m = omega (arith, ap length a, length-take n (take m s), length-take m s) in
    is_comment (slash_class (get_or s 0 0) (sym (get_or-take m s 0 0 g) ∙ u)) (sym (get_or-take m s 1 0 k) ∙ v) (comment_tail (take m s) n a b)
lead_at s j m h g (numeral e p) =
    is_word (spelling_word (take m s) p) (inl (digit_class (get_or s 0 0) (head_of (in_set digit) s m g (spelling_head (take m s) p)), e))
lead_at s j m h g (name e (n, p, q)) =
    is_word (name_word (take m s) (n, p, q))
    (inr (letter_class (get_or s 0 0) (head_of (in_set letter) s m g (head_of (in_set letter) (take m s) n (omega (arith, p.0, length-take n (take m s))) (all_head (in_set letter) (take n (take m s)) (omega (arith, p.0)) p.1))), inl e))
lead_at s j m h g (fixed l e) = lead_fixed s j m h g e (fixed_is j (subst (λ (w : List ℕ). 1 ≤ length w) e l))

pub lead : (s : List ℕ) (j m : ℕ) → m ≤ length s → Spells j (take m s) → Lead s j m (class_of (get_or s 0 0))
lead s j m h p = lead_at s j m h (omega (arith, spells_some j (take m s) p, length-take m s)) p

-- ---- white space
white_most : (s : List ℕ) (j m c : ℕ) → c ≡ 1 → m ≤ length s → Lead s j m c → m ≤ run (in_set white) s
white_most s j m c e h (is_white q a) = run_longest (in_set white) s m h a
white_most s j m c e h (is_comment q b a) = absurd (omega arith)
white_most s j m c e h (is_word a q) = absurd (⊎_elim (λ u. omega (arith, u.0)) (λ u. omega (arith, u.0)) q)
white_most s j m c e h (is_mark q b d f a) = absurd (omega arith)

pub best_white : (s : List ℕ) → 1 ≤ length s → in_set white (get_or s 0 0) ≡ true → Best s 0 (run (in_set white) s)
best_white s h w =
    let n = run_some (in_set white) s h w in
    record {
      within = run_within (in_set white) s;
      spells = white_space refl (omega (arith, n, length-take (run (in_set white) s) s, run_within (in_set white) s), run_all (in_set white) s);
      longest = λ j m g p. white_most s j m (class_of (get_or s 0 0)) (white_class (get_or s 0 0) w) g (lead s j m g p);
      first = λ j p. zero-le;
    }

-- ---- a comment
drop_two : (s : List ℕ) (m : ℕ) → drop 2 (take (suc (suc m)) s) ≡ take m (drop 2 s)
drop_two [] m = sym (take-nil m)
drop_two (a ∷ []) m = sym (take-nil m)
drop_two (a ∷ b ∷ s) m = refl

line_most : (s : List ℕ) (m : ℕ) → m ≤ length s → All not_newline (drop 2 (take m s)) → m ≤ 2 + run not_newline (drop 2 s)
line_most s zero h a = zero-le
line_most s (suc zero) h a = omega arith
line_most s (suc (suc m)) h a =
    omega (arith, run_longest not_newline (drop 2 s) m (omega (arith, length-drop 2 s)) (subst (All not_newline) (drop_two s m) a))

comment_most : (s : List ℕ) (j m c : ℕ) → c ≡ 36 → m ≤ length s → Lead s j m c → m ≤ 2 + run not_newline (drop 2 s)
comment_most s j m c e h (is_white q a) = absurd (omega arith)
comment_most s j m c e h (is_comment q b a) = line_most s m h a
comment_most s j m c e h (is_word a q) = absurd (⊎_elim (λ u. omega (arith, u.0)) (λ u. omega (arith, u.0)) q)
comment_most s j m c e h (is_mark q b d f a) = omega arith

comment_here : (s : List ℕ) → get_or s 0 0 ≡ 47 → get_or s 1 0 ≡ 47 → 2 ≤ length s → Comment (take (2 + run not_newline (drop 2 s)) s)
comment_here [] p q h = absurd (omega arith)
comment_here (a ∷ []) p q h = absurd (omega arith)
comment_here (a ∷ b ∷ s) p q h = rw (two_add (run not_newline s)) (2, cc, run_all not_newline s)
  where
    two_add : (n : ℕ) → 2 + n ≡ suc (suc n)
    two_add n = omega arith

pub best_comment : (s : List ℕ) → 2 ≤ length s → get_or s 0 0 ≡ 47 → get_or s 1 0 ≡ 47 → Best s 0 (2 + run not_newline (drop 2 s))
best_comment s h p q =
    record {
      within = omega (arith, run_within not_newline (drop 2 s), length-drop 2 s);
      spells = comment refl (comment_here s p q h);
      longest = λ j m g u. comment_most s j m (class_of (get_or s 0 0)) (slash_class (get_or s 0 0) p) g (lead s j m g u);
      first = λ j u. zero-le;
    }

-- ---- a name, a keyword, a numeral: the whole run of letters, digits and `_`
word_most : (s : List ℕ) (j m c : ℕ) → 0xFE ≤ c → m ≤ length s → Lead s j m c → m ≤ run (in_set word) s
word_most s j m c e h (is_white q a) = absurd (omega arith)
word_most s j m c e h (is_comment q b a) = absurd (omega arith)
word_most s j m c e h (is_word a q) = run_longest (in_set word) s m h a
word_most s j m c e h (is_mark q b d g a) = absurd (omega arith)

pub best_numeral : (s : List ℕ) → 1 ≤ length s → in_set digit (get_or s 0 0) ≡ true → Best s 1 (run (in_set word) s)
best_numeral s h e =
    let k = digit_class (get_or s 0 0) e in
    record {
      within = run_within (in_set word) s;
      spells = numeral refl (spelling_here s h e);
      longest = λ j m g p. word_most s j m (class_of (get_or s 0 0)) (omega arith) g (lead s j m g p);
      first = λ j p. only s j (run (in_set word) s) (class_of (get_or s 0 0)) k (lead s j (run (in_set word) s) (run_within (in_set word) s) p);
    }
  where
    only : (s : List ℕ) (j m c : ℕ) → c ≡ 0xFF → Lead s j m c → 1 ≤ j
    only s j m c e (is_white q a) = absurd (omega arith)
    only s j m c e (is_comment q b a) = absurd (omega arith)
    only s j m c e (is_word a q) = ⊎_elim (λ u. omega (arith, u.1)) (λ u. absurd (omega (arith, u.0))) q
    only s j m c e (is_mark q b d g a) = absurd (omega arith)

keyword_first : (s : List ℕ) (j m c : ℕ) {r : Option ℕ} → c ≡ 0xFE → 1 ≤ length (take m s) → KindIs 2 19 (take m s) r → Lead s j m c → unwrap_or r IDENT ≤ j
keyword_first s j m c e h i (is_white q a) = absurd (omega arith)
keyword_first s j m c e h i (is_comment q b a) = absurd (omega arith)
keyword_first s j m c e h i (is_mark q b d g a) = absurd (omega arith)
keyword_first s j m c e h i (is_word a (inl u)) = absurd (omega (arith, u.0))
keyword_first s j m c e h (kind x y z) (is_word a (inr (u, inl v))) = omega arith
keyword_first s j m c e h (no_kind y) (is_word a (inr (u, inl v))) = omega arith
keyword_first s j m c e h (kind x y z) (is_word a (inr (u, inr v))) =
    omega (arith, fixed_one _ j (subst (λ (l : List ℕ). 1 ≤ length l) z h) (sym z ∙ v.2))
keyword_first s j m c e h (no_kind y) (is_word a (inr (u, inr v))) = absurd (y j v.0 v.1 v.2)

keyword_spells : (s : List ℕ) {r : Option ℕ} → 1 ≤ length s → Name s → KindIs 2 19 s r → Spells (unwrap_or r IDENT) s
keyword_spells s h n (kind x y z) = fixed h z
keyword_spells s h n (no_kind y) = name refl n

pub best_name : (s : List ℕ) {r : Option ℕ} → 1 ≤ length s → in_set letter (get_or s 0 0) ≡ true → KindIs 2 19 (take (run (in_set word) s) s) r → Best s (unwrap_or r IDENT) (run (in_set word) s)
best_name s h e i =
    let c = letter_class (get_or s 0 0) e in
    let l : 1 ≤ length (take (run (in_set word) s) s) =
    omega (arith, length-take (run (in_set word) s) s, run_within (in_set word) s, run_some (in_set word) s h (letter_word (get_or s 0 0) e)) in
    record {
      within = run_within (in_set word) s;
      spells = keyword_spells (take (run (in_set word) s) s) l (name_here s h e) i;
      longest = λ j m g p. word_most s j m (class_of (get_or s 0 0)) (omega arith) g (lead s j m g p);
      first = λ j p. keyword_first s j (run (in_set word) s) (class_of (get_or s 0 0)) c l i (lead s j (run (in_set word) s) (run_within (in_set word) s) p);
    }

-- ---- marks: a text of one or two bytes, if no comment begins here and, of one byte, if no mark of two does
mark_most : (s : List ℕ) (j m c : ℕ) → 21 ≤ c → c ≤ 50 → (c ≡ 36 → get_or s 1 0 ≡ 47 → ⊥) → Lead s j m c → (m ≤ 2) × (21 ≤ j) × (take m s ≡ fixed_of j)
mark_most s j m c e f n (is_white q a) = absurd (omega arith)
mark_most s j m c e f n (is_comment q b a) = absurd (n q b)
mark_most s j m c e f n (is_word a q) = absurd (⊎_elim (λ u. omega (arith, u.0)) (λ u. omega (arith, u.0)) q)
mark_most s j m c e f n (is_mark q b d g a) = (a, d, g)

pub best_mark : (s : List ℕ) (k n : ℕ) → n ≤ length s → 1 ≤ n → 21 ≤ class_of (get_or s 0 0) → class_of (get_or s 0 0) ≤ 50 → (class_of (get_or s 0 0) ≡ 36 → get_or s 1 0 ≡ 47 → ⊥)
    → ((j : ℕ) → n < 2 → 2 ≤ length s → 21 ≤ j → take 2 s ≡ fixed_of j → ⊥) → take n s ≡ fixed_of k → Best s k n
best_mark s k n h o a b f lone t =
    let l : 1 ≤ length (fixed_of k) = omega (arith, ap length t, length-take n s) in
    record {
      within = h;
      spells = fixed (omega (arith, length-take n s)) t;
      longest = λ j m g p. most j m g (mark_most s j m (class_of (get_or s 0 0)) a b f (lead s j m g p));
      first = λ j p. omega (arith, fixed_one k j l (sym t ∙ (mark_most s j n (class_of (get_or s 0 0)) a b f (lead s j n h p)).2));
    }
  where
    most : (j m : ℕ) → m ≤ length s → (m ≤ 2) × (21 ≤ j) × (take m s ≡ fixed_of j) → m ≤ n
    most j m g p =
        elim (ℕ_discrete m 2) [
          | yes q ↦ elim (ℕ_discrete n 1) [
            | yes r ↦ absurd (lone j (omega arith) (omega arith) p.1 (subst (λ (i : ℕ). take i s ≡ fixed_of j) q p.2))
            | no r ↦ omega arith
          ]
          | no q ↦ omega (arith, p.0)
        ]

-- ---- nothing
nothing_leads : (s : List ℕ) (j m c : ℕ) → 50 < c → c < 0xFE → Lead s j m c → ⊥
nothing_leads s j m c e f (is_white q a) = omega arith
nothing_leads s j m c e f (is_comment q b a) = omega arith
nothing_leads s j m c e f (is_word a q) = ⊎_elim (λ u. omega (arith, u.0)) (λ u. omega (arith, u.0)) q
nothing_leads s j m c e f (is_mark q b d g a) = omega arith

pub stuck : (s : List ℕ) → 50 < class_of (get_or s 0 0) → class_of (get_or s 0 0) < 0xFE → Stuck s
stuck s e f j m h p = nothing_leads s j m (class_of (get_or s 0 0)) e f (lead s j m h p)
