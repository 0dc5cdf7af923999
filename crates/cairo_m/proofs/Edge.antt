-- The grammar's texts on the edge, from their bytes: each is UTF-8 and lexes, without errors, to the tokens that the table states. Assumes nothing.
use mathlib.Core.Path.{◌≡◌, refl, sym, ap, subst, ◌∙◌}
use mathlib.Core.Bool.{Bool, true, false, cond, ◌&&◌, false≢true}
use mathlib.Core.List.{List, [], ◌∷◌, map}
use Prim.Native.Nat.{ℕ, zero, suc, ◌+◌, ◌≤◌, ◌<◌}
use native.Mathlib.Omega.{arith}
use native.Mathlib.Decide.{ℕ_discrete}
use lib.Dec.{T, leb, ltb, eqb, leb→le}
use lib.ListN.{length, take, drop}
use borrow.Author.Tests.{eqb-true, eqb-false, ltb-true}
use Rattle.std.specs.Prelude.{Option, None, Some, Result, Ok, unwrap_or}
use Rattle.patterns.specs.Bytes.{bytes, same, starts, in_set, white, letter, digit, word, run}
use Rattle.patterns.proofs.Tests.{and_l, and_r}
use Rattle.patterns.proofs.Words.{same_is, same_self}
use Rattle.tables.specs.Tables.{Token, Diagnostic}
use Rattle.tables.specs.TokenKinds.{IDENT}
use Rattle.utf8.specs.Utf8.{Utf8, Rest}
use Rattle.utf8.specs.Utf8 as utf8
use Rattle.numeral.specs.Numeral.{base_in, digit_of, digit_in, last_below, last_of, cut_at, cut_by, cut_of, suffix_kind, reading, read_to, rest_of, numeral_of}
use Rattle.numeral.specs.declared.NumberLiteral.{NumberLiteral}
use Rattle.numeral.specs.declared.NumberParseError.{NumberParseError}
use Rattle.lexer.specs.Kinds.{texts, fixed_of}
use Rattle.lexer.specs.Classes.{kind_from, next_from, next_of, pair_of, class_of, KindIs, kind, no_kind}
use Rattle.lexer.specs.Tokens.{Best}
use Rattle.lexer.specs.Lexes.{Item, item_of, Step, matched, tokens, errors, Lexes, done, step}
use Rattle.lexer.specs.Scans.{Begun, Scanned}
use Rattle.lexer.specs.declared.scan.Found.TheVariants as Found
use Rattle.lexer.proofs.Texts.{no_pair, zero_pair, a_pair, white_is}
use Rattle.lexer.proofs.Scans.{Marked, found_white, found_name, found_numeral, found_last, found_slash, found_single, found_pair}
use Rattle.grammar.proofs.Edge.{Row, row, rows}
use Rattle.cairo_m.proofs.Lexed.{either_way}

-- ---- the longest match, computed: its kind and its length; comments and what begins no token are left out
data Sight : Type 0 where
  seen : (kind size : ℕ) → Sight
  end unseen : Sight

data Is : List ℕ → Sight → Type 0 where
  is : {s : List ℕ} {k n : ℕ} → Best s k n → Rest s n → Is s (seen k n)
  is_end : Is [] end
  is_unseen : {s : List ℕ} → Is s unseen

skip_is : {s : List ℕ} {n : ℕ} → Scanned s (Ok (Found.Skip n)) → Is s (seen 0 n)
skip_is (Scanned.skip b r) = is b r

number_is : {s : List ℕ} {a : Result NumberLiteral NumberParseError} {n : ℕ} → Scanned s (Ok (Found.Number a n)) → Is s (seen 1 n)
number_is (Scanned.number b r e) = is b r

token_is : {s : List ℕ} {k n : ℕ} → Scanned s (Ok (Found.Token k n)) → Is s (seen k n)
token_is (Scanned.token h b r) = is b r

-- of the first k keywords, the one that the word is
keyword : ℕ → List ℕ → Option ℕ
keyword zero w = None
keyword (suc k) w = cond (same (fixed_of (k + 2)) w) (Some (k + 2)) (keyword k w)

keyword_is : (k : ℕ) (w : List ℕ) → k ≤ 18 → ((j : ℕ) → k + 2 ≤ j → j ≤ 19 → w ≡ fixed_of j → ⊥) → KindIs 2 19 w (keyword k w)
unfolding keyword
keyword_is zero w h f = no_kind f
keyword_is (suc k) w h f =
    either_way (KindIs 2 19 w) (same (fixed_of (k + 2)) w) (λ e. kind (omega arith) (omega arith) (same_is (fixed_of (k + 2)) w e))
    (λ e. keyword_is k w (omega arith) (λ j a b q. elim (ℕ_discrete j (k + 2)) [ yes p ↦ not_here j e p q | no p ↦ f j (omega arith) b q ]))
  where
    not_here : (j : ℕ) → same (fixed_of (k + 2)) w ≡ false → j ≡ k + 2 → w ≡ fixed_of j → ⊥
    not_here j e p q = false≢true (sym e ∙ subst (λ (v : List ℕ). same (fixed_of (k + 2)) v ≡ true) (sym (q ∙ ap fixed_of p)) (same_self (fixed_of (k + 2))))

-- the mark of the bytes b and d
pair : ℕ → ℕ → Option ℕ
pair b d = cond (eqb (next_of b) d) (cond (eqb (pair_of b) 0) None (Some (pair_of b))) None

pair_is : (b d : ℕ) → b < 256 → KindIs 21 50 (b ∷ d ∷ []) (pair b d)
unfolding pair
pair_is b d h =
    either_way (KindIs 21 50 (b ∷ d ∷ [])) (eqb (next_of b) d)
    (λ f. either_way (KindIs 21 50 (b ∷ d ∷ [])) (eqb (pair_of b) 0) (λ z. zero_pair h refl (eqb-true _ 0 z)) (λ z. a_pair h refl (eqb-true _ d f) refl (eqb-false _ 0 z)))
    (λ f. no_pair refl (eqb-false _ d f))

-- a mark of one byte, of class c, or of two
longer : ℕ → Option ℕ → Sight
longer c None = seen c 1
longer c (Some k) = seen k 2

longer_is : (c b d : ℕ) (s : List ℕ) → Marked (b ∷ d ∷ s) c → (c ≡ 36 → ⊥) → (r : Option ℕ) → KindIs 21 50 (b ∷ d ∷ []) r → Is (b ∷ d ∷ s) (longer c r)
unfolding longer
longer_is c b d s m h None p = token_is (found_single m h p refl)
longer_is c b d s m h (Some k) p = token_is (found_pair m (omega arith) h p refl)

mark : ℕ → ℕ → List ℕ → Sight
mark c b [] = seen c 1
mark c b (d ∷ s) = cond (eqb c 36) (cond (eqb d 47) unseen (seen c 1)) (longer c (pair b d))

mark_is : (c b : ℕ) (s : List ℕ) → Marked (b ∷ s) c → Is (b ∷ s) (mark c b s)
unfolding mark
mark_is c b [] m = token_is (found_last m refl)
mark_is c b (d ∷ s) m =
    either_way (Is _) (eqb c 36)
    (λ e. either_way (Is _) (eqb d 47) (λ f. is_unseen) (λ f. token_is (found_slash m (eqb-true c 36 e) (eqb-false d 47 f))))
    (λ e. longer_is c b d s m (eqb-false c 36 e) (pair b d) (pair_is b d m.begun.small))

-- by the class of the first byte
sight : List ℕ → Sight
sight [] = end
sight (b ∷ s) =
    let c = class_of b in
    let n = run (in_set word) (b ∷ s) in
    cond (ltb b 256)
    (cond (eqb c 1) (seen 0 (run (in_set white) (b ∷ s)))
    (cond (eqb c 0xFE) (seen (unwrap_or (keyword 18 (take n (b ∷ s))) IDENT) n)
    (cond (eqb c 0xFF) (seen 1 n)
    (cond (ltb c 0x80) (mark c b s) unseen))))
    unseen

sight_is : (s : List ℕ) → Is s (sight s)
unfolding sight
sight_is [] = is_end
sight_is (b ∷ s) =
    let c = class_of b in
    let n = run (in_set word) (b ∷ s) in
    either_way (Is _) (ltb b 256)
    (λ h. either_way (Is _) (eqb c 1) (λ e. skip_is (found_white (omega arith) (white_is b c (ltb-true b 256 h) refl ∙ e)))
    (λ d.
    let g : Begun (b ∷ s) c = record { some = omega arith; small = ltb-true b 256 h; class_is = refl; dark = eqb-false c 1 d } in
    either_way (Is _) (eqb c 0xFE) (λ e. token_is (found_name g (eqb-true c 0xFE e) refl (keyword_is 18 (take n (b ∷ s)) (omega arith) (λ j h k. absurd (omega arith)))))
    (λ e. either_way (Is _) (eqb c 0xFF) (λ e. number_is (found_numeral g (eqb-true c 0xFF e) refl refl))
    (λ e. either_way (Is _) (ltb c 0x80)
    (λ e. mark_is c b s (record { begun = g; low = ltb-true c 0x80 e }))
    (λ e. is_unseen)))))
    (λ e. is_unseen)

-- ---- the way through a text, in at most that many steps
data Read : Type 0 where
  read : List Token → List Diagnostic → Read
  unread : Read

data Sound (at : ℕ) (s : List ℕ) : Read → Type 0 where
  lexes : {ts : List Token} {ds : List Diagnostic} → Utf8 s → Lexes at s ts ds → Sound at s (read ts ds)
  not_read : Sound at s unread

add : Item → ℕ → ℕ → Read → Read
add i a e (read ts ds) = read (tokens i a e ts) (errors i a e ds)
add i a e unread = unread

onward : ℕ → List ℕ → Sight → (ℕ → Read) → Read
onward at s (seen k n) f = add (item_of k (numeral_of (take n s))) at (at + n) (f n)
onward at s end f = read [] []
onward at s unseen f = unread

steps : ℕ → ℕ → List ℕ → Read
steps zero at s = unread
steps (suc m) at s = onward at s (sight s) (λ n. steps m (at + n) (drop n s))

add_sound : {at n : ℕ} {s : List ℕ} {i : Item} {r : Read} → Step s n i → Rest s n → Sound (at + n) (drop n s) r → Sound at s (add i at (at + n) r)
unfolding add
add_sound {n = n} {i = i} t q (lexes u l) = lexes (q.back u) (step n i t l)
add_sound t q not_read = not_read

onward_sound : {at : ℕ} {s : List ℕ} {v : Sight} (f : ℕ → Read) → Is s v → ((n : ℕ) → Sound (at + n) (drop n s) (f n)) → Sound at s (onward at s v f)
unfolding onward
onward_sound f (is {k} {n} b q) g = add_sound (matched k b refl) q (g n)
onward_sound f is_end g = lexes utf8.done done
onward_sound f is_unseen g = not_read

steps_sound : (m at : ℕ) (s : List ℕ) → Sound at s (steps m at s)
unfolding steps
steps_sound zero at s = not_read
steps_sound (suc m) at s = onward_sound _ (sight_is s) (λ n. steps_sound m (at + n) (drop n s))

-- ---- the table
abbrev pub Lexed : Row → Type 0
Lexed (row w ts v) = (length (bytes w) ≤ 65535) × Utf8 (bytes w) × Lexes 0 (bytes w) ts []

abbrev pub LexedAll : List Row → Type 0
LexedAll [] = Unit {0}
LexedAll (r ∷ l) = Lexed r × LexedAll l

abbrev short : List Row → Bool
short [] = true
short (row w ts v ∷ l) = leb (length (bytes w)) 65535 && short l

-- as many steps as the text has bytes, and one to see its end
found : Row → Read
found (row w ts v) = steps (suc (length (bytes w))) 0 (bytes w)

stated : Row → Read
stated (row w ts v) = read ts []

computed : map found rows ≡ map stated rows
unfolding found stated rows steps onward add sight mark longer pair keyword class_of kind_from next_of next_from pair_of texts fixed_of white letter digit word run same starts numeral_of rest_of read_to reading suffix_kind cut_of cut_by cut_at last_of last_below digit_in digit_of base_in
computed = refl

lexed : {s : List ℕ} {ts : List Token} {r : Read} → Sound 0 s r → r ≡ read ts [] → (Utf8 s × Lexes 0 s ts [])
lexed {s} {ts} p e = go (subst (Sound 0 s) e p)
  where
    go : Sound 0 s (read ts []) → (Utf8 s × Lexes 0 s ts [])
    go (lexes u l) = (u, l)

all : (l : List Row) → T (short l) → map found l ≡ map stated l → LexedAll l
unfolding found stated
all [] t e = tt
all (row w ts v ∷ l) t e =
    let (u, k) = lexed {ts = ts} (steps_sound (suc (length (bytes w))) 0 (bytes w)) cc in
    ((leb→le _ _ (and_l (leb (length (bytes w)) 65535) (short l) t), u, k), all l (and_r (leb (length (bytes w)) 65535) (short l) t) cc)

pub edge_lexed : LexedAll rows
unfolding rows
edge_lexed = all rows tt computed
