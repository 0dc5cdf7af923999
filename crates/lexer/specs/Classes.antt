-- Every byte's class: what it can begin, by the patterns of lexer.rs and, from 0x80 on, by the table of RFC 3629, section 3. Assumes nothing.
use Rattle.std.specs.Prelude.{◌≡◌, cond, ◌&&◌, List, [], ◌∷◌, ℕ, suc, ◌+◌, ◌*◌, ◌%◌, ◌≤◌, ltb, eqb, length, drop, get_or, Option, Some, None}
use Prim.Native.String.{String}
use Rattle.patterns.specs.Bytes.{bytes, within, same, in_set, white, letter, digit}
use Rattle.lexer.specs.Kinds.{texts, fixed_of}

-- the kind whose fixed text is w, 0 if there is none: the texts from kind k on are l
unfoldable pub kind_from : ℕ → List String → List ℕ → ℕ
unfolding same
kind_from k [] w = 0
kind_from k (t ∷ l) w = cond (same (bytes t) w) k (kind_from (suc k) l w)

-- 1 white space, the kind of the mark that the byte is by itself, 0xFE a name, 0xFF a numeral, 0x85 no token; from 0x80 on
-- 0x80 a following byte of a character, 0x82, 0x83, 0x84 the first byte of one of two, three, four bytes, 0x81 neither
unfoldable pub class_of : ℕ → ℕ
unfolding white letter digit kind_from texts
class_of b =
    cond (in_set white b) 1
    (cond (in_set letter b) 0xFE
    (cond (in_set digit b) 0xFF
    (cond (ltb b 0x80) (cond (eqb (kind_from 0 texts (b ∷ [])) 0) 0x85 (kind_from 0 texts (b ∷ [])))
    (cond (ltb b 0xC0) 0x80
    (cond (within 0xC2 0xDF b) 0x82
    (cond (within 0xE0 0xEF b) 0x83
    (cond (within 0xF0 0xF4 b) 0x84
    0x81)))))))

-- the byte that makes a mark of two bytes of the byte b, 0 if none does: the marks' texts are l
unfoldable pub next_from : List String → ℕ → ℕ
next_from [] b = 0
next_from (t ∷ l) b = cond (eqb (length (bytes t)) 2 && eqb (get_or (bytes t) 0 0) b) (get_or (bytes t) 1 0) (next_from l b)

-- the byte that makes the mark b one of two bytes, 0 if none does
unfoldable pub next_of : ℕ → ℕ
unfolding next_from texts
next_of b = next_from (drop 21 texts) b

-- the kind of that mark
unfoldable pub pair_of : ℕ → ℕ
unfolding kind_from next_of texts
pair_of b = kind_from 0 texts (b ∷ next_of b ∷ [])

-- the key of a word
abbrev pub key_of : List ℕ → ℕ
key_of w = (get_or w 0 0 * 3 + get_or w 1 0 * 10 + length w * 4) % 256

-- of the kinds from a to e, the one whose text is w, if there is one
pub data KindIs (a e : ℕ) (w : List ℕ) : Option ℕ → Type 0 where
  kind : {k : ℕ} → a ≤ k → k ≤ e → w ≡ fixed_of k → KindIs a e w (Some k)
  no_kind : ((j : ℕ) → a ≤ j → j ≤ e → w ≡ fixed_of j → ⊥) → KindIs a e w None
