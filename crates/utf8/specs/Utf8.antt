-- UTF-8 as RFC 3629 has it. Assumes nothing.
use Rattle.std.specs.Prelude.{◌≡◌, Bool, true, false, ◌⊎◌, List, [], ◌∷◌, ℕ, ◌+◌, ◌*◌, ◌^◌, ◌≤◌, ◌<◌, length, take, drop, Option, Some, None}

-- section 3: what is encoded goes from U+0000 to U+10FFFF, without the surrogates U+D800 to U+DFFF
abbrev pub Scalar : ℕ → Type 0
Scalar c = (c < 0xD800) ⊎ ((0xDFFF < c) × (c ≤ 0x10FFFF))

-- section 3's table, a constructor for each row: the octets s encode the character number c, and x, y, z and w are the groups of bits that the row marks x
pub data Encodes (c : ℕ) (s : List ℕ) : Type 0 where
  one : c ≤ 0x7F → s ≡ c ∷ [] → Encodes c s
  two : (x y : ℕ) → x < 2 ^ 5 → y < 2 ^ 6 → c ≡ x * 2 ^ 6 + y → 0x80 ≤ c → c ≤ 0x7FF → s ≡ (0b1100_0000 + x) ∷ (0b1000_0000 + y) ∷ [] → Encodes c s
  three : (x y z : ℕ) → x < 2 ^ 4 → y < 2 ^ 6 → z < 2 ^ 6 → c ≡ x * 2 ^ 12 + y * 2 ^ 6 + z → 0x800 ≤ c → c ≤ 0xFFFF
      → s ≡ (0b1110_0000 + x) ∷ (0b1000_0000 + y) ∷ (0b1000_0000 + z) ∷ [] → Encodes c s
  four : (x y z w : ℕ) → x < 2 ^ 3 → y < 2 ^ 6 → z < 2 ^ 6 → w < 2 ^ 6 → c ≡ x * 2 ^ 18 + y * 2 ^ 12 + z * 2 ^ 6 + w → 0x10000 ≤ c → c ≤ 0x10FFFF
      → s ≡ (0b1111_0000 + x) ∷ (0b1000_0000 + y) ∷ (0b1000_0000 + z) ∷ (0b1000_0000 + w) ∷ [] → Encodes c s

-- section 3: a character is one to four octets; the first n octets of s encode c
pub record Begins (s : List ℕ) (c n : ℕ) : Type 0 where
  pub scalar : Scalar c
  pub within : n ≤ length s
  pub encodes : Encodes c (take n s)

-- section 4: a UTF-8 string is a run of such encodings
pub data Utf8 : List ℕ → Type 0 where
  done : Utf8 []
  char : {s : List ℕ} (c n : ℕ) → Begins s c n → Utf8 (drop n s) → Utf8 s

-- what `char_len` answers: the length of the character that s begins with, if it begins with one
pub data FirstChar (s : List ℕ) : Option ℕ → Type 0 where
  begins : (c n : ℕ) → Begins s c n → FirstChar s (Some n)
  nothing : ((c n : ℕ) → Begins s c n → ⊥) → FirstChar s None

-- what `is_utf8` answers: whether s is UTF-8 from its start to its end
pub data IsUtf8 (s : List ℕ) (r : Bool) : Type 0 where
  good : r ≡ true → Utf8 s → IsUtf8 s r
  bad : r ≡ false → (Utf8 s → ⊥) → IsUtf8 s r

-- the text is UTF-8 exactly if what follows its first n octets is
pub record Rest (s : List ℕ) (n : ℕ) : Type 0 where
  pub there : Utf8 s → Utf8 (drop n s)
  pub back : Utf8 (drop n s) → Utf8 s
