-- The patterns of lexer.rs, and the longest match from a place. Assumes nothing.
use Rattle.std.specs.Prelude.{◌≡◌, List, [], ◌∷◌, ℕ, ◌≤◌, length, take}
use Rattle.patterns.specs.Bytes.{white}
use Rattle.patterns.specs.Patterns.{Pattern, some_of, any_not_of, text, ◌then◌, Name}
use Rattle.numeral.specs.Spelling.{Spelling}
use Rattle.tables.specs.TokenKinds.{NUMBER, IDENT}
use Rattle.lexer.specs.Kinds.{Skipped, fixed_of}

-- skipped: tab, LF, CR, space
abbrev pub White : Pattern
White = some_of white

-- skipped: `//` up to, without, the next LF or the end
abbrev pub Comment : Pattern
Comment = text "//" then any_not_of (("\n", "\n") ∷ [])

-- the string matches the pattern of kind k
pub data Spells (k : ℕ) (s : List ℕ) : Type 0 where
  white_space : k ≡ Skipped → White s → Spells k s
  comment : k ≡ Skipped → Comment s → Spells k s
  numeral : k ≡ NUMBER → Spelling s → Spells k s
  name : k ≡ IDENT → Name s → Spells k s
  fixed : 1 ≤ length s → s ≡ fixed_of k → Spells k s

-- the longest match from the place reached; the keywords beat a name of equal length, as the earlier kind
pub record Best (s : List ℕ) (k n : ℕ) : Type 0 where
  pub within : n ≤ length s
  pub spells : Spells k (take n s)
  pub longest : (j m : ℕ) → m ≤ length s → Spells j (take m s) → m ≤ n
  pub first : (j : ℕ) → Spells j (take n s) → k ≤ j

-- no token, and nothing that is skipped, begins here
abbrev pub Stuck : List ℕ → Type 0
Stuck s = (j m : ℕ) → m ≤ length s → Spells j (take m s) → ⊥
