-- Patterns: a pattern is the strings that match it, whole. Assumes nothing.
use Rattle.std.specs.Prelude.{◌≡◌, Bool, true, not, ◌⊎◌, List, [], ◌∷◌, ℕ, ◌≤◌, length, take, drop}
use Prim.Native.String.{String}
use Rattle.patterns.specs.Bytes.{Set, in_set, bytes, letter, word}

-- what it is for a string to match
abbrev pub Pattern : Type 1
Pattern = List ℕ → Type 0

-- every byte of the string passes the test
abbrev pub All : (ℕ → Bool) → Pattern
All f [] = Unit {0}
All f (b ∷ s) = (f b ≡ true) × All f s

-- `[set]`
abbrev pub one_of : Set → Pattern
one_of f s = (length s ≡ 1) × All (in_set f) s

-- `[set]+`
abbrev pub some_of : Set → Pattern
some_of f s = (1 ≤ length s) × All (in_set f) s

-- `[set]*`
abbrev pub any_of : Set → Pattern
any_of f s = All (in_set f) s

-- `[^set]*`
abbrev pub any_not_of : Set → Pattern
any_not_of f s = All (λ b. not (in_set f b)) s

-- a fixed text
abbrev pub text : String → Pattern
text w s = s ≡ bytes w

infixr 40 ◌then◌
infixr 30 ◌or◌
-- one pattern and then another
abbrev pub ◌then◌ : Pattern → Pattern → Pattern
◌then◌ p q s = (n : ℕ) × p (take n s) × q (drop n s)

-- one or the other
abbrev pub ◌or◌ : Pattern → Pattern → Pattern
◌or◌ p q s = p s ⊎ q s

-- `( )?`
abbrev pub optional : Pattern → Pattern
optional p s = (s ≡ []) ⊎ p s

-- [a-zA-Z_][a-zA-Z0-9_]*
abbrev pub Name : Pattern
Name = one_of letter then any_of word
