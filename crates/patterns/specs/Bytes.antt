-- Sets of bytes, as the brackets of lexer.rs's patterns write them, and fixed texts. Assumes nothing.
use Rattle.std.specs.Prelude.{Bool, true, false, cond, ◌&&◌, ◌||◌, List, [], ◌∷◌, ℕ, suc, leb, eqb, length}
use Prim.Native.String.{String, [] as no_text, ◌∷◌ as ◌then◌}
use Prim.Native.Char.{Char, code}

-- the bytes of an ASCII text
abbrev pub bytes : String → List ℕ
bytes no_text = []
bytes (c then s) = code c ∷ bytes s

-- the byte stands from `a` to `e`, both included
abbrev pub within : ℕ → ℕ → ℕ → Bool
within a e b = leb a b && leb b e

-- a bracket's ranges of characters
abbrev pub Set : Type 0
Set = List (Char × Char)

-- the byte is in one of the ranges
abbrev pub in_set : Set → ℕ → Bool
in_set [] b = false
in_set (r ∷ l) b = within (code r.0) (code r.1) b || in_set l b

-- [\t\n\r ]
unfoldable pub white : Set
white = ("\t", "\n") ∷ ("\r", "\r") ∷ (" ", " ") ∷ []

-- [a-zA-Z_]
unfoldable pub letter : Set
letter = ("a", "z") ∷ ("A", "Z") ∷ ("_", "_") ∷ []

-- [a-zA-Z0-9_]
unfoldable pub word : Set
word = ("a", "z") ∷ ("A", "Z") ∷ ("0", "9") ∷ ("_", "_") ∷ []

-- [0-9]
unfoldable pub digit : Set
digit = ("0", "9") ∷ []

-- [0-9a-fA-F]
unfoldable pub hex : Set
hex = ("0", "9") ∷ ("a", "f") ∷ ("A", "F") ∷ []

-- [0-7]
unfoldable pub octal : Set
octal = ("0", "7") ∷ []

-- [01]
unfoldable pub binary : Set
binary = ("0", "1") ∷ []

-- a letter in either case, as [xX]
abbrev pub either : Char → Char → Set
either c d = (c, c) ∷ (d, d) ∷ []

-- how many bytes from the start pass the test, without a gap
unfoldable pub run : (ℕ → Bool) → List ℕ → ℕ
run f [] = 0
run f (b ∷ s) = cond (f b) (suc (run f s)) 0

-- s begins with w
unfoldable pub starts : List ℕ → List ℕ → Bool
starts [] s = true
starts (a ∷ w) [] = false
starts (a ∷ w) (b ∷ s) = eqb b a && starts w s

-- s is w
unfoldable pub same : List ℕ → List ℕ → Bool
unfolding starts
same w s = eqb (length s) (length w) && starts w s
