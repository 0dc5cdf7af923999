-- The numerals with an unknown suffix, of which outcome 8 is said: `unknown_suffixes` of grammar shows that they are the literals that a tree keeps. Assumes nothing.
use Rattle.std.specs.Prelude.{Bool, true, false, ◌&&◌, List, [], ◌∷◌, ◌++◌, eqb}
use Rattle.tables.specs.Tables.{Token}

-- a numeral with a suffix that is neither felt nor u32
abbrev pub unknown_suffix : Token → Bool
unknown_suffix t = eqb t.kind 1 && eqb t.suffix 3

-- a list of it, or none
abbrev pub keep : Bool → Token → List Token
keep true t = t ∷ []
keep false t = []

-- those of a text, in order
abbrev pub unknown_numerals : List Token → List Token
unknown_numerals [] = []
unknown_numerals (t ∷ ts) = keep (unknown_suffix t) t ++ unknown_numerals ts
