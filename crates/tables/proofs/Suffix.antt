-- The numerals with an unknown suffix of a text with a token more. Assumes nothing.
use mathlib.Core.Path.{◌≡◌, refl, sym, ap, ◌∙◌}
use mathlib.Core.Bool.{Bool, true, false, cond}
use mathlib.Core.List.{List, [], ◌∷◌, ◌++◌, append-nil, append_assoc}
use Prim.Native.Nat.{◌+◌}
use lib.ListN.{length, length-append}
use Rattle.tables.specs.Tables.{Token}
use Rattle.tables.specs.Suffix.{unknown_suffix, keep, unknown_numerals}

-- at its end
later : (ts : List Token) (t : Token) → unknown_numerals (ts ++ (t ∷ [])) ≡ unknown_numerals ts ++ keep (unknown_suffix t) t
later [] t = append-nil (keep (unknown_suffix t) t)
later (u ∷ ts) t = ap (keep (unknown_suffix u) u ++◌) (later ts t) ∙ sym (append_assoc (keep (unknown_suffix u) u) (unknown_numerals ts) (keep (unknown_suffix t) t))

keep_length : (b : Bool) (t : Token) → length (keep b t) ≡ cond b 1 0
keep_length true t = refl
keep_length false t = refl

-- there is one more, or there are as many
pub one_more : (ts : List Token) (t : Token) → length (unknown_numerals (ts ++ (t ∷ []))) ≡ length (unknown_numerals ts) + cond (unknown_suffix t) 1 0
one_more ts t = ap length (later ts t) ∙ length-append (unknown_numerals ts) (keep (unknown_suffix t) t) ∙ ap (length (unknown_numerals ts) +◌) (keep_length (unknown_suffix t) t)
