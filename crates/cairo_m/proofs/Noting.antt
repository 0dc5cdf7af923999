-- Listing the numerals with an unknown suffix, one after the other. Assumes nothing.
use mathlib.Core.Path.{◌≡◌, refl, sym, ap, ap₂, ◌∙◌}
use mathlib.Core.Bool.{Bool, true, false, cond}
use mathlib.Core.List.{List, [], ◌∷◌, ◌++◌}
use Prim.Native.Nat.{ℕ}
use native.Mathlib.Omega.{arith}
use lib.ListN.{length}
use Rattle.std.specs.List.{filter}
use Rattle.std.proofs.lemmas.List.{length-map}
use Rattle.tables.specs.Tables.{Token, encode_diagnostic, laid, stored}
use Rattle.tables.proofs.Laws.{diagnostic_size, laid_more}
use Rattle.tables.proofs.Numbered.{each, each_more}
use Rattle.tables.specs.Suffix.{unknown_suffix, keep, unknown_numerals}
use Rattle.cairo_m.specs.Reading.{suffix_error}

-- one more is listed
pub one_more : (T : List ℕ) {U Y : List ℕ} (xs : List (ℕ × Token)) {i : ℕ} (t : Token) → U ≡ laid 8 encode_diagnostic T (each suffix_error xs) → i ≡ length xs → Y ≡ stored 8 U i (encode_diagnostic (suffix_error t)) → Y ≡ laid 8 encode_diagnostic T (each suffix_error (xs ++ ((i, t) ∷ [])))
one_more T xs {i} t v k y =
    y
    ∙ ap₂ (λ (x : List ℕ) (j : ℕ). stored 8 x j (encode_diagnostic (suffix_error t))) v (k ∙ sym (length-map xs (λ p. suffix_error p.1)))
    ∙ laid_more encode_diagnostic 8 (omega arith) diagnostic_size T (each suffix_error xs) (suffix_error t)
    ∙ ap (laid 8 encode_diagnostic T) (sym (each_more suffix_error xs (i, t)))

pub only_unknown : (ts : List Token) → filter unknown_suffix ts ≡ unknown_numerals ts
only_unknown [] = refl
only_unknown (t ∷ ts) = go (unknown_suffix t) (only_unknown ts)
  where
    go : (b : Bool) → filter unknown_suffix ts ≡ unknown_numerals ts → cond b (t ∷ filter unknown_suffix ts) (filter unknown_suffix ts) ≡ keep b t ++ unknown_numerals ts
    go true e = ap (t ∷◌) e
    go false e = e
