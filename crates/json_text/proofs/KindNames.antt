-- The names of the kinds, each in front of what fills its row. Assumes nothing.
use mathlib.Core.Path.{◌≡◌, sym, ap, ◌∙◌}
use mathlib.Core.List.{List, [], ◌∷◌, map}
use Prim.Native.Nat.{ℕ, ◌≤◌, ◌<◌}
use native.Mathlib.Omega.{arith}
use lib.ListN.{length, get_or, get_or-eq_default}
use Rattle.std.proofs.Common.{slice_index_or}
use Rattle.std.proofs.lemmas.List.{get_or-map, length-map}
use Rattle.patterns.specs.Bytes.{bytes}
use Rattle.json_text.specs.Json.{names, kind_name}
use Rattle.json_text.specs.Names.{spelled_in}

abbrev name : ℕ × List ℕ → List ℕ
name r = spelled_in r.0 r.1

pub name_is : (rs : List (ℕ × List ℕ)) (k : ℕ) (d r : ℕ × List ℕ) {w : List ℕ} → w ≡ name r → r ≡ slice_index_or rs k d → map name rs ≡ map bytes ("" ∷ names) → k ≤ 42 → w ≡ kind_name k
unfolding kind_name names
name_is rs k d r f g e h =
    let l : length rs ≡ 43 = sym (length-map rs name) ∙ ap length e in
    f
    ∙ ap name g
    ∙ sym (get_or-map name rs k d [] (omega arith))
    ∙ ap (λ (l : List (List ℕ)). get_or l k []) e
    ∙ get_or-map bytes ("" ∷ names) k "" [] (omega arith)

pub name_none : (k : ℕ) → 42 < k → ◌≡◌ {A = List ℕ} [] (kind_name k)
unfolding kind_name names
name_none k h = ap bytes (sym (get_or-eq_default ("" ∷ names) "" {n = k} (omega arith)))
