-- Two answers of a listing agree. Assumes nothing.
use mathlib.Core.Path.{◌≡◌, sym, ◌∙◌}
use mathlib.Core.List.{List}
use Prim.Native.Nat.{ℕ}
use Rattle.std.specs.Prelude.{Result}
use Rattle.listing.specs.declared.ListError.{ListError}
use Rattle.entries.specs.Lists.{ListIs}

pub list_one : {x : Result (List ℕ) ListError} {n : ℕ} {out out' : List ℕ} {s o s' o' : ℕ} → ListIs x n out s o → ListIs x n out' s' o' → (o ≡ o') × (s ≡ s') × (out ≡ out')
list_one p q = (p.outcome_is ∙ sym q.outcome_is, p.size_is ∙ sym q.size_is, p.bytes ∙ sym q.bytes)
