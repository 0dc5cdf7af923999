-- Two answers to the same input agree. Assumes nothing.
use mathlib.Core.Path.{◌≡◌, sym, ◌∙◌}
use mathlib.Core.List.{List}
use Prim.Native.Nat.{ℕ}
use Rattle.std.specs.Prelude.{Result}
use Rattle.listing.specs.Answers.{ListedIs}
use Rattle.listing.specs.declared.ListError.{ListError}

module _ {x : Result (List ℕ) ListError} {n : ℕ} {out out' : List ℕ} where
  -- of `list` and of `list_refused`, whose results are functions of the input
  pub listed_one : {r r' : Result ℕ ListError} → ListedIs x n out r → ListedIs x n out' r' → (r ≡ r') × (out ≡ out')
  listed_one p q = (p.answer ∙ sym q.answer, p.bytes ∙ sym q.bytes)
