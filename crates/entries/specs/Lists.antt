-- The numbers of a listing. Assumes nothing.
use Rattle.std.specs.Prelude.{◌≡◌, List, ℕ, Result, Ok, Err}
use Rattle.listing.specs.Answers.{answer_of, out_of}
use Rattle.listing.specs.declared.ListError.{ListError}

-- 01's numbers of the outcomes
abbrev pub outcome_of : Result ℕ ListError → ℕ
outcome_of (Ok n) = 0
outcome_of (Err ListError.Room) = 10
outcome_of (Err ListError.Kind) = 11

-- the text's length; refused, 0
abbrev pub size_of : Result ℕ ListError → ℕ
size_of (Ok n) = n
size_of (Err e) = 0

-- the C entry's answer
pub record ListIs (x : Result (List ℕ) ListError) (n : ℕ) (out : List ℕ) (size outcome : ℕ) : Type 0 where
  pub outcome_is : outcome ≡ outcome_of (answer_of x)
  pub size_is : size ≡ size_of (answer_of x)
  pub bytes : out ≡ out_of n x
