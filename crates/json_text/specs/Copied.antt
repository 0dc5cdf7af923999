-- The contract of the private function that copies a piece. Assumes nothing.
use Rattle.std.specs.Prelude.{◌≡◌, List, ◌++◌, ℕ, ◌+◌, ◌≤◌, ◌<◌, length, take, drop}

-- there is no room for w at this place
abbrev pub PastEnd : List ℕ → ℕ → List ℕ → Type 0
PastEnd out at w = length out < at + length w

-- w lies at this place, up to end
pub record Copied (at : ℕ) (w : List ℕ) (end : ℕ) (old new : List ℕ) : Type 0 where
  pub end_is : end ≡ at + length w
  pub room : end ≤ length old
  pub bytes : new ≡ take at old ++ w ++ drop end old
