-- The numbers of a hit test. Assumes nothing.
use Rattle.std.specs.Prelude.{◌≡◌, List, ℕ}
use Rattle.hit_test.specs.Hits.{HitIs}
use Rattle.hit_test.specs.declared.Hit.{Hit}

-- "refused as 12"
abbrev pub outcome_of : Hit → ℕ
outcome_of (Hit.Node i) = 0
outcome_of Hit.Nobody = 0
outcome_of Hit.Refused = 12

-- whether there is a node: 1 or 0
abbrev pub found_of : Hit → ℕ
found_of (Hit.Node i) = 1
found_of Hit.Nobody = 0
found_of Hit.Refused = 0

-- its place; "numbers of an answer for which nothing is named are 0"
abbrev pub place_of : Hit → ℕ
place_of (Hit.Node i) = i
place_of Hit.Nobody = 0
place_of Hit.Refused = 0

-- the C entry's answer
pub record HitTestIs (offset n : ℕ) (t : List ℕ) (outcome found place : ℕ) : Type 0 where
  pub answer : Hit
  pub is : HitIs offset n t answer
  pub outcome_is : outcome ≡ outcome_of answer
  pub found_is : found ≡ found_of answer
  pub place_is : place ≡ place_of answer
