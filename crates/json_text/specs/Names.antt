-- The names of the kinds as they lie in memory. Assumes nothing.
use Rattle.std.specs.Prelude.{List, ℕ, min, length, take}

-- the first bytes of a row, as many as the name has
abbrev pub spelled_in : ℕ → List ℕ → List ℕ
spelled_in size row = take (min size (length row)) row
