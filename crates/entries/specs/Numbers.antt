-- The numbers of a reading's answer, and the desk's entry. Assumes nothing.
use Rattle.std.specs.Prelude.{◌≡◌, List, ℕ}
use Rattle.tables.specs.Tables.{Diagnostic, diagnostic_at, tabulate}
use Rattle.cairo_m.specs.Reading.{Reading, ReadingIs, outcome_of, counts_of}

-- the numbers of the answer r
pub record NumbersAre (text : List ℕ) (k m n : ℕ) (a b c : List ℕ) (outcome tokens nodes diagnostics : ℕ) : Type 0 where
  pub r : Reading
  pub reading : ReadingIs text k m n a b c r
  pub outcome_is : outcome ≡ outcome_of r
  pub counts_are : record { tokens = tokens; nodes = nodes; diagnostics = diagnostics } ≡ counts_of r

-- ---- the desk's entry: a list of l records besides
-- the entries of the diagnostic table c as records, all 0 where the table has no entry i
pub record EntryIs (text : List ℕ) (k m n l : ℕ) (a b c : List ℕ) (e : List Diagnostic) (outcome tokens nodes diagnostics : ℕ) : Type 0 where
  pub numbers : NumbersAre text k m n a b c outcome tokens nodes diagnostics
  pub list : e ≡ tabulate l (diagnostic_at c)
