-- A text written piece by piece. Assumes nothing.
use Rattle.std.specs.Prelude.{◌≡◌, List, [], ◌∷◌, ◌++◌, ℕ, ◌≤◌, ◌<◌, length, take, replicate, Option, Some, None}
use Rattle.std.specs.Borrow.{MutBor}
use Rattle.tables.specs.Tables.{filled}
use Rattle.json_text.specs.declared.writer.Writer.{Writer}

-- out begins with the text t, which ends at this place; or t is longer than out and there is none
pub data Holds (t : List ℕ) (out : List ℕ) : Option ℕ → Type 0 where
  held : {at : ℕ} → at ≤ length out → take at out ≡ t → Holds t out (Some at)
  full : length out < length t → Holds t out None

-- nothing is written yet
pub record Begins (out : MutBor (List ℕ)) (new : Writer) : Type 0 where
  pub same : new.out.ghost_name ≡ out.ghost_name
  pub bytes : new.out.now ≡ out.now
  pub end : new.end ≡ Some 0

-- whatever text stood before, w now follows it, in the same bytes
pub record Writes (w : List ℕ) (old new : Writer) : Type 0 where
  pub same : new.out.ghost_name ≡ old.out.ghost_name
  pub size : length new.out.now ≡ length old.out.now
  pub on : (t : List ℕ) → Holds t old.out.now old.end → Holds (t ++ w) new.out.now new.end

-- out, of n bytes, begins with the text t, whose length is answered, and is zero after it; all zero if t is longer
pub data Finished (t : List ℕ) (n : ℕ) : List ℕ → Option ℕ → Type 0 where
  fits : length t ≤ n → Finished t n (filled n t) (Some (length t))
  past : n < length t → Finished t n (replicate n 0) None

-- that of the text that stood before
pub record Finishes (old : Writer) (out : List ℕ) (r : Option ℕ) : Type 0 where
  pub on : (t : List ℕ) → Holds t old.out.now old.end → Finished t (length old.out.now) out r

-- the values that end an array, each after a comma
unfoldable pub added : List (List ℕ) → List ℕ
added [] = []
added (w ∷ l) = 44 ∷ w ++ added l
