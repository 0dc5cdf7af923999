-- What the listing answers: from the table and the length of out, the answer and every byte of out. Assumes nothing.
use Rattle.std.specs.Prelude.{◌≡◌, Bool, cond, List, ℕ, leb, length, replicate, Result, Ok, Err}
use Rattle.std.specs.List.{list_all}
use Rattle.patterns.specs.Bytes.{within}
use Rattle.tables.specs.Tables.{Node, Diagnostic, filled}
use Rattle.json_text.specs.Json.{names, listing, refusal}
use Rattle.listing.specs.declared.ListError.{ListError}

-- the kind is in the table
unfoldable pub known : ℕ → Bool
known k = within 1 (length names) k

-- every node's kind is
unfoldable pub all_are_known : List Node → Bool
all_are_known ns = list_all (λ n. known n.kind) ns

-- outcome 10, output room: "JSON longer than the lent bytes", of which there are n
unfoldable pub fitted : ℕ → List ℕ → Result (List ℕ) ListError
fitted n w = cond (leb (length w) n) (Ok w) (Err ListError.Room)

-- a listing: outcome 11, kind: "a node kind not in the table", comes before 10
unfoldable pub listed : ℕ → List Node → Result (List ℕ) ListError
listed n ns = cond (all_are_known ns) (fitted n (listing ns)) (Err ListError.Kind)

-- a refusal's listing
unfoldable pub refused : ℕ → ℕ → List Diagnostic → Result (List ℕ) ListError
refused n outcome ds = fitted n (refusal outcome ds)

-- the answer, with the text's length
abbrev pub answer_of : Result (List ℕ) ListError → Result ℕ ListError
answer_of (Ok w) = Ok (length w)
answer_of (Err e) = Err e

-- out, of n bytes: "the listing's output is zero after its text, and all zero when refused"
abbrev pub out_of : ℕ → Result (List ℕ) ListError → List ℕ
out_of n (Ok w) = filled n w
out_of n (Err e) = replicate n 0

-- the answer r, with the bytes out
pub record ListedIs (x : Result (List ℕ) ListError) (n : ℕ) (out : List ℕ) (r : Result ℕ ListError) : Type 0 where
  pub answer : r ≡ answer_of x
  pub bytes : out ≡ out_of n x
