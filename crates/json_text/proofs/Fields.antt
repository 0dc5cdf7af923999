-- The pieces of a row, in the order in which they are written, are the row. Assumes nothing.
use mathlib.Core.Path.{◌≡◌, refl}
use mathlib.Core.Bool.{Bool, true, false}
use mathlib.Core.List.{List, [], ◌∷◌, ◌++◌, append_assoc, append-nil}
use Prim.Native.Nat.{ℕ, ◌≤◌, ◌<◌}
use borrow.Author.Tests.{lt-leb, le-leb}
use Rattle.patterns.specs.Bytes.{bytes, within}
use Rattle.tables.specs.Tables.{Node, Diagnostic}
use Rattle.json_text.specs.Json.{decimal, following, array, quoted, kind_name, value_text, sixth, row, diagnostic_row, diagnostic_rows, refusal}
use Rattle.json_text.specs.Writes.{Writes, added}
use Rattle.json_text.specs.declared.writer.Writer.{Writer}
use Rattle.json_text.proofs.Writing.{nothing}
use Rattle.json_text.proofs.Arrays.{added_is}

pub row_is : (n : Node) {w : List ℕ} → w ≡ kind_name n.kind
    → 91 ∷ 34 ∷ (w ++ (34 ∷ 44 ∷ (decimal n.start ++ (44 ∷ (decimal n.end ++ (44 ∷ (decimal n.children ++ (44 ∷ (value_text n.value ++ (added (sixth n.kind n.base) ++ (93 ∷ []))))))))))) ≡ row n
unfolding row array following quoted
row_is n w = rw (w, added_is (sixth n.kind n.base), append_assoc (kind_name n.kind))

-- on the four kinds the base, on all others nothing
module _ (k b : ℕ) {f : Bool} {v : Writer} where
  pub sixth_base : {w : Writer} → f ≡ within 6 9 k → f ≡ true → Writes (44 ∷ decimal b) v w → Writes (added (sixth k b)) v w
  unfolding sixth added
  sixth_base e t p = rw (← e, t, append-nil (decimal b)) p

  pub sixth_none : f ≡ within 6 9 k → f ≡ false → Writes (added (sixth k b)) v v
  unfolding sixth added
  sixth_none e t = rw (← e, t) nothing

-- a value up to 2 ^ 53 - 1 is a number, a larger one its digits in quotes
pub value_number : {v : ℕ} {a b : Writer} → v ≤ 9007199254740991 → Writes (decimal v) a b → Writes (value_text v) a b
unfolding value_text
value_number {v} h p = rw (le-leb v 9007199254740991 h) p

pub value_string : {v : ℕ} {a b : Writer} → 9007199254740991 < v → Writes (34 ∷ (decimal v ++ (34 ∷ []))) a b → Writes (value_text v) a b
unfolding value_text quoted
value_string {v} h p = rw (lt-leb v 9007199254740991 h) p

pub diagnostic_row_is : (d : Diagnostic) → 91 ∷ (decimal d.start ++ (44 ∷ (decimal d.end ++ (44 ∷ (decimal d.reason ++ (93 ∷ [])))))) ≡ diagnostic_row d
unfolding diagnostic_row array following
diagnostic_row_is d = refl

pub refusal_is : (o : ℕ) (ds : List Diagnostic) → bytes "{\"refused\":" ++ (decimal o ++ (bytes ",\"diagnostics\":" ++ (diagnostic_rows ds ++ bytes "}"))) ≡ refusal o ds
unfolding refusal
refusal_is o ds = simp append_assoc
