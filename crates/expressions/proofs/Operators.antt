-- A choice of operators, tried in turn. Assumes nothing.
use mathlib.Core.Path.{◌≡◌, refl, sym, ◌∙◌}
use mathlib.Core.List.{List, [], ◌∷◌}
use Prim.Native.Nat.{ℕ, zero, suc, ◌<◌, ◌≤◌}
use native.Mathlib.Omega.{arith}
use mathlib.Core.Bool.{not}
use lib.Dec.{T as Yes, eqb}
use lib.ListN.{length, take}
use borrow.Author.Tests.{eq-eqb}
use denote.Enum.Declared.{tag_of}
use Rattle.std.proofs.Common.{slice_index_or}
use Rattle.tables.specs.Tables.{token_at}
use Rattle.tables.specs.TokenKinds.{kind_of}
use Rattle.tables.specs.declared.token_type.TokenType.{TokenType}
use Rattle.grammar.specs.Derive.{Input, token, G, ◌or◌, S, none, Derives, stepped, yields}
use Rattle.grammar.specs.Grammar.{body, op}
use Rattle.grammar.specs.contracts.node_value.BinaryOp.{the_type}
use Rattle.grammar.specs.declared.node_value.BinaryOp.{BinaryOp}
use Rattle.grammar.proofs.Unique.{unique, apart}
use Rattle.cursor.specs.Read.{Reads}
use Rattle.cursor.specs.declared.Status.TheVariants.{Reading, Failed}
use Rattle.cursor.specs.Steps.{Halted, was_halted, halts, not_reading, not_there}
use Rattle.cursor.specs.declared.Cursor.{Cursor}
use Rattle.cursor.proofs.Attempts.{attempt_or_first, exceeds_or_left}
use Rattle.cursor.proofs.Laws.{clash, status_as, turned, pass}
use Rattle.cursor.proofs.Steps.{stopped, next_token}
use Rattle.expressions.specs.Operators.{binary_number, one_of}

abbrev pub Op : Type 0
Op = TokenType × BinaryOp

pub binary_tag : (o : BinaryOp) → tag_of the_type o ≡ binary_number o
binary_tag BinaryOp.Add = refl
binary_tag o = refl

-- the token is none of these
abbrev pub Unmet : ℕ → List Op → Type 0
Unmet k [] = Unit {0}
Unmet k (o ∷ l) = (k ≡ kind_of o.0 → ⊥) × Unmet k l

pub unmet_more : {k : ℕ} (l : List Op) (i : ℕ) (d : Op) → i < length l → Unmet k (take i l) → (k ≡ kind_of (slice_index_or l i d).0 → ⊥) → Unmet k (take (suc i) l)
unmet_more [] i d h u n = absurd (omega arith)
unmet_more (o ∷ l) zero d h u n = (n, tt)
unmet_more (o ∷ l) (suc i) d h (m, u) n = (m, unmet_more l i d (omega arith) u n)

-- no kind is 0
some_kind : (k : TokenType) → Yes (not (eqb (kind_of k) 0))
some_kind TokenType.LiteralNumber = tt
some_kind k = tt

-- where its token is there, an operator does not fail
there : {x : Input} {j m : ℕ} {s : S} → (token x s.at).kind ≡ j → Derives body x (op j m) s none → ⊥
unfolding yields
there e d = apart (rw (eq-eqb _ _ e) at (unique d stepped))

module _ {text w : List ℕ} {k : ℕ} {p : Cursor} (e : k ≡ (token_at w p.at).kind) where
  taken_first : {j m : ℕ} {h : G} {q : Cursor} {T U : List ℕ} → k ≡ j → Reads (op j m) text w p T q U → Reads (op j m or h) text w p T q U
  taken_first f =
      turned (λ s v. record { matches = λ z t c d. attempt_or_first d; fails = λ z c d. absurd (there (rw (next_token text w v) (sym e ∙ f)) d.derived); exceeds = exceeds_or_left })

  -- the one that is there
  pub met : {q : Cursor} {T U : List ℕ} (l : List Op) (i : ℕ) (d : Op) → i < length l → Unmet k (take i l) → k ≡ kind_of (slice_index_or l i d).0
      → Reads (op (kind_of (slice_index_or l i d).0) (binary_number (slice_index_or l i d).1)) text w p T q U → Reads (one_of l) text w p T q U
  met [] i d h u f y = absurd (omega arith)
  met (o ∷ []) zero d h u f y = y
  met (o ∷ []) (suc i) d h u f y = absurd (omega arith)
  met (o ∷ a ∷ l) zero d h u f y = taken_first f y
  met (o ∷ a ∷ l) (suc i) d h (n, u) f y = pass e (n, tt) (some_kind o.0) (met (a ∷ l) i d (omega arith) u f y)

  -- none is
  pub unmet : {r : Cursor} {T : List ℕ} (l : List Op) (i : ℕ) → 0 < length l → length l ≤ i → Unmet k (take i l) → Halted Failed p r → Reads (one_of l) text w p T r T
  unmet [] i h b u f = absurd (omega arith)
  unmet (o ∷ l) zero h b u f = absurd (omega arith)
  unmet (o ∷ []) (suc i) h b (n, u) (was_halted m f) = stopped (not_reading m f) (λ z. m (status_as (sym f) z))
  unmet (o ∷ []) (suc i) h b (n, u) (halts z f) = stopped (not_there z (λ q. n (e ∙ q)) f) (λ z'. clash Failed Reading (status_as f refl) z' (omega arith))
  unmet (o ∷ a ∷ l) (suc i) h b (n, u) f = pass e (n, tt) (some_kind o.0) (unmet (a ∷ l) i (omega arith) (omega arith) u f)
