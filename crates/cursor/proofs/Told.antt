-- What a test of a status or of a token's kind tells. Assumes nothing.
use mathlib.Core.Path.{◌≡◌, sym}
use mathlib.Core.Bool.{true, false, not}
use Prim.Native.Nat.{ℕ}
use denote.Enum.Bare.{sameb, same_true, same_false, differs_true, differs_false}
use Rattle.std.specs.Prelude.{◌==◌}
use Rattle.std.proofs.lemmas.Bool.{eqb-true, eqb-false}
use Rattle.cursor.specs.contracts.Status.{the_type}
use Rattle.cursor.specs.declared.Status.{Status}

-- a == b, where it is so and where it is not
pub same : {a b : Status} → true ≡ sameb the_type a b → a ≡ b
same {a} {b} e = same_true the_type tt a b (sym e)

pub not_same : {a b : Status} → false ≡ sameb the_type a b → a ≡ b → ⊥
not_same {a} {b} e = same_false the_type a b (sym e)

-- a != b
pub differs : {a b : Status} → true ≡ not (sameb the_type a b) → a ≡ b → ⊥
differs {a} {b} e = differs_true the_type a b (sym e)

pub no_other : {a b : Status} → false ≡ not (sameb the_type a b) → a ≡ b
no_other {a} {b} e = differs_false the_type tt a b (sym e)

-- a token is of a kind, or it is not
pub of_kind : {k j : ℕ} → true ≡ (k == j) → k ≡ j
of_kind {k} {j} e = eqb-true k j (sym e)

pub not_of_kind : {k j : ℕ} → false ≡ (k == j) → k ≡ j → ⊥
not_of_kind {k} {j} e = eqb-false k j (sym e)
