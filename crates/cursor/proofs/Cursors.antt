-- A cursor goes on standing for the derivation's state. Assumes nothing.
use mathlib.Core.Path.{◌≡◌, refl, sym, ap, ◌∙◌}
use mathlib.Core.Bool.{Bool, true, false, cond}
use mathlib.Core.List.{[]}
use Prim.Native.Nat.{ℕ, suc, ◌+◌, ◌<◌, min}
use native.Mathlib.Omega.{arith}
use native.Mathlib.Decide.{ℕ_discrete}
use lib.Dec.{eqb}
use lib.ListN.{replicate, length-append, length-replicate}
use borrow.Author.Tests.{eq-eqb, ne_eqb}
use Rattle.grammar.specs.Derive.{Token, S, part, enter, next, marked, emit, closed}
use Rattle.cursor.specs.Entries.{MAX16, MAX64}
use Rattle.cursor.specs.Read.{Upto, Represents, begun, ending}
use Rattle.cursor.specs.Steps.{up, with_furthest, at_nest, past, with_mark, with_part, counted, closed_at, joining}
use Rattle.cursor.specs.declared.Cursor.{Cursor}

-- ---- numbers up to a limit
pub upto_as : {l n m : ℕ} → n ≡ m → Upto l n m
upto_as {l} e = record { upto = ap (λ (k : ℕ). min k l) e }

pub near : {l n : ℕ} → Upto l n n
near = upto_as refl

-- a number below the limit is told
pub test : (k : ℕ) {l n m : ℕ} → k < l → Upto l n m → eqb n k ≡ eqb m k
test k {l} {n} {m} h e =
    elim (ℕ_discrete n k) [
      | yes q ↦ eq-eqb n k q ∙ sym (eq-eqb m k (omega arith))
      | no q ↦ ne_eqb n k q ∙ sym (ne_eqb m k (λ f. q (omega arith)))
    ]

pub upto_up : {l n m : ℕ} → Upto l n m → Upto l (up l n) (suc m)
upto_up e = record { upto = omega arith }

upto_if : (c : Bool) {l a a' d d' : ℕ} → Upto l a a' → Upto l d d' → Upto l (cond c a d) (cond c a' d')
upto_if true e f = e
upto_if false e f = f

-- the first part is the one before which there is none
upto_first : {l n m a a' d d' : ℕ} → Upto MAX16 n m → Upto l a a' → Upto l d d' → Upto l (cond (eqb n 0) a d) (cond (eqb m 0) a' d')
upto_first {m = m} e f g = rw (test 0 (omega arith) e) (upto_if (eqb m 0) f g)

-- ---- states
pub seen_as : {p q : Cursor} {s : S} → p ≡ q → Represents q s → Represents p s
seen_as e v = rw e v

pub represents_enter : {p : Cursor} {s : S} (n f : ℕ) → Represents p s → Represents (begun p.at p.count n f) (enter s)
represents_enter n f v = record { at = v.at; first = v.at; parts = near; mark = near; from = near; to = near; count = v.count }

-- how far attempts came is not the derivation's, nor is the nest
pub represents_with : {p : Cursor} {s : S} (f n : ℕ) → Represents p s → Represents (with_furthest f (at_nest n p)) s
represents_with f n v = record { at = v.at; first = v.first; parts = v.parts; mark = v.mark; from = v.from; to = v.to; count = v.count }

pub represents_past : {p : Cursor} {s : S} → Represents p s → Represents (past p) (next s)
represents_past v =
    record { at = omega (arith, v.at); first = v.first; parts = v.parts; mark = v.mark; from = v.from; to = v.to; count = v.count }

pub represents_mark : {p : Cursor} {s : S} {m n : ℕ} → Upto MAX64 m n → Represents p s → Represents (with_mark m p) (marked n s)
represents_mark e v = record { at = v.at; first = v.first; parts = v.parts; mark = e; from = v.from; to = v.to; count = v.count }

-- one part more of p, read up to q
pub represents_leave : {p q : Cursor} {s t : S} → Represents p s → Represents q t
    → Represents (joining p (ending q))
    (record { at = t.at; nodes = t.nodes; unknown = t.unknown; frame = part t.frame.from t.frame.to s.frame })
unfolding part
represents_leave v w =
    record { at = w.at; first = v.first; parts = upto_up v.parts; mark = v.mark; from = upto_first v.parts w.from v.from; to = w.to; count = w.count }

more_nodes : {n m : ℕ} → Upto MAX64 n m → Upto MAX64 (up MAX64 n) (m + 1)
more_nodes e = record { upto = omega arith }

pub represents_emit : {p : Cursor} {s : S} (t : Token) (k b v : ℕ) → Represents p s → Represents (with_part t.start t.end (counted p)) (emit t k b v s)
unfolding part
represents_emit t k b n v =
    record { at = v.at; first = v.first; parts = upto_up v.parts; mark = v.mark; from = upto_first v.parts near v.from; to = near; count = rw length-append (more_nodes v.count) }

pub represents_closed : {p : Cursor} {s : S} {a b a' b' : ℕ} (k : ℕ) → Upto MAX16 a a' → Upto MAX16 b b' → Represents p s → Represents (closed_at a b p) (closed k a' b' s)
represents_closed k e f v =
    record { at = v.at; first = v.first; parts = near; mark = near; from = e; to = f; count = rw length-append (more_nodes v.count) }

-- every cursor stands for some state
pub some : (p : Cursor) → (s : S) × Represents p s
some p = (
  record { at = p.at; nodes = replicate p.count (record { kind = 0; base = 0; start = 0; end = 0; children = 0; value = 0 }); unknown = []; frame = record { first = p.first; parts = p.parts; mark = p.mark; from = p.from; to = p.to } },
  record { at = refl; first = refl; parts = near; mark = near; from = near; to = near; count = rw length-replicate near },
)
