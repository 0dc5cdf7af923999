-- The measure of a cycle of readers falls at each call. Assumes nothing.
use mathlib.Core.Path.{◌≡◌, refl, sym, ap, ◌∙◌}
use mathlib.Core.Bool.{Bool, true, false, ◌&&◌, ◌||◌}
use mathlib.Core.List.{List, []}
use Prim.Native.Nat.{ℕ, ◌+◌, ◌*◌, ◌/◌, ◌-◌, ◌<◌, ◌≤◌}
use native.Mathlib.Omega.{arith}
use lib.Dec.{T as Yes}
use lib.ListN.{length}
use Rattle.tables.proofs.Laws.{tokens_length}
use Rattle.patterns.proofs.Tests.{and_r}
use Rattle.grammar.specs.Derive.{G, S, got, Derives}
use Rattle.grammar.specs.Grammar.{body}
use Rattle.grammar.proofs.On.{on_of}
use Rattle.grammar.proofs.Progress.{eats, sane?, grows}
use Rattle.grammar.proofs.Whole.{solid, takes_one}
use Rattle.cursor.specs.Entries.{input}
use Rattle.cursor.specs.Read.{Represents, Result, matched, failed, exceeded, Reads, still, reads, Grown, grown, Step, steps, Free, free, begun}
use Rattle.cursor.specs.Steps.{with_furthest, fresh_at}
use Rattle.cursor.specs.declared.Cursor.{Cursor}
use Rattle.cursor.specs.declared.Status.{Status}
use Rattle.cursor.proofs.Laws.{clash, reading?, some}
use Rattle.cursor.specs.declared.Status.TheVariants.{Reading, Failed, Deep}

infixl 40 ◌and_on◌
-- the tokens left
unfoldable pub ahead_of : List ℕ → Cursor → ℕ
ahead_of w p = length w / 16 - p.at

abbrev pub one_if : Bool → ℕ
one_if true = 1
one_if false = 0

pub true_false : true ≡ false → ⊥
true_false e = omega (arith, ap one_if e)

-- where q is reading, so was p, and q is not before it; if e, it is past a token
pub data Ahead (e : Bool) (w : List ℕ) (p q : Cursor) : Type 0 where
  ahead : (q.status ≡ Reading → (p.status ≡ Reading) × (ahead_of w q + one_if e ≤ ahead_of w p)) → Ahead e w p q

-- a number, or 0 where nothing is being read
abbrev pub if_reading : Status → ℕ → ℕ
if_reading Status.Reading n = n
if_reading Status.Failed n = 0
if_reading Status.Deep n = 0

not_reading : (s : Status) (n : ℕ) → (s ≡ Reading → ⊥) → if_reading s n ≡ 0
not_reading Status.Reading n h = absurd (h refl)
not_reading Status.Failed n h = refl
not_reading Status.Deep n h = refl

-- a reader's measure: by the tokens left, and then by its rank
unfoldable pub size : List ℕ → Cursor → ℕ → ℕ
size w p n = if_reading p.status (ahead_of w p * 64 + n + 1)

-- a grammar that takes a token, as far as that is told by looking
abbrev pub takes? : G → Bool
takes? g = eats solid g && sane? solid g

-- such a one is sane
pub sane_of : (g : G) → Yes (takes? g) → Yes (sane? solid g)
sane_of g a = and_r (eats solid g) _ a

further_on : (text w : List ℕ) (g : G) {p q : Cursor} {s t : S} (a c : Bool) → eats solid g ≡ a → sane? solid g ≡ c → Represents p s → Represents q t → Derives body (input text w) g s (got t)
    → ahead_of w q + one_if (a && c) ≤ ahead_of w p
unfolding ahead_of
further_on text w g true true e f v u d = omega (arith, v.at, u.at, tokens_length w, on_of (takes_one {g = g} (rw e tt) (rw f tt) d))
further_on text w g true false e f v u d = omega (arith, v.at, u.at, on_of (grows d))
further_on text w g false c e f v u d = omega (arith, v.at, u.at, on_of (grows d))

-- a reader leaves a token fewer where its grammar takes one
pub on : {text w : List ℕ} {g : G} {p q : Cursor} {T U : List ℕ} → Reads g text w p T q U → Ahead (takes? g) w p q
on (still h e i f) = ahead (λ z. absurd (h (sym e ∙ z)))
on {text} {w} {g} {p} {q} {T} {U} (reads z l) = ahead (λ z'. let (s, v) = some p in (z, go v (l s v) z'))
  where
    go : {s : S} → Represents p s → Result g text w p s T q U → q.status ≡ Reading → ahead_of w q + one_if (takes? g) ≤ ahead_of w p
    go v (matched t z n u c f) z' = further_on text w g (eats solid g) (sane? solid g) refl refl v u c.derived
    go v (failed z c f) z' = clash Failed Reading z z' (omega arith)
    go v (exceeded z c) z' = clash Deep Reading z z' (omega arith)

pub on_step : {g : G} {w : List ℕ} {p q : Cursor} → Step g w p q → Ahead (takes? g) w p q
on_step (steps y) = on (y [] [])

module _ {w : List ℕ} where
  pub on_grown : {g : G} {p q : Cursor} {T U : List ℕ} → Grown g p T q U → Ahead (takes? g) w p q
  on_grown (grown y) = on (y [] w)

  pub on_free : {g : G} {p q : Cursor} → Free g p q → Ahead (takes? g) w p q
  on_free (free y) = on (y [] w [])

  -- a cursor that differs in what is gathered, or in the nest
  same_place : {p q : Cursor} → q.at ≡ p.at → q.status ≡ p.status → Ahead false w p q
  unfolding ahead_of
  same_place e f = ahead (λ z. (sym f ∙ z, rw e (omega arith)))

  -- into a rule
  pub at_in : {p q : Cursor} → q ≡ fresh_at p.at p → Ahead false w p q
  at_in e = same_place (ap (λ (r : Cursor). r.at) e) (ap (λ (r : Cursor). r.status) e)

  -- at the first token of a rule, and before a rule
  pub at_begin : {i c n f : ℕ} {q : Cursor} → q ≡ begun i c n f → Ahead false w (begun i c n f) q
  at_begin e = same_place (ap (λ (r : Cursor). r.at) e) (ap (λ (r : Cursor). r.status) e)

  pub at_rule : {c n f : ℕ} {p : Cursor} → p.status ≡ Reading → Ahead false w p (begun p.at c n f)
  at_rule z = same_place refl (sym z)

  -- back where an attempt began
  pub at_back : {f : ℕ} {p q : Cursor} → q ≡ with_furthest f p → Ahead false w p q
  at_back e = same_place (ap (λ (r : Cursor). r.at) e) (ap (λ (r : Cursor). r.status) e)

  pub at_here : {p : Cursor} → Ahead false w p p
  at_here = same_place refl refl

  pub ◌and_on◌ : {e f : Bool} {p q r : Cursor} → Ahead e w p q → Ahead f w q r → Ahead (e || f) w p r
  ◌and_on◌ {e = true} (ahead y) (ahead u) = ahead (λ z. let (z', m) = u z in let (z'', m') = y z' in (z'', omega arith))
  ◌and_on◌ {e = false} (ahead y) (ahead u) = ahead (λ z. let (z', m) = u z in let (z'', m') = y z' in (z'', omega arith))

  pub weaken : {e : Bool} {p q : Cursor} → Ahead e w p q → Ahead false w p q
  weaken (ahead y) = ahead (λ z. let (z', h) = y z in (z', omega arith))

  -- what comes after a cursor that is reading was read from one
  pub was : {e : Bool} {p q : Cursor} → Ahead e w p q → q.status ≡ Reading → p.status ≡ Reading
  was (ahead y) z = (y z).0

  falls : {e : Bool} {p q : Cursor} (m n : ℕ) {t : ℕ} → size w p n ≡ t → p.status ≡ Reading → Ahead e w p q → m < n + 64 * one_if e → size w q m < t
  unfolding size
  falls {e} {p} {q} m n s z (ahead y) b =
      rw (← s, ap (λ (k : Status). if_reading k (ahead_of w p * 64 + n + 1)) z)
      (elim (reading? q.status) [
        | yes i ↦ let (_, k) = y i in rw (ap (λ (k : Status). if_reading k (ahead_of w q * 64 + m + 1)) i) (omega arith)
        | no i ↦ rw (not_reading q.status (ahead_of w q * 64 + m + 1) i) (omega arith)
      ])

  -- a call past a token, at any rank m; n and t are the caller's rank and measure
  pub further : {e : Bool} {p q : Cursor} (m n : ℕ) {t : ℕ} → size w p n ≡ t → p.status ≡ Reading → Ahead e w p q → Yes e → m < 64 → size w q m < t
  further {e = true} m n s z y h b = falls m n s z y (omega arith)
  further {e = false} m n s z y h b = absurd h

  -- a call that need not be further on, of a lower rank
  pub lower : {e : Bool} {p q : Cursor} (m n : ℕ) {t : ℕ} → size w p n ≡ t → p.status ≡ Reading → Ahead e w p q → m < n → size w q m < t
  lower m n s z y b = falls m n s z y (omega arith)
