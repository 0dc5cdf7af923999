-- What holds of a reading holds of its numbers, and of the desk's entry. Assumes nothing.
use mathlib.Core.Path.{◌≡◌, sym, ap, ◌∙◌}
use mathlib.Core.List.{List}
use Prim.Native.Nat.{ℕ, ◌/◌}
use Rattle.tables.specs.Tables.{Token, Diagnostic, diagnostic_at, tabulate}
use Rattle.cairo_m.specs.Reading.{outcome_of, counts_of}
use Rattle.cairo_m.specs.declared.Counts.{Counts}
use Rattle.cairo_m.specs.Bases.{BasesAre}
use Rattle.cairo_m.proofs.Determined.{reading_one}
use Rattle.cairo_m.proofs.Demand3.{Premises, Demand, demand_3}
use Rattle.cairo_m.proofs.Bases.{bases_are}
use Rattle.entries.specs.Numbers.{NumbersAre, EntryIs}

-- ---- two answers agree
abbrev counts : ℕ → ℕ → ℕ → Counts
counts x y z = record { tokens = x; nodes = y; diagnostics = z }

module _ {text : List ℕ} {k m n : ℕ} {a b c a' b' c' : List ℕ} where
  pub numbers_one : {o t u d o' t' u' d' : ℕ} → NumbersAre text k m n a b c o t u d → NumbersAre text k m n a' b' c' o' t' u' d'
      → (o ≡ o') × (counts t u d ≡ counts t' u' d') × (a ≡ a') × (b ≡ b') × (c ≡ c')
  numbers_one p q =
      let e = reading_one p.reading q.reading in
      (p.outcome_is ∙ ap outcome_of e.0 ∙ sym q.outcome_is, p.counts_are ∙ ap counts_of e.0 ∙ sym q.counts_are, e.1, e.2, e.3)

  pub entry_one : {l o t u d o' t' u' d' : ℕ} {e e' : List Diagnostic} → EntryIs text k m n l a b c e o t u d → EntryIs text k m n l a' b' c' e' o' t' u' d'
      → (o ≡ o') × (counts t u d ≡ counts t' u' d') × (a ≡ a') × (b ≡ b') × (c ≡ c') × (e ≡ e')
  entry_one {l} p q =
      let h = numbers_one p.numbers q.numbers in
      (h.0, h.1, h.2, h.3, h.4, p.list ∙ ap (λ (x : List ℕ). tabulate l (diagnostic_at x)) h.4 ∙ sym q.list)

-- ---- the third demand, of what the C entry answers
pub at_the_desk : {text : List ℕ} {k m n l : ℕ} {a b c : List ℕ} {e : List Diagnostic} {o t u d : ℕ} {ts : List Token} → EntryIs text k m n l a b c e o t u d → Premises text (k / 16) (m / 16) ts → Demand text ts b o u
at_the_desk {text} {b = b} {ts = ts} v p =
    let w = v.numbers in
    rw (w.outcome_is, ap (λ (x : Counts). x.nodes) w.counts_are) (demand_3 w.reading p)

-- ---- the bases in what it leaves
pub entry_bases : {text : List ℕ} {k m n l : ℕ} {a b c : List ℕ} {e : List Diagnostic} {o t u d : ℕ} → EntryIs text k m n l a b c e o t u d → BasesAre text a b
entry_bases v = bases_are v.numbers.reading
