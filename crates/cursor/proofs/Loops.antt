-- The invariant of a loop that reads `many g`, and its laws. Assumes nothing.
use mathlib.Core.Path.{◌≡◌, refl, sym, ◌∙◌}
use mathlib.Core.Bool.{false, not, ◌&&◌}
use mathlib.Core.List.{List}
use Prim.Native.Nat.{ℕ}
use native.Mathlib.Omega.{arith}
use lib.Dec.{T as Yes}
use lib.ListN.{length}
use Rattle.patterns.proofs.Tests.{and_l, and_r}
use Rattle.tables.specs.Tables.{token_at}
use Rattle.grammar.proofs.Progress.{sane?}
use Rattle.grammar.proofs.Whole.{solid}
use Rattle.grammar.proofs.First.{empties, firsts, Absent, absent?, absent_of}
use Rattle.grammar.specs.Derive.{G, many, S}
use Rattle.cursor.specs.Read.{Represents, reached, Result, matched, failed, exceeded, Reads, still, reads}
use Rattle.cursor.specs.Steps.{rewound}
use Rattle.cursor.specs.declared.Cursor.{Cursor}
use Rattle.cursor.proofs.Attempts.{attempt_from, attempt_no_more, attempt_one_more, exceeds_now, exceeds_later}
use Rattle.cursor.proofs.Laws.{clash, represents_with, back, idle, joined, many_miss}
use Rattle.cursor.proofs.Falls.{Ahead, on, ◌and_on◌, at_here, weaken}
use Rattle.cursor.specs.declared.Status.TheVariants.{Reading, Failed, Deep}

-- so many rounds after p₀ and T₀: what `many g` reads from there on it reads from p₀; how far on that is; the table's length
pub record Looping (text w : List ℕ) (g : G) (p₀ : Cursor) (T₀ : List ℕ) (p : Cursor) (T : List ℕ) : Type 0 where
  pub rounds : (r : Cursor) (U : List ℕ) → Reads (many g) text w p T r U → Reads (many g) text w p₀ T₀ r U
  pub on : Ahead false w p₀ p
  pub kept : length T ≡ length T₀

module _ {text w : List ℕ} where
  pub rounds_begin : {g : G} {p : Cursor} {T : List ℕ} → Looping text w g p T p T
  rounds_begin = record { rounds = λ r U y. y; on = at_here; kept = refl }

  -- a round more, which did not fail
  pub rounds_next : {g : G} {p₀ p q : Cursor} {T₀ T U : List ℕ} → Looping text w g p₀ T₀ p T → Reads g text w p T q U → (q.status ≡ Failed → ⊥) → length U ≡ length T₀ → Looping text w g p₀ T₀ q U
  rounds_next L y n k =
      record {
        rounds =
            λ r W u.
            L.rounds r W
            (joined (record {
              fails = λ z s c. absurd (n z);
              exceeds = λ s c. exceeds_now c;
              joins = λ s t o c d. attempt_one_more c d;
              over = λ s t d e. exceeds_later d e;
            }) y u);
        on = weaken (L.on and_on on y);
        kept = k;
      }

  -- a round that failed is the end
  pub rounds_end : {g : G} {p₀ p p' q : Cursor} {T₀ T U : List ℕ} → Looping text w g p₀ T₀ p T → p.status ≡ Reading → Reads g text w p T q U → q.status ≡ Failed → p' ≡ rewound p q → Reads (many g) text w p₀ T₀ p' U
  rounds_end {g} {p₀} {p} {p'} {q} {T₀} {T} {U} L z y o e = L.rounds p' U (rw e (last y))
    where
      none_more : (s : S) → Represents p s → Result g text w p s T q U → Result (many g) text w p s T (rewound p q) U
      none_more s v (matched t z' n v' c f) = clash Reading Failed z' o (omega arith)
      none_more s v (failed z' c f) = matched s z refl (represents_with (reached q) p.nest v) (attempt_from refl (sym (back p q c.within.up)) (attempt_no_more c)) f
      none_more s v (exceeded z' c) = clash Deep Failed z' o (omega arith)

      last : Reads g text w p T q U → Reads (many g) text w p T (rewound p q) U
      last (still n e i f) = absurd (n z)
      last (reads _ l) = reads z (λ s v. none_more s v (l s v))

  -- where none can begin so, too
  pub rounds_miss : {k : ℕ} {g : G} {p₀ p : Cursor} {T₀ T : List ℕ} → Looping text w g p₀ T₀ p T → k ≡ (token_at w p.at).kind → Absent k (firsts g) → Yes (not (empties g) && sane? solid g)
      → Reads (many g) text w p₀ T₀ p T
  rounds_miss {p = p} {T = T} L e a y = L.rounds p T (many_miss e a y)

  pub rounds_before : {k j : ℕ} {g : G} {p₀ p : Cursor} {T₀ T : List ℕ} → Looping text w g p₀ T₀ p T → k ≡ (token_at w p.at).kind → k ≡ j → Yes (absent? j (firsts g) && (not (empties g) && sane? solid g))
      → Reads (many g) text w p₀ T₀ p T
  rounds_before {j = j} {g = g} L e f y =
      rounds_miss L (sym f ∙ e) (absent_of j (firsts g) (and_l (absent? j (firsts g)) _ y)) (and_r (absent? j (firsts g)) _ y)

  -- and so is a cursor that is not reading
  pub rounds_off : {g : G} {p₀ p : Cursor} {T₀ T : List ℕ} → Looping text w g p₀ T₀ p T → (p.status ≡ Reading → ⊥) → Reads (many g) text w p₀ T₀ p T
  rounds_off {p = p} {T = T} L n = L.rounds p T (idle n)
