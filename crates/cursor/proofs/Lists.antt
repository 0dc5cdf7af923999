-- Lists, which a function reads with a loop of its own. Assumes nothing.
use mathlib.Core.Path.{◌≡◌, refl, sym, ap, ◌∙◌}
use mathlib.Core.Bool.{false}
use mathlib.Core.List.{List}
use Prim.Native.Nat.{ℕ}
use native.Mathlib.Omega.{arith}
use lib.Dec.{T as Yes}
use lib.ListN.{length}
use borrow.Author.Tests.{eq-eqb}
use Rattle.tables.specs.Tables.{token_at}
use Rattle.tables.specs.TokenKinds.{COMMA}
use Rattle.tables.proofs.Laws.{tokens_at}
use Rattle.grammar.specs.Derive.{Input, token, skip, take, G, many, S, none, yields, Derives, stepped}
use Rattle.grammar.specs.Grammar.{body, tok, opt, another, entries, list}
use Rattle.grammar.proofs.Unique.{unique, apart}
use Rattle.grammar.proofs.Progress.{sane?}
use Rattle.grammar.proofs.Whole.{solid}
use Rattle.cursor.specs.Entries.{input}
use Rattle.cursor.specs.Read.{reached, Reads, still, Step}
use Rattle.cursor.specs.Steps.{rewound}
use Rattle.cursor.specs.declared.Cursor.{Cursor}
use Rattle.cursor.proofs.Laws.{clash, status_as, no_less, reread, idle, nothing, ◌then◌, first, absent, pass, many_miss, fine, opt_never, never_failed, one_step}
use Rattle.cursor.proofs.Falls.{Ahead, on, on_step, ◌and_on◌, at_here, was, weaken}
use Rattle.cursor.proofs.Loops.{Looping, rounds_begin, rounds_next, rounds_end, rounds_miss, rounds_off}
use Rattle.cursor.specs.declared.Status.TheVariants.{Reading, Failed}

-- a loop that reads one of a list and then a comma: nothing so far, or some and a comma
pub data SoFar (text w : List ℕ) (g : G) (p₀ : Cursor) (T₀ : List ℕ) (p : Cursor) (T : List ℕ) : Type 0 where
  none_yet : p ≡ p₀ → T ≡ T₀ → SoFar text w g p₀ T₀ p T
  past_comma : {q r : Cursor} {U : List ℕ} → Reads g text w p₀ T₀ q U → (q.status ≡ Failed → ⊥) → Looping text w (another g) q U r T → Step (tok COMMA) w r p → (p.status ≡ Failed → ⊥) → SoFar text w g p₀ T₀ p T

-- how far on that is; the table's length
pub record Listing (text w : List ℕ) (g : G) (p₀ : Cursor) (T₀ : List ℕ) (p : Cursor) (T : List ℕ) : Type 0 where
  pub so_far : SoFar text w g p₀ T₀ p T
  pub on : Ahead false w p₀ p
  pub kept : length T ≡ length T₀

-- a token that is there is taken
there : {x : Input} {k : ℕ} {s : S} → (token x s.at).kind ≡ k → Derives body x (tok k) s none → ⊥
unfolding yields
there {x} {k} {s} e d = apart (unique d (let c : Derives body x (tok k) s (yields x (take k skip) s) = stepped in rw (eq-eqb _ _ e) at c))

module _ {text w : List ℕ} where
  -- ---- a trailing comma is allowed
  -- the first, the others, and a comma or none, of which only the first can fail
  list_of : {g : G} {p q r e : Cursor} {T U W : List ℕ} → Reads g text w p T q U → (q.status ≡ Failed → ⊥) → Reads (many (another g)) text w q U r W → Reads (opt (tok COMMA)) text w r W e W → Reads (list g) text w p T e W
  list_of y n m d = first (y then m then d) (never_failed (λ u v. opt_never u) d (fine m n))

  no_comma : {k : ℕ} {p : Cursor} {T : List ℕ} → k ≡ (token_at w p.at).kind → (k ≡ COMMA → ⊥) → Reads (opt (tok COMMA)) text w p T p T
  no_comma e f = pass {g = tok COMMA} e (f, tt) tt nothing

  comma_taken : {k : ℕ} {p q : Cursor} {T : List ℕ} → k ≡ (token_at w p.at).kind → k ≡ COMMA → Reads (tok COMMA) text w p T q T → (p.status ≡ Failed → ⊥) → q.status ≡ Failed → ⊥
  comma_taken e f = never_failed (λ u v. there {x = input text w} (rw (← v.at, tokens_at) (sym e ∙ f)))

  pub listing_begin : {g : G} {p : Cursor} {T : List ℕ} → Listing text w g p T p T
  listing_begin = record { so_far = none_yet refl refl; on = at_here; kept = refl }

  -- one more and a comma
  pub listing_next : {k : ℕ} {g : G} {p₀ p q r : Cursor} {T₀ T U : List ℕ} → Listing text w g p₀ T₀ p T → Reads g text w p T q U → (q.status ≡ Failed → ⊥) → length U ≡ length T
      → k ≡ (token_at w q.at).kind → k ≡ COMMA → Step (tok COMMA) w q r → Listing text w g p₀ T₀ r U
  listing_next {g = g} {p₀} {p} {q} {r} {T₀} {T} {U} L y n h e f c =
      record { so_far = go L.so_far y; on = weaken (L.on and_on on y and_on on_step c); kept = h ∙ L.kept }
    where
      go : SoFar text w g p₀ T₀ p T → Reads g text w p T q U → SoFar text w g p₀ T₀ r U
      go (none_yet i j) y = past_comma (rw (i, j) at y) n rounds_begin c (comma_taken {T = U} e f (one_step c) n)
      go (past_comma y₀ n₀ L₀ c₀ m) y = past_comma y₀ n₀ (rounds_next L₀ (one_step c₀ then y) n (h ∙ L₀.kept)) c (comma_taken {T = U} e f (one_step c) n)

  -- the next fails
  pub listing_none : {g : G} {p₀ p p' q : Cursor} {T₀ T U : List ℕ} → Listing text w g p₀ T₀ p T → p.status ≡ Reading → Reads g text w p T q U → q.status ≡ Failed → p' ≡ rewound p q → Reads (list g) text w p₀ T₀ p' U
  listing_none {g} {p₀} {p} {p'} {q} {T₀} {T} {U} L z y o e = go L.so_far y
    where
      go : SoFar text w g p₀ T₀ p T → Reads g text w p T q U → Reads (list g) text w p₀ T₀ p' U
      go (none_yet i j) y = absent ((rw (i, j) at y) then idle (λ z. clash Failed Reading o z (omega arith))) o (rw i at e)
      go (past_comma y₀ n₀ L₀ c₀ m) y =
          list_of y₀ n₀ (rounds_end L₀ (was (on_step c₀) z) (one_step c₀ then y) o refl) (rw e (first (reread (reached q) (no_less y o) (one_step c₀)) m))

  -- no comma follows
  pub listing_miss : {k : ℕ} {g : G} {p₀ p q : Cursor} {T₀ T U : List ℕ} → Yes (sane? solid g) → Listing text w g p₀ T₀ p T → Reads g text w p T q U → (q.status ≡ Failed → ⊥) → length U ≡ length T
      → k ≡ (token_at w q.at).kind → (k ≡ COMMA → ⊥) → Reads (list g) text w p₀ T₀ q U
  listing_miss {g = g} {p₀} {p} {q} {T₀} {T} {U} a L y n h e f = go L.so_far y
    where
      go : SoFar text w g p₀ T₀ p T → Reads g text w p T q U → Reads (list g) text w p₀ T₀ q U
      go (none_yet i j) y = list_of (rw (i, j) at y) n (many_miss e (f, tt) a) (no_comma e f)
      go (past_comma y₀ n₀ L₀ c₀ m) y = list_of y₀ n₀ (rounds_miss (rounds_next L₀ (one_step c₀ then y) n (h ∙ L₀.kept)) e (f, tt) a) (no_comma e f)

  -- it is not reading
  pub listing_off : {g : G} {p₀ p : Cursor} {T₀ T : List ℕ} → Listing text w g p₀ T₀ p T → (p.status ≡ Reading → ⊥) → Reads (list g) text w p₀ T₀ p T
  listing_off {g} {p₀} {p} {T₀} {T} L h = go L.so_far
    where
      go : SoFar text w g p₀ T₀ p T → Reads (list g) text w p₀ T₀ p T
      go (none_yet i j) = still (λ z. h (status_as i z)) (status_as i refl) (ap reached i) j
      go (past_comma y₀ n₀ L₀ c₀ m) = list_of y₀ n₀ (rounds_off (rounds_next L₀ (one_step c₀ then idle h) m L₀.kept) h) (idle h)

  -- ---- it is not
  pub entries_none : {g : G} {p p' q : Cursor} {T U : List ℕ} → Reads g text w p T q U → q.status ≡ Failed → p' ≡ rewound p q → Reads (entries g) text w p T p' U
  entries_none y o = absent (y then idle (λ z. clash Failed Reading o z (omega arith))) o

  pub entries_end : {g : G} {p q r e r' : Cursor} {T U W X : List ℕ} → Reads g text w p T q U → (q.status ≡ Failed → ⊥) → Looping text w (another g) q U r W → r.status ≡ Reading
      → Reads (another g) text w r W r' X → r'.status ≡ Failed → e ≡ rewound r r' → Reads (entries g) text w p T e X
  entries_end y n L z u o e = first (y then rounds_end L z u o e) (λ f. clash Reading Failed z (status_as (sym e) f) (omega arith))

  pub entries_off : {g : G} {p q r : Cursor} {T U W : List ℕ} → Reads g text w p T q U → (q.status ≡ Failed → ⊥) → Looping text w (another g) q U r W → (r.status ≡ Reading → ⊥)
      → Reads (entries g) text w p T r W
  entries_off y n L h = let l = rounds_off L h in first (y then l) (fine l n)
