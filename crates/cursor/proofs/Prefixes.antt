-- Prefixes, read by a loop: they are counted, the operand is read past them, and each then makes a node. Assumes nothing.
use mathlib.Core.Path.{◌≡◌, refl, sym, ap, subst, ◌∙◌}
use mathlib.Core.Bool.{Bool, true, false}
use mathlib.Core.List.{List}
use Prim.Native.Nat.{ℕ, ◌+◌, ◌-◌, ◌/◌, ◌<◌, ◌≤◌}
use native.Mathlib.Omega.{arith}
use native.Mathlib.Decide.{dec_lt, ℕ_discrete}
use Rattle.std.specs.Prelude.{Option, Some, None, is_some}
use lib.ListN.{length, take, get_or}
use Rattle.std.specs.List.{prefix_len, range_with_len}
use Rattle.std.proofs.lemmas.List.Sums.{prefix_len-le-length, prefix_len_passes, prefix_len_stops}
use Rattle.std.proofs.lemmas.List.Folds.{length-prefix_len}
use Rattle.std.proofs.lemmas.List.FromFn.{get_or-range_with_len, length-range_with_len}
use borrow.Author.Tests.{ne_eqb}
use Rattle.std.proofs.lemmas.Bool.{eqb-true, eqb-false, or_cases, or_parts}
use mathlib.Core.Logic.{inl, inr}
use Rattle.std.proofs.lemmas.Option.{none-some, same_Some}
use Rattle.tables.specs.Tables.{token_at}
use Rattle.tables.specs.TokenKinds.{NOT, MINUS}
use Rattle.grammar.specs.Kinds.{Unary}
use Rattle.grammar.specs.Derive.{unary, close, first_token, last_part, step, ◌&◌, many}
use Rattle.grammar.specs.Grammar.{body, atom, postfix, op}
use Rattle.cursor.specs.Read.{LIMIT, Reads}
use Rattle.cursor.specs.Steps.{Halted, was_halted, halts, Left, fresh_at, signed_at, Restarted, restarts, restarts_deep, is_prefix, Prefix, no_prefix, a_not, a_minus, unary_number, Prefixes, Unwound, too_deep, advanced}
use Rattle.cursor.specs.declared.Cursor.{Cursor}
use Rattle.cursor.specs.declared.Status.{Status}
use Rattle.grammar.specs.declared.node_value.UnaryOp.{UnaryOp}
use Rattle.grammar.specs.contracts.node_value.UnaryOp.{the_type}
use denote.Enum.Declared.{tag_of}
use Rattle.cursor.proofs.Laws.{clash, status_as, only, pass, ◌then◌, by_rule, idle}
use Rattle.cursor.proofs.Falls.{Ahead, ahead, ahead_of}
use Rattle.cursor.proofs.Steps.{stopped, marks, halted, past_all, there}
use Rattle.cursor.specs.declared.Status.TheVariants.{Reading, Deep}

-- a test of a kind, and the prefix that it is
is_one : {k : ℕ} → is_prefix k ≡ true → Prefix k None → ⊥
is_one e (no_prefix f a b) = elim (or_cases _ _ e) [ inl h ↦ a (eqb-true _ _ h) | inr h ↦ b (eqb-true _ _ h) ]
is_one e (a_not f a) = none-some _ f
is_one e (a_minus f a) = none-some _ f

is_none : {k : ℕ} → is_prefix k ≡ false → Prefix k None
is_none e = let (h, i) = or_parts _ _ e in no_prefix refl (eqb-false _ _ h) (eqb-false _ _ i)

pub prefix_test : {k : ℕ} {r : Option UnaryOp} → Prefix k r → is_some r ≡ is_prefix k
prefix_test (no_prefix f a b) = rw (f, ne_eqb _ _ a, ne_eqb _ _ b) refl
prefix_test (a_not f a) = rw (f, a) refl
prefix_test (a_minus f a) = rw (f, a) refl

-- those before the first token that is none, of the tokens from a on
pub counted : (w : List ℕ) (a : ℕ) {m n : ℕ} → m ≡ length w / 16 → n ≡ length (take (prefix_len (λ i. is_prefix (token_at w i).kind) (range_with_len a (m - a))) (range_with_len a (m - a))) → Prefixes w a (a + n)
counted w a {m} {n} e f = record { up = omega arith; each = each; over = over (dec_lt n (m - a)) }
  where
    p : ℕ → Bool
    p i = is_prefix (token_at w i).kind

    s : List ℕ
    s = range_with_len a (m - a)

    n_is : n ≡ prefix_len p s
    n_is = f ∙ length-prefix_len p s

    at_most : n ≤ m - a
    at_most = omega (arith, n_is, prefix_len-le-length p s, length-range_with_len a (m - a))

    nth : (k : ℕ) → k < m - a → get_or s k 0 ≡ a + k
    nth k h = get_or-range_with_len a (m - a) k 0 h

    each : (i : ℕ) → a ≤ i → i < a + n → Prefix (token_at w i).kind None → ⊥
    each i l u = let k : a + (i - a) ≡ i = omega arith in is_one (rw (nth (i - a) (omega (arith, at_most)), k) at (prefix_len_passes p s (i - a) 0 (omega (arith, n_is))))

    over : Dec (n < m - a) → Prefix (token_at w (a + n)).kind None
    over (yes h) = is_none (rw (← n_is, nth n h) at (prefix_len_stops p s 0 (omega (arith, n_is, length-range_with_len a (m - a)))))
    over (no h) = no_prefix refl (past_all w (a + n) e (omega (arith, at_most)) (omega arith)) (past_all w (a + n) e (omega (arith, at_most)) (omega arith))

-- ---- making nodes of them again, the last first
-- the prefix before e is taken
takes : {text w T : List ℕ} {j : ℕ} (p : Cursor) (e v : ℕ) → p.status ≡ Reading → p.nest ≤ LIMIT → 1 ≤ e → (token_at w (e - 1)).kind ≡ j → 1 ≤ j
    → Reads (op j v) text w (fresh_at (e - 1) p) T (signed_at (e - 1) e v p) T
takes {text} {w} {T} {j} p e v z h l i b =
    subst (λ (a : ℕ). Reads (op j v) text w (fresh_at (e - 1) p) T (signed_at (e - 1) a v p) T) (omega arith) (marks (advanced z i h (there w (e - 1) i b) refl) z)

module _ {text w : List ℕ} (p : Cursor) {q q' r : Cursor} {T U W : List ℕ} (e k : ℕ) {s : Option UnaryOp} {o : UnaryOp} where
  -- and what was read from e on is its operand
  one_more : p.status ≡ Reading → p.nest ≤ LIMIT → 1 ≤ e → k ≡ (token_at w (e - 1)).kind → Prefix k s → s ≡ Some o
      → Reads (body unary) text w (fresh_at e p) T q U → Left (signed_at (e - 1) e (unary_number o) p) q q' → Reads (step (close Unary first_token last_part)) text w q' U r W
      → Reads (body unary) text w (fresh_at (e - 1) p) T r W
  unfolding body
  one_more z h l i (no_prefix f a c) g y l₁ d = absurd (none-some _ (sym f ∙ g))
  one_more z h l i (a_not f a) g y l₁ d =
      let n : unary_number o ≡ 0 = ap unary_number (same_Some _ _ (sym g ∙ f)) in
      only i a tt (only i a tt (takes p e 0 z h l (sym i ∙ a) (omega arith)) then by_rule unary refl z refl y (rw n at l₁) then d)
  one_more z h l i (a_minus f a) g y l₁ d =
      let n : unary_number o ≡ 1 = ap unary_number (same_Some _ _ (sym g ∙ f)) in
      only i a tt (pass i (omega arith) tt (takes p e 1 z h l (sym i ∙ a) (omega arith)) then by_rule unary refl z refl y (rw n at l₁) then d)

unary_tag : (o : UnaryOp) → tag_of the_type o ≡ unary_number o
unary_tag UnaryOp.Not = refl
unary_tag UnaryOp.Neg = refl

-- the invariant of the loop that goes back over them
pub record Unwinding (text w : List ℕ) (p : Cursor) (e₀ : ℕ) (q : Cursor) (T : List ℕ) (e : ℕ) (r : Cursor) (U : List ℕ) : Type 0 where
  pub up : Prefixes w p.at e₀ → p.status ≡ Reading → (p.at < e₀ → p.nest ≤ LIMIT) → (T₀ : List ℕ)
      → Reads (body unary) text w (fresh_at e₀ p) T₀ q T → Reads (body unary) text w (fresh_at e p) T₀ r U
  pub low : p.at ≤ e₀ → p.at ≤ e
  pub high : e ≤ e₀
  pub kept : length U ≡ length T

pub unwinding_none : {text w : List ℕ} {p : Cursor} {e : ℕ} {q : Cursor} {T : List ℕ} → Unwinding text w p e q T e q T
unwinding_none = record { up = λ P z h T₀ y. y; low = λ h. h; high = omega arith; kept = refl }

module _ {text w : List ℕ} (p : Cursor) {e₀ : ℕ} {q r : Cursor} {T U : List ℕ} (e k : ℕ) {s : Option UnaryOp} where
  pub unwinding_more : {o : UnaryOp} {q' r' r'' : Cursor} {W : List ℕ} → Unwinding text w p e₀ q T e r U → p.at < e → k ≡ (token_at w (e - 1)).kind → Prefix k s → s ≡ Some o → q' ≡ signed_at (e - 1) (e - 1 + 1) (tag_of the_type o) p → Left q' r r'
      → Reads (step (close Unary first_token last_part)) text w r' U r'' W → length W ≡ length U → Unwinding text w p e₀ q T (e - 1) r'' W
  unwinding_more {o = o} u h f y g i l c kept =
      let back : e - 1 + 1 ≡ e = omega arith in
      record {
        up = λ P z n T₀ j. one_more p e k z (n (omega (arith, u.high))) (omega arith) f y g (u.up P z n T₀ j) (rw (i, back, unary_tag o) at l) c;
        low = λ i. omega arith;
        high = omega (arith, u.high);
        kept = kept ∙ u.kept;
      }

  -- between them there is none
  pub unwound_never : Unwinding text w p e₀ q T e r U → p.at < e → k ≡ (token_at w (e - 1)).kind → Prefix k s → s ≡ None → Unwound text w p e₀ q T r U
  unwound_never u h f y z = record { up = λ P i n T₀ y'. absurd (P.each (e - 1) (omega arith) (omega (arith, u.high)) (rw (f, z) at y)) }

pub unwound : {text w : List ℕ} {p : Cursor} {e₀ : ℕ} {q r : Cursor} {T U : List ℕ} {e : ℕ} → Unwinding text w p e₀ q T e r U → e ≤ p.at → Unwound text w p e₀ q T r U
unwound {p = p} {e = e} u h =
    record { up = λ P z n T₀ y. let i : e ≡ p.at = omega (arith, u.low P.up) in rw i at (u.up P z n T₀ y) }

-- ---- the operand
pub at_operand : {w : List ℕ} {p q : Cursor} {e : ℕ} → Prefixes w p.at e → Restarted e p q → Ahead false w p q
unfolding ahead_of
at_operand {p = p} {q = q} a (restarts_deep h n l) = ahead (λ z. never l z)
  where
    never : {A : Type 0} → Halted Deep p q → q.status ≡ Reading → A
    never (was_halted n e) z = absurd (n (ap (λ (r : Cursor). r.status) (sym e) ∙ z))
    never (halts i e) z = clash Deep Reading (status_as e refl) z (omega arith)
at_operand a (restarts h i) = rw i (ahead (λ z. (z, omega (arith, a.up))))

pub just_entered : {a c f n : ℕ} {s : Status} {q : Cursor} → q ≡ record { at = a; count = c; furthest = f; nest = n; status = s; first = a; parts = 0; mark = 0; from = 0; to = 0 } → fresh_at q.at q ≡ q
just_entered e = rw e refl

pub reading_in : {a c f n : ℕ} {s : Status} {q : Cursor} → q ≡ record { at = a; count = c; furthest = f; nest = n; status = s; first = a; parts = 0; mark = 0; from = 0; to = 0 } → s ≡ Reading → q.status ≡ Reading
reading_in e z = rw e z

module _ {text w : List ℕ} {p : Cursor} {e : ℕ} (z : p.status ≡ Reading) (a : Prefixes w p.at e) where
  -- prefixes, too deep
  pub unary_deep : {q : Cursor} {T : List ℕ} → Restarted e p q → (q.status ≡ Reading → ⊥) → Reads (body unary) text w p T q T
  unfolding body
  unary_deep (restarts h i) n = absurd (n (ap (λ (r : Cursor). r.status) i ∙ z))
  unary_deep {q} {T} (restarts_deep h d l) n = go (ℕ_discrete (token_at w p.at).kind NOT) (ℕ_discrete (token_at w p.at).kind MINUS)
    where
      go : Dec ((token_at w p.at).kind ≡ NOT) → Dec ((token_at w p.at).kind ≡ MINUS) → Reads (body unary) text w p T q T
      go (yes u) _ = only refl u tt (only refl u tt (stopped (too_deep z u d (status_as (halted z l) refl)) n) then idle n then idle n)
      go (no u) (yes v) = only refl v tt (pass refl (u, tt) tt (stopped (too_deep z v d (status_as (halted z l) refl)) n) then idle n then idle n)
      go (no u) (no v) = absurd (a.each p.at (omega arith) h (no_prefix refl u v))

  -- prefixes, if any, and their operand
  pub unary_reads : {q₀ q r : Cursor} {T U W : List ℕ} → fresh_at p.at p ≡ p → Restarted e p q₀ → q₀.status ≡ Reading → Reads (atom & many postfix) text w q₀ T q U → Unwound text w p e q U r W → Reads (body unary) text w p T r W
  unfolding body
  unary_reads f (restarts_deep h d l) i o u = clash Deep Reading (status_as (halted z l) refl) i (omega arith)
  unary_reads {T = T} f (restarts h j) i o u = rw f at (u.up a z h T (pass refl (off a.over) tt (rw j at o)))
    where
      off : Prefix (token_at w e).kind None → ((token_at w e).kind ≡ NOT → ⊥) × (((token_at w e).kind ≡ MINUS → ⊥) × Unit {0})
      off (no_prefix f a c) = (a, (c, tt))
      off (a_not f a) = absurd (none-some _ f)
      off (a_minus f a) = absurd (none-some _ f)
