-- The binary levels: each goes on from what the level below has read, in one loop. Assumes nothing.
use mathlib.Core.Path.{◌≡◌, refl, sym, ap, ◌∙◌}
use mathlib.Core.Bool.{true, false, not, ◌&&◌}
use Rattle.patterns.specs.Bytes.{within}
use Rattle.std.proofs.lemmas.Bool.{le-leb}
use mathlib.Core.List.{List}
use Prim.Native.Nat.{ℕ, zero, suc, ◌+◌, ◌<◌, ◌≤◌}
use native.Mathlib.Omega.{arith}
use native.Mathlib.Numerals.{add-one}
use native.Mathlib.Decide.{ℕ_discrete, dec_lt}
use lib.Dec.{T as Yes, eqb}
use lib.ListN.{length}
use borrow.Author.Tests.{eq-eqb}
use Rattle.tables.specs.Tables.{token_at}
use Rattle.tables.specs.TokenKinds.{ANDAND, MOD}
use Rattle.grammar.specs.Derive.{Input, R, unary, level, first_part, last_part, close, G, step, ◌&◌, many, rule, S, Frame, Out, got, none, part, yields, enter, leave, Derives, stepped, and_then, no_more, one_more, ruled}
use Rattle.grammar.specs.Grammar.{body, operator, cast, link}
use Rattle.grammar.proofs.Unique.{unique, same}
use Rattle.grammar.proofs.On.{On, on, off, on_of, on_leave}
use Rattle.grammar.proofs.Added.{added}
use Rattle.grammar.proofs.Progress.{sane?}
use Rattle.grammar.proofs.Whole.{solid}
use Rattle.grammar.proofs.First.{empties, firsts, Absent}
use Rattle.cursor.specs.Read.{Represents, Result, matched, failed, exceeded, Reads, still, reads, Step, begun}
use Rattle.cursor.specs.declared.Cursor.{Cursor}
use Rattle.cursor.proofs.Attempts.{attempt_rule, attempt_as, exceeds_rule}
use Rattle.cursor.proofs.Laws.{◌then◌, as_deep, many_miss}
use Rattle.cursor.proofs.Falls.{Ahead, true_false, takes?, on as further_on, on_step, ◌and_on◌, at_here, weaken}

-- ---- operators
pub above_level : {w : List ℕ} {p q : Cursor} (n : ℕ) → 4 ≤ n → Step (operator 4) w p q → Step (operator n) w p q
above_level zero h y = absurd (omega arith)
above_level (suc zero) h y = absurd (omega arith)
above_level (suc (suc zero)) h y = absurd (omega arith)
above_level (suc (suc (suc zero))) h y = absurd (omega arith)
above_level (suc (suc (suc (suc n)))) h y = y

takes_operator : (n : ℕ) → takes? (operator n) ≡ true
takes_operator zero = refl
takes_operator (suc zero) = refl
takes_operator (suc (suc zero)) = refl
takes_operator (suc (suc (suc zero))) = refl
takes_operator (suc (suc (suc (suc n)))) = refl

pub on_operator : {w : List ℕ} {p q : Cursor} (n : ℕ) → Step (operator n) w p q → Ahead true w p q
on_operator n y = rw (takes_operator n) at (on_step y)

-- a token that is no binary operator, by its kind
pub data NoOperator (k : ℕ) : Type 0 where
  below_all : k < ANDAND → NoOperator k
  above_all : MOD < k → NoOperator k

pub no_operator : {k : ℕ} → false ≡ within ANDAND MOD k → NoOperator k
no_operator {k} e =
    elim (dec_lt k ANDAND) [
      | yes h ↦ below_all h
      | no h ↦ elim (dec_lt MOD k) [ yes l ↦ above_all l | no l ↦ absurd (true_false (rw (le-leb ANDAND k (omega arith), le-leb k MOD (omega arith)) at (sym e))) ]
    ]

no_link : {k : ℕ} (n : ℕ) → NoOperator k → Absent k (firsts (link n))
no_link zero (below_all h) = omega arith
no_link zero (above_all h) = omega arith
no_link (suc zero) (below_all h) = omega arith
no_link (suc zero) (above_all h) = omega arith
no_link (suc (suc zero)) (below_all h) = omega arith
no_link (suc (suc zero)) (above_all h) = omega arith
no_link (suc (suc (suc zero))) (below_all h) = omega arith
no_link (suc (suc (suc zero))) (above_all h) = omega arith
no_link (suc (suc (suc (suc n)))) (below_all h) = omega arith
no_link (suc (suc (suc (suc n)))) (above_all h) = omega arith

link_begins : (n : ℕ) → Yes (not (empties (link n)) && sane? solid (link n))
link_begins zero = tt
link_begins (suc zero) = tt
link_begins (suc (suc zero)) = tt
link_begins (suc (suc (suc zero))) = tt
link_begins (suc (suc (suc (suc n)))) = tt

-- ---- levels
-- a construct begun at token i that has one part and no mark
record Single (i : ℕ) (t : S) : Type 0 where
  first : t.frame.first ≡ i
  parts : t.frame.parts ≡ 1
  mark : t.frame.mark ≡ 0

-- a round that closes what it has gathered
closed_round : {x : Input} {i k : ℕ} {s t u : S} {g : G} → Derives body x g s (got t) → Derives body x (step (close k first_part last_part)) t (got u) → Single i s → Single i u
unfolding yields
closed_round d e o = rw (← same (unique stepped e)) (record { first = (on_of (added d)).first ∙ o.first; parts = refl; mark = refl })

rounds : {x : Input} {g : G} {i : ℕ} {s t : S} → ((s t : S) → Derives body x g s (got t) → Single i s → Single i t) → Derives body x (many g) s (got t) → Single i s → Single i t
rounds f (no_more a) o = o
rounds f (one_more {s = s} {t = t} a c) o = rounds f c (f s t a o)

one_part : {x : Input} {r : R} (s : S) {o : Out} → Derives body x (rule r) (enter s) o → On (Single s.at) o
unfolding part
one_part s (ruled {o = o} a) = on_leave (enter s) (λ t p. record { first = refl; parts = refl; mark = refl }) (any o)
  where
    any : (o : Out) → On (λ t. Unit {0}) o
    any (got t) = on tt
    any none = off

cast_round : {x : Input} {i : ℕ} (s t : S) → Derives body x cast s (got t) → Single i s → Single i t
cast_round s t (and_then a (and_then c e)) o = closed_round (and_then a c) e o

link_round : {x : Input} {i : ℕ} (n : ℕ) (s t : S) → Derives body x (link n) s (got t) → Single i s → Single i t
link_round n s t (and_then a (and_then c e)) o = closed_round (and_then a c) e o

single : {x : Input} {t : S} (n : ℕ) (s : S) → Derives body x (body (level n)) (enter s) (got t) → Single s.at t
unfolding body
single zero s (and_then a c) = rounds cast_round c (on_of (one_part s a))
single (suc n) s (and_then a c) = rounds (link_round n) c (on_of (one_part s a))

-- so what a level has read is at once the part that the next one goes on from
empty : {i a b c d e : ℕ} → a ≡ i → b ≡ 0 → c ≡ 0 → d ≡ 0 → e ≡ 0 → ◌≡◌ {A = Frame} (record { first = a; parts = b; mark = c; from = d; to = e }) (record { first = i; parts = 0; mark = 0; from = 0; to = 0 })
empty a b c d e = rw (a, b, c, d, e) refl

fresh : {i c n f : ℕ} (s : S) → Represents (begun i c n f) s → s ≡ enter s
fresh s v =
    ap (λ (f : Frame). record { at = s.at; nodes = s.nodes; unknown = s.unknown; frame = f })
    (empty (sym v.first ∙ v.at) (omega (arith, v.parts.upto)) (omega (arith, v.mark.upto)) (omega (arith, v.from.upto)) (omega (arith, v.to.upto)))

leaves : {t : S} (s : S) → s.frame.parts ≡ 0 → s.frame.mark ≡ 0 → s.frame.first ≡ s.at → Single s.at t → leave s (got t) ≡ got t
unfolding leave part
leaves {t} s a b f o =
    let e : eqb s.frame.parts 0 ≡ true = eq-eqb _ _ a in
    let g : suc s.frame.parts ≡ t.frame.parts = omega (arith, o.parts) in
    ap got (rw (e, g, b, f, ← o.first, ← o.mark) refl)

module _ {text w : List ℕ} {b c d f : ℕ} where
  raised : {q : Cursor} {T U : List ℕ} (n : ℕ) → Reads (body (level n)) text w (begun b c d f) T q U → Reads (rule (level n)) text w (begun b c d f) T q U
  unfolding leave
  raised n (still h e i j) = still h e i j
  raised {q} {T} {U} n (reads z l) = reads z (λ s v. go s (fresh s v) (l s v))
    where
      go : (s : S) → s ≡ enter s → Result (body (level n)) text w (begun b c d f) s T q U → Result (rule (level n)) text w (begun b c d f) s T q U
      go s e (matched t z m v c f) = matched t z m v (attempt_as (leaves s (ap (λ (u : S). u.frame.parts) e) (ap (λ (u : S). u.frame.mark) e) (ap (λ (u : S). u.frame.first) e) (single n s (rw e at c.derived))) (attempt_rule (as_deep refl) (rw e at c))) f
      go s e (failed z c f) = failed z (attempt_rule (as_deep refl) (rw e at c)) f
      go s e (exceeded z c) = exceeded z (exceeds_rule (as_deep refl) (rw e at c))

  -- what no operator follows is read at every further level
  above : {k : ℕ} {q : Cursor} {T U : List ℕ} (n i : ℕ) → i ≤ n → k ≡ (token_at w q.at).kind → NoOperator k → Reads (body (level i)) text w (begun b c d f) T q U → Reads (body (level n)) text w (begun b c d f) T q U
  unfolding body
  above {q = q} {T = T} {U = U} zero i h e o y = let f : i ≡ 0 = omega arith in rw f at y
  above {q = q} {T = T} {U = U} (suc n) i h e o y =
      elim (ℕ_discrete i (suc n)) [
        | yes f ↦ rw f at y
        | no f ↦ raised n (above n i (omega arith) e o y) then many_miss e (no_link n o) (link_begins n)
      ]

-- the loop over the levels: what is read as level 0 up to p₀ is read as level i up to q
pub record Climbing (text w : List ℕ) (b c d f n : ℕ) (p₀ : Cursor) (T₀ : List ℕ) (i : ℕ) (q : Cursor) (T : List ℕ) : Type 0 where
  pub up : (U : List ℕ) → Reads (body (level 0)) text w (begun b c d f) U p₀ T₀ → Reads (body (level i)) text w (begun b c d f) U q T
  pub below : i ≤ n
  pub on : Ahead false w p₀ q
  pub kept : length T ≡ length T₀

module _ {text w : List ℕ} {b c d f n : ℕ} where
  pub climbing_none : {p₀ : Cursor} {T₀ : List ℕ} → Climbing text w b c d f n p₀ T₀ 0 p₀ T₀
  climbing_none = record { up = λ U y. y; below = omega arith; on = at_here; kept = refl }

  pub climbing_more : {p₀ q r : Cursor} {T₀ T U : List ℕ} (i : ℕ) → Climbing text w b c d f n p₀ T₀ i q T → i < n → Reads (many (link i)) text w q T r U → length U ≡ length T → Climbing text w b c d f n p₀ T₀ (i + 1) r U
  unfolding body
  climbing_more i c h y k =
      rw (add-one i) (record { up = λ X u. raised i (c.up X u) then y; below = omega arith; on = weaken (c.on and_on further_on y); kept = k ∙ c.kept })

  pub climbed : {p₀ q s : Cursor} {T₀ T U : List ℕ} (i : ℕ) → s ≡ begun b c d f → Climbing text w b c d f n p₀ T₀ i q T → n ≤ i → Reads (rule unary & many cast) text w s U p₀ T₀ → Reads (body (level n)) text w s U q T
  unfolding body
  climbed {U = U} i e c h y = let f : i ≡ n = omega (arith, c.below) in rw e (rw f at (c.up U (rw e at y)))

  pub climbed_over : {k : ℕ} {p₀ q s : Cursor} {T₀ T U : List ℕ} (i : ℕ) → s ≡ begun b c d f → Climbing text w b c d f n p₀ T₀ i q T → k ≡ (token_at w q.at).kind → NoOperator k
      → Reads (rule unary & many cast) text w s U p₀ T₀ → Reads (body (level n)) text w s U q T
  unfolding body
  climbed_over {U = U} i e c k o y = rw e (above n i c.below k o (c.up U (rw e at y)))
