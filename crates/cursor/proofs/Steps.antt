-- What the steps of a cursor read. Assumes nothing.
use mathlib.Core.Path.{◌≡◌, refl, sym, ap, ◌∙◌}
use mathlib.Core.Bool.{Bool, true, false, cond}
use mathlib.Core.List.{List}
use Prim.Native.Nat.{ℕ, suc, pred, ◌+◌, ◌-◌, ◌/◌, ◌<◌, ◌≤◌, min}
use native.Mathlib.Omega.{arith}
use native.Mathlib.Decide.{dec_lt}
use lib.Dec.{eqb}
use lib.ListN.{length}
use borrow.Author.Tests.{eq-eqb, ne_eqb}
use Rattle.tables.specs.Tables.{Token, encode_node, token_at, stored}
use Rattle.tables.specs.TokenKinds.{IDENT, kind_of}
use Rattle.tables.specs.declared.token_type.TokenType.{TokenType}
use Rattle.tables.proofs.Laws.{number_none, tokens_at}
use Rattle.grammar.specs.Derive.{Input, token, Act, leaf, Start, first_token, first_part, End, last_token, last_part, call_end, take, close, tick, alone, step, S, Out, got, none, next, marked, emit, starts, ends, closed, act, yields, stepped, Takes, here, type_name, spelling}
use Rattle.grammar.specs.Kinds.{Named}
use Rattle.grammar.specs.contracts.node_value.NamedType.{the_type}
use Rattle.grammar.specs.declared.node_value.NamedType.{NamedType}
use denote.Enum.Declared.{tag_of}
use Rattle.grammar.specs.Grammar.{body, nests, tok, op, named_type}
use Rattle.grammar.proofs.Unique.{unique}
use Rattle.cursor.specs.Entries.{input, MAX16, MAX64}
use Rattle.cursor.specs.Read.{Attempt, Exceeds, Holds, Upto, Represents, reached, Result, matched, failed, exceeded, Reads, still, reads}
use Rattle.cursor.specs.Steps.{named_number, up, with_status, Halted, was_halted, halts, Advanced, not_reading, not_there, too_deep, advanced, with_mark, with_part, counted, with_unknown, Emitted, emitted, Closed, not_closed, closes}
use Rattle.cursor.specs.declared.Cursor.{Cursor}
use Rattle.cursor.specs.declared.Status.{Status}
use Rattle.cursor.proofs.Attempts.{within_as, attempt_as, attempt_from, attempt_take, attempt_absent, attempt_step, exceeds_by, exceeds_take}
use Rattle.cursor.proofs.Cursors.{upto_as, near, test, upto_up, seen_as, represents_past, represents_mark, represents_emit, represents_closed}
use Rattle.cursor.proofs.Holding.{entry_is, holds_more}
use Rattle.cursor.proofs.Laws.{clash, reading?, status_as, kept, idle}
use Rattle.cursor.specs.declared.Status.TheVariants.{Reading, Failed, Deep}

-- no kind is 0
pub above_none : (k : TokenType) → 1 ≤ kind_of k
above_none TokenType.LiteralNumber = omega arith
above_none k = omega arith

pub halted : {k : Status} {p r : Cursor} → p.status ≡ Reading → Halted k p r → r ≡ with_status k p
halted z (was_halted n e) = absurd (n z)
halted z (halts h e) = e

nest_of : {p q : Cursor} → p ≡ q → p.nest ≡ q.nest
nest_of e = ap (λ (r : Cursor). r.nest) e

-- what the code's types say of a node's numbers and of the table
pub record Bounds (start end children value : ℕ) (T : List ℕ) : Type 0 where
  pub start_fits : start < 0x10000
  pub end_fits : end < 0x10000
  pub children_fits : children < 0x10000
  pub value_fits : value < 0x1_0000_0000_0000_0000
  pub table_fits : length T < 0x1_0000_0000_0000_0000

-- ---- a token

-- past the last there is none
pub past_all : (w : List ℕ) (i : ℕ) {n k : ℕ} → n ≡ length w / 16 → n ≤ i → 1 ≤ k → (token_at w i).kind ≡ k → ⊥
past_all w i e h l q = omega (arith, number_none 16 i w 0 1 (omega arith))

-- a token of a kind other than 0 is there
pub there : (w : List ℕ) (i : ℕ) {k : ℕ} → (token_at w i).kind ≡ k → 1 ≤ k → i < length w / 16
there w i e h =
    elim (dec_lt i (length w / 16)) [
      | yes y ↦ y
      | no y ↦ absurd (past_all w i refl (omega arith) h e)
    ]

-- the one after i; at the largest number there is none
pub token_after : (w : List ℕ) {i n k : ℕ} → length w < 0x1_0000_0000_0000_0000 → i < 0x1_0000_0000_0000_0000 → n ≡ up MAX64 i → k ≡ (token_at w n).kind → k ≡ (token_at w (i + 1)).kind
token_after w {i} {n} h l e f =
    elim (dec_lt i MAX64) [
      | yes b ↦ let g : n ≡ i + 1 = omega arith in rw g at f
      | no b ↦ omega (arith, f, number_none 16 n w 0 1 (omega arith), number_none 16 (i + 1) w 0 1 (omega arith))
    ]

pub next_token : (text w : List ℕ) {p : Cursor} {s : S} → Represents p s → token (input text w) s.at ≡ token_at w p.at
next_token text w {s = s} v = tokens_at w s.at ∙ ap (token_at w) (sym v.at)

-- a cursor tells nothing of the literals with an unknown suffix
reseen : {p : Cursor} {s : S} {u : List Token} → Represents p s → Represents p (with_unknown u s)
reseen v = record { at = v.at; first = v.first; parts = v.parts; mark = v.mark; from = v.from; to = v.to; count = v.count }

-- where the act a leads from the token at p, and that the cursor and the table then say so
record Acts (text w : List ℕ) (a : Act) (p : Cursor) (s : S) (T : List ℕ) (r : Cursor) (U : List ℕ) : Type 0 where
  to : S
  acted : act (input text w) a (token_at w p.at) (next s) ≡ got to
  represents : Represents r to
  holds : Holds T s.nodes → Holds U to.nodes

module _ {text w : List ℕ} {k : ℕ} {p q : Cursor} where
  -- it is not there, or too deep
  pub stopped : {a : Act} {T : List ℕ} → Advanced w k p q → (q.status ≡ Reading → ⊥) → Reads (step (take k a)) text w p T q T
  unfolding yields
  stopped (not_reading n e) z = still n (status_as e refl) (ap reached e) refl
  stopped (not_there y n e) z =
      reads y (λ s v.
      let miss : (token (input text w) s.at).kind ≡ k → ⊥ = λ i. n (rw (next_token text w v) at i) in
      failed (status_as e refl) (attempt_from refl (sym (ap reached e)) (attempt_absent miss)) (λ H. H))
  stopped (too_deep y i l e) z = reads y (λ s v. exceeded e (exceeds_take (rw (next_token text w v) i) l))
  stopped (advanced y i l b e) z = absurd (z (status_as e y))

  -- it is taken
  taken : {a : Act} {r : Cursor} {T U : List ℕ} → Advanced w k p q → q.status ≡ Reading → r.status ≡ q.status → r.nest ≡ q.nest → reached r ≡ reached q
      → ((s : S) → Represents q (next s) → Acts text w a p s T r U) → Reads (step (take k a)) text w p T r U
  unfolding yields
  taken (not_reading n e) z f g h l = absurd (n (status_as (sym e) z))
  taken (not_there y n e) z f g h l = clash Failed Reading (status_as e refl) z (omega arith)
  taken (too_deep y i m e) z f g h l = clash Deep Reading e z (omega arith)
  taken (advanced y i m b e) z f g h l =
      reads y (λ s v.
      let o = l s (seen_as e (represents_past v)) in
      matched o.to (f ∙ z) (g ∙ nest_of e) o.represents (attempt_as (rw (next_token text w v, eq-eqb _ _ i) o.acted) (attempt_take (rw (next_token text w v) i) m (omega (arith, v.at)) (omega (arith, v.at, h, ap reached e)))) o.holds)

  pub took : {T : List ℕ} → Advanced w k p q → Reads (tok k) text w p T q T
  took y =
      elim (reading? q.status) [
        | yes z ↦ taken y z refl refl refl (λ s v. record { to = next s; acted = refl; represents = v; holds = λ H. H })
        | no n ↦ stopped y n
      ]

  pub marks : {m : ℕ} {T : List ℕ} → Advanced w k p q → q.status ≡ Reading → Reads (op k m) text w p T (with_mark m q) T
  marks {m} y z = taken y z refl refl refl (λ s v. record { to = marked m (next s); acted = refl; represents = represents_mark near v; holds = λ H. H })

  pub leaves : {n d v a b : ℕ} {c : Act} {r : Cursor} {T U : List ℕ} → Advanced w k p q → q.status ≡ Reading → a ≡ (token_at w p.at).start → b ≡ (token_at w p.at).end
      → Bounds a b 0 v T → r ≡ with_part a b (counted q) → U ≡ stored 16 T q.count (encode_node (record { kind = n; base = d; start = a; end = b; children = 0; value = v }))
      → (u : S → List Token) → ((s : S) → act (input text w) c (token_at w p.at) (next s) ≡ got (with_unknown (u s) (emit (token_at w p.at) n d v (next s))))
      → Reads (step (take k c)) text w p T r U
  leaves {n} {d} {v} y z f g l i j u h =
      taken y z (status_as i refl) (nest_of i) (ap reached i) (λ s o.
      record {
        to = with_unknown (u s) (emit (token_at w p.at) n d v (next s));
        acted = h s;
        represents = reseen {s = emit (token_at w p.at) n d v (next s)} (seen_as i (rw (f, g) (represents_emit (token_at w p.at) n d v o)));
        holds = λ H. rw (j, entry_is n d l.start_fits l.end_fits l.children_fits l.value_fits (upto_as f) (upto_as g) near near) (holds_more _ (omega arith) o.count H);
      })

module _ {k n b v : ℕ} {w : List ℕ} {p : Cursor} {T : List ℕ} {r : Cursor} {U : List ℕ} where
  -- of an act that makes just this leaf of the token
  pub emits : {a : Act} {text : List ℕ} (u : S → List Token) → ((s : S) → act (input text w) a (token_at w p.at) (next s) ≡ got (with_unknown (u s) (emit (token_at w p.at) n b v (next s))))
      → Emitted k n b v w p T r U → Reads (step (take k a)) text w p T r U
  emits {a} {text} u h (emitted y) = y text a u h

-- ---- one act by another

-- the same but for the literals with an unknown suffix
abbrev pub but : List Token → Out → Out
but u (got t) = got (with_unknown u t)
but u none = none

same_token : {x : Input} {k : ℕ} {a b : Act} {n : ℕ} {s : S} (i m : ℕ) → Takes body x nests i m (step (take k a)) n s → Takes body x nests i m (step (take k b)) n s
same_token i m (here e f h) = here e f h

module _ {x : Input} {k : ℕ} {a b : Act} {n : ℕ} {s : S} where
  -- what b makes of the token is f of what a does
  follows : {o : Out} {a₀ b₀ : ℕ} (f : Out → Out) → f none ≡ none → act x b (token x s.at) (next s) ≡ f (act x a (token x s.at) (next s))
      → Attempt x (step (take k a)) n s o a₀ b₀ → Attempt x (step (take k b)) n s (f o) a₀ b₀
  unfolding yields
  follows f z e c =
      attempt_as
      (rw e (go (eqb (token x s.at).kind k) (act x a (token x s.at) (next s))) ∙ ap f (unique stepped c.derived))
      (record { derived = stepped; within = within_as same_token same_token c.within })
    where
      go : (c : Bool) (o : Out) → cond c (f o) none ≡ f (cond c o none)
      go true o = refl
      go false o = sym z

  exceeds_too : Exceeds x (step (take k a)) n s → Exceeds x (step (take k b)) n s
  exceeds_too = exceeds_by (λ i m l. same_token i m)

module _ {text w : List ℕ} {k : ℕ} {a b : Act} {p : Cursor} where
  -- b is a, but for the literals with an unknown suffix
  pub same_act : {r : Cursor} {T U : List ℕ} (u : S → List Token)
      → ((s : S) → act (input text w) b (token_at w p.at) (next s) ≡ but (u s) (act (input text w) a (token_at w p.at) (next s)))
      → Reads (step (take k a)) text w p T r U → Reads (step (take k b)) text w p T r U
  same_act u h (still n e i f) = still n e i f
  same_act {r} {T} {U} u h (reads z l) = reads z (λ s v. go s v (l s v))
    where
      go : (s : S) → Represents p s → Result (step (take k a)) text w p s T r U → Result (step (take k b)) text w p s T r U
      go s v (matched t z n o c f) =
          matched _ z n (reseen o) (follows (but (u s)) refl (rw (next_token text w v) (h s)) c) f
      go s v (failed z c f) = failed z (follows (but (u s)) refl (rw (next_token text w v) (h s)) c) f
      go s v (exceeded z c) = exceeded z (exceeds_too c)

  -- b turns down what a took
  pub turned_down : {q r : Cursor} {T U : List ℕ} → ((s : S) → act (input text w) b (token_at w p.at) (next s) ≡ none)
      → Reads (step (take k a)) text w p T q U → Halted Failed q r → Reads (step (take k b)) text w p T r U
  turned_down d (still n e j f) (was_halted m i) = still n (status_as i e) (ap reached i ∙ j) f
  turned_down d (still n e j f) (halts y i) = absurd (n (sym e ∙ y))
  turned_down {q} {r} {T} {U} d (reads z l) h = reads z (λ s v. go s v (l s v) h)
    where
      go : (s : S) → Represents p s → Result (step (take k a)) text w p s T q U → Halted Failed q r → Result (step (take k b)) text w p s T r U
      go s v (matched t z n o c f) (was_halted m e) = absurd (m z)
      go s v (matched t z n o c f) (halts y e) = failed (status_as e refl) (attempt_from refl (sym (ap reached e)) (follows (λ _. none) refl (rw (next_token text w v) (d s)) c)) (λ H. kept c.derived (f H))
      go s v (failed z c f) (was_halted m e) = failed (status_as e z) (attempt_from refl (sym (ap reached e)) (follows (λ _. none) refl (rw (next_token text w v) (d s)) c)) f
      go s v (failed z c f) (halts y e) = clash Failed Reading z y (omega arith)
      go s v (exceeded z c) (was_halted m e) = exceeded (status_as e z) (exceeds_too c)
      go s v (exceeded z c) (halts y e) = clash Deep Reading z y (omega arith)

named_tag : (n : NamedType) → tag_of the_type n ≡ named_number n
named_tag NamedType.Felt = refl
named_tag NamedType.Bool = refl
named_tag NamedType.U32 = refl
named_tag NamedType.Custom = refl

-- a name whose value is told by its spelling
pub named : {text w : List ℕ} (n : NamedType) {p r : Cursor} {T U : List ℕ} → named_number n ≡ type_name (spelling (input text w) (token_at w p.at)) → Reads (step (take IDENT (leaf Named (tag_of the_type n)))) text w p T r U → Reads named_type text w p T r U
named n e y = same_act (λ s. s.unknown) (λ s. rw (← e, ← named_tag n)) y

-- ---- no token

-- where a node starts and ends
module _ (text w : List ℕ) {p : Cursor} {s : S} (v : Represents p s) where
  pub from_part : Upto MAX16 p.from (starts (input text w) first_part s)
  from_part = v.from

  pub to_part : Upto MAX16 p.to (ends (input text w) last_part s)
  to_part = v.to

  pub from_token : {t : Token} → t ≡ token_at w p.first → Upto MAX16 t.start (starts (input text w) first_token s)
  from_token e = upto_as (ap (λ (t : Token). t.start) e ∙ rw v.first (ap (λ (t : Token). t.start) (sym (tokens_at w s.frame.first))))

  pub to_token : {t : Token} {i : ℕ} → i ≡ p.at - 1 → t ≡ token_at w i → Upto MAX16 t.end (ends (input text w) last_token s)
  to_token {i = i} e f =
      let g : i ≡ pred s.at = omega (arith, v.at) in
      upto_as (ap (λ (t : Token). t.end) f ∙ rw g (ap (λ (t : Token). t.end) (sym (tokens_at w (pred s.at)))))

  pub to_callee : {n : ℕ} → p.parts ≡ 1 → n ≡ min (p.to + 2) MAX16 → Upto MAX16 n (ends (input text w) call_end s)
  to_callee z e = rw (← test 1 (omega arith) v.parts, eq-eqb _ _ z) (record { upto = omega (arith, v.to.upto) })

  pub to_argument : (p.parts ≡ 1 → ⊥) → Upto MAX16 p.to (ends (input text w) call_end s)
  to_argument z = rw (← test 1 (omega arith) v.parts, ne_eqb _ _ z) v.to

module _ {text w : List ℕ} {p : Cursor} where
  -- a node of what was gathered
  pub gathers : {k n m : ℕ} {a : Start} {b : End} {r : Cursor} {T U : List ℕ} → Closed k n m p T r U → Bounds n m p.parts p.mark T
      → ((s : S) → Represents p s → Upto MAX16 n (starts (input text w) a s) × Upto MAX16 m (ends (input text w) b s)) → Reads (step (close k a b)) text w p T r U
  unfolding yields
  gathers (not_closed n e f) l h = still n (status_as e refl) (ap reached e) f
  gathers {k} {a = a} {b = b} (closes z e f) l h =
      reads z (λ s v.
      let (i, j) = h s v in
      matched (closed k (starts (input text w) a s) (ends (input text w) b s) s) (status_as e z) (nest_of e) (seen_as e (represents_closed k i j v)) (attempt_from refl (sym (ap reached e)) (attempt_step tt))
      (λ H. rw (f, entry_is k 0 l.start_fits l.end_fits l.children_fits l.value_fits i j v.parts v.mark) (holds_more _ (omega arith) v.count H)))

  pub ticks : {m : ℕ} {T : List ℕ} → p.status ≡ Reading → m ≡ up MAX64 p.mark → Reads (step tick) text w p T (with_mark m p) T
  unfolding yields
  ticks z e =
      reads z (λ s v. matched (marked (suc s.frame.mark) s) z refl (represents_mark (rw e (upto_up v.mark)) v) (attempt_step tt) (λ H. H))

  pub is_alone : {T : List ℕ} → p.parts ≡ 1 → Reads (step alone) text w p T p T
  unfolding yields
  is_alone e =
      elim (reading? p.status) [
        | yes z ↦ reads z (λ s v. matched s z refl v (attempt_as (rw (← test 1 (omega arith) v.parts, eq-eqb _ _ e)) (attempt_step tt)) (λ H. H))
        | no n ↦ idle n
      ]

  pub not_alone : {r : Cursor} {T : List ℕ} → (p.parts ≡ 1 → ⊥) → Halted Failed p r → Reads (step alone) text w p T r T
  unfolding yields
  not_alone e (was_halted n f) = still n (status_as f refl) (ap reached f) refl
  not_alone e (halts z f) =
      reads z (λ s v. failed (status_as f refl) (attempt_from refl (sym (ap reached f)) (attempt_as (rw (← test 1 (omega arith) v.parts, ne_eqb _ _ e)) (attempt_step tt))) (λ H. H))
