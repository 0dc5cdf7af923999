-- A name or a numeral alone, read with no look at what it could have been. Assumes nothing.
use mathlib.Core.Path.{◌≡◌, refl, sym, ap, ◌∙◌}
use mathlib.Core.Bool.{true, false}
use mathlib.Core.List.{List, [], ◌∷◌}
use Prim.Native.Nat.{ℕ, suc, ◌+◌, ◌≤◌, ◌<◌, max}
use native.Mathlib.Omega.{arith}
use Rattle.tables.specs.Tables.{Token, token_at}
use Rattle.tables.specs.TokenKinds.{NUMBER, IDENT, NOT, MINUS, LPAREN, LBRACE, LBRACK, DOT}
use Rattle.tables.proofs.Laws.{tokens_at}
use Rattle.grammar.specs.Kinds.{Name, Identifier}
use Rattle.grammar.specs.Derive.{Input, token, unary, Act, leaf, literal, take, step, rule, S, Out, got, part, next, act, enter, leave, here}
use Rattle.grammar.specs.Grammar.{body, atom, numeral}
use Rattle.grammar.proofs.Unique.{unique, apart}
use Rattle.grammar.proofs.First.{Absent, misses}
use Rattle.cursor.specs.Entries.{input}
use Rattle.cursor.specs.Read.{LIMIT, Attempt, Exceeds, Represents, Reads}
use Rattle.cursor.specs.Steps.{continues}
use Rattle.cursor.specs.declared.Cursor.{Cursor}
use Rattle.cursor.proofs.Attempts.{within_one, attempt_as, attempt_and_not, attempt_and_then, attempt_or_first, attempt_or_else, attempt_no_more, attempt_rule, attempt_take, attempt_there, attempt_absent}
use Rattle.cursor.proofs.Attempts.{exceeds_and_left, exceeds_or_left, exceeds_or_right, exceeds_rule, exceeds_take}
use Rattle.cursor.proofs.Laws.{turned, miss, as_deep}
use Rattle.cursor.proofs.Falls.{true_false}

-- a token that continues no name or numeral before it
record Over (k : ℕ) : Type 0 where
  no_call : k ≡ LPAREN → ⊥
  no_field : k ≡ DOT → ⊥
  no_index : k ≡ LBRACK → ⊥
  no_struct : k ≡ LBRACE → ⊥

over : {k : ℕ} → false ≡ continues k → Over k
over {k} e = record { no_call = λ f. never (rw f at e); no_field = λ f. never (rw f at e); no_index = λ f. never (rw f at e); no_struct = λ f. never (rw f at e) }
  where
    never : false ≡ true → ⊥
    never e = true_false (sym e)

module _ {x : Input} {n : ℕ} where
  atom_name : {j : ℕ} {s : S} {a b : ℕ} → (token x s.at).kind ≡ IDENT → j ≡ (token x (suc s.at)).kind → Over j → n ≤ LIMIT → s.at ≤ a → b ≡ max (s.at + 1) a
      → Attempt x atom n s (act x (leaf Identifier 0) (token x s.at) (next s)) a b
  atom_name e f o h l q =
      attempt_or_else
      (miss (sym e) (omega arith) tt)
      (attempt_or_else
      (miss (sym e) (omega arith) tt)
      (attempt_or_else
      (miss (sym e) (omega arith) tt)
      (attempt_or_else
      (miss (sym e) (omega arith) tt)
      (attempt_or_else
      (attempt_and_then (attempt_there (leaf Name 0) e h l q) (attempt_and_not (attempt_absent (λ q. o.no_struct (f ∙ q)))))
      (attempt_or_else
      (miss (sym e) (omega arith) tt)
      (attempt_or_else
      (miss (sym e) (omega arith) tt)
      (attempt_or_first (attempt_there (leaf Identifier 0) e h (omega arith) (omega arith)))))))))

  -- an atom alone is a whole operand
  operand : {k j : ℕ} {s t : S} {b c : ℕ} → k ≡ (token x s.at).kind → Absent k (NOT ∷ MINUS ∷ []) → j ≡ (token x t.at).kind → Over j → Attempt x atom n (enter s) (got t) b c → Attempt x (rule unary) n s (leave s (got t)) b c
  unfolding body
  operand e a f o c =
      attempt_rule
      (as_deep refl)
      (attempt_or_else (miss e a tt) (attempt_and_then c (attempt_no_more (miss f (o.no_call, (o.no_field, (o.no_field, (o.no_index, tt)))) tt))))

  -- too deep a token is that for the operand
  name_exceeds : {s : S} → (token x s.at).kind ≡ IDENT → LIMIT < n → Exceeds x (rule unary) n s
  unfolding body
  name_exceeds e l =
      exceeds_rule
      (as_deep refl)
      (exceeds_or_right
      (misses (sym e) (omega arith) tt)
      (exceeds_and_left
      (exceeds_or_right
      (misses (sym e) (omega arith) tt)
      (exceeds_or_right
      (misses (sym e) (omega arith) tt)
      (exceeds_or_right
      (misses (sym e) (omega arith) tt)
      (exceeds_or_right (misses (sym e) (omega arith) tt) (exceeds_or_left (exceeds_and_left (exceeds_take e l)))))))))

  numeral_exceeds : {s : S} → (token x s.at).kind ≡ NUMBER → LIMIT < n → Exceeds x (rule unary) n s
  unfolding body
  numeral_exceeds e l =
      exceeds_rule (as_deep refl) (exceeds_or_right (misses (sym e) (omega arith) tt) (exceeds_and_left (exceeds_or_left (exceeds_take e l))))

  in_limit : {k : ℕ} {a : Act} {s : S} {o : Out} {b c : ℕ} → (token x s.at).kind ≡ k → Attempt x (step (take k a)) n s o b c → n ≤ LIMIT
  in_limit {s = s} e c = c.within.limit s.at n (here e refl refl)

  -- how far that comes
  goes_to : {k : ℕ} {a : Act} {s : S} {o : Out} {b c : ℕ} → (token x s.at).kind ≡ k → s.at ≤ b → Attempt x (step (take k a)) n s o b c → c ≡ max (s.at + 1) b
  goes_to e l c = within_one c.within (attempt_take e (in_limit e c) l refl).within

  -- and what it comes to
  comes_to : {k : ℕ} {a : Act} {s : S} {o : Out} {b c : ℕ} → (token x s.at).kind ≡ k → Attempt x (step (take k a)) n s o b c → act x a (token x s.at) (next s) ≡ o
  comes_to {a = a} {s = s} e c = unique (attempt_there {a = s.at} a e (in_limit e c) (omega arith) refl).derived c.derived

  past_limit : {k : ℕ} {a : Act} {s : S} → Exceeds x (step (take k a)) n s → LIMIT < n
  past_limit c = elim c.takes [ here e f h ↦ omega (arith, c.above) ]

kind_is : (text w : List ℕ) {l : ℕ} (i : ℕ) → l ≡ (token_at w i).kind → l ≡ (token (input text w) i).kind
kind_is text w i e = e ∙ ap (λ (t : Token). t.kind) (sym (tokens_at w i))

next_is : (text w : List ℕ) {j : ℕ} {p : Cursor} {s : S} → j ≡ (token_at w (p.at + 1)).kind → Represents p s → j ≡ (token (input text w) (suc s.at)).kind
next_is text w {p = p} {s = s} f v = let e : p.at + 1 ≡ suc s.at = omega (arith, v.at) in kind_is text w (suc s.at) (rw e at f)

module _ {text w : List ℕ} {p q : Cursor} {T U : List ℕ} {k j : ℕ} where
  pub name_alone : k ≡ (token_at w p.at).kind → j ≡ (token_at w (p.at + 1)).kind → false ≡ continues j → k ≡ IDENT → Reads (step (take IDENT (leaf Identifier 0))) text w p T q U → Reads (rule unary) text w p T q U
  unfolding leave part
  name_alone e f d i y =
      let o = over d in
      turned (λ s v.
      let a : (token (input text w) s.at).kind ≡ IDENT = sym (kind_is text w s.at (rw v.at at e)) ∙ i in
      record {
        matches = λ z t b c. attempt_as (comes_to a c) (operand (sym a) (omega arith) (next_is text w f v) o (atom_name a (next_is text w f v) o (in_limit a c) (omega (arith, v.at)) (goes_to a (omega (arith, v.at)) c)));
        fails = λ z b c. apart (sym (comes_to a c));
        exceeds = λ c. name_exceeds a (past_limit c);
      }) y

  pub numeral_alone : k ≡ (token_at w p.at).kind → j ≡ (token_at w (p.at + 1)).kind → false ≡ continues j → k ≡ NUMBER → Reads (numeral literal) text w p T q U → Reads (rule unary) text w p T q U
  unfolding leave part
  numeral_alone e f d i y =
      let o = over d in
      turned (λ s v.
      let a : (token (input text w) s.at).kind ≡ NUMBER = sym (kind_is text w s.at (rw v.at at e)) ∙ i in
      record {
        matches = λ z t b c. attempt_as (comes_to a c) (operand (sym a) (omega arith) (next_is text w f v) o (attempt_or_first (attempt_there literal a (in_limit a c) (omega (arith, v.at)) (goes_to a (omega (arith, v.at)) c))));
        fails = λ z b c. apart (sym (comes_to a c));
        exceeds = λ c. numeral_exceeds a (past_limit c);
      }) y
