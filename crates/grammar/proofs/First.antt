-- With which kinds of token a grammar can begin: before any other it takes nothing, and derives none unless it may come to nothing. Assumes nothing.
use Prim.Native.Nat.{ℕ}
use mathlib.Core.Path.{◌≡◌, refl, sym, subst, ◌∙◌}
use mathlib.Core.Bool.{Bool, true, false, cond, not, ◌&&◌, ◌||◌}
use mathlib.Core.List.{List, [], ◌∷◌, ◌++◌}
use lib.Dec.{T, eqb}
use borrow.Author.Tests.{eq-eqb, ne_eqb}
use Rattle.tables.specs.TokenKinds.{NUMBER, CONST, FALSE, FN, IF, LET, NEW, RETURN, STRUCT, TRUE, WHILE, LOOP, FOR, BREAK, CONTINUE, USE, IDENT, NOT, MINUS, LPAREN, LBRACE, LBRACK}
use Rattle.grammar.specs.Derive.{Input, token, R, type, alloc, pattern, expr, stmt, unary, init_let, init_action, for_step, param, unit, item, level}
use Rattle.grammar.specs.Derive.{Step, take, close, tick, alone, done, G, step, ◌&◌, ◌or◌, many, both, rule, S, Out, got, none, yields, agree, leave}
use Rattle.grammar.specs.Derive.{Derives, stepped, and_not, and_then, or_first, or_else, no_more, one_more, agreed, ruled}
use Rattle.grammar.specs.Derive.{Takes, here, and_left, and_right, or_left, or_right, now, later, both_first, inside}
use Rattle.grammar.specs.Grammar.{body, nests}
use Rattle.patterns.proofs.Tests.{and_l, and_r, of_T, implies, modus}
use Rattle.grammar.proofs.Bodies.{every}
use Rattle.grammar.proofs.Unique.{apart}
use Rattle.grammar.proofs.On.{On, off, on, on_of, on_map, on_if, on_agree, on_leave}
use Rattle.grammar.proofs.Progress.{sane?, sane_of}
use Rattle.grammar.proofs.Total.{Some, some}
use Rattle.grammar.proofs.Whole.{solid, derives}

-- an expression's
abbrev operand : List ℕ
operand = NOT ∷ MINUS ∷ NUMBER ∷ TRUE ∷ FALSE ∷ NEW ∷ IDENT ∷ LBRACK ∷ LPAREN ∷ []

-- the kinds with which a rule can begin
abbrev pub heads : R → List ℕ
heads type = IDENT ∷ LBRACK ∷ LPAREN ∷ []
heads alloc = IDENT ∷ LPAREN ∷ []
heads pattern = LPAREN ∷ IDENT ∷ []
heads expr = operand
heads stmt = LBRACE ∷ IF ∷ LOOP ∷ WHILE ∷ FOR ∷ BREAK ∷ CONTINUE ∷ LET ∷ CONST ∷ RETURN ∷ operand
heads unary = operand
heads init_let = LET ∷ []
heads init_action = operand
heads for_step = operand
heads param = IDENT ∷ []
heads unit = []
heads item = FN ∷ STRUCT ∷ CONST ∷ USE ∷ []
heads (level n) = operand

-- may come to nothing
abbrev pub empties : G → Bool
empties (step (take k a)) = false
empties (step (close k a b)) = true
empties (step tick) = true
empties (step alone) = true
empties (step done) = true
empties (g & h) = empties g && empties h
empties (g or h) = empties g || empties h
empties (many g) = true
empties (both g h) = empties g
empties (rule r) = not (solid r)

abbrev pub firsts : G → List ℕ
firsts (step (take k a)) = k ∷ []
firsts (step (close k a b)) = []
firsts (step tick) = []
firsts (step alone) = []
firsts (step done) = []
firsts (g & h) = firsts g ++ cond (empties g) (firsts h) []
firsts (g or h) = firsts g ++ firsts h
firsts (many g) = firsts g
firsts (both g h) = firsts g ++ firsts h
firsts (rule r) = heads r

abbrev pub Absent : ℕ → List ℕ → Type 0
Absent k [] = Unit {0}
Absent k (h ∷ l) = (k ≡ h → ⊥) × Absent k l

abbrev pub absent? : ℕ → List ℕ → Bool
absent? k [] = true
absent? k (h ∷ l) = not (eqb k h) && absent? k l

abbrev within? : List ℕ → List ℕ → Bool
within? [] l = true
within? (k ∷ m) l = not (absent? k l) && within? m l

differs : (k h : ℕ) → T (not (eqb k h)) → k ≡ h → ⊥
differs k h t e = subst (λ (b : Bool). T (not b)) (eq-eqb k h e) t

pub absent_of : (k : ℕ) (l : List ℕ) → T (absent? k l) → Absent k l
absent_of k [] t = tt
absent_of k (h ∷ l) t = (differs k h (and_l (not (eqb k h)) (absent? k l) t), absent_of k l (and_r (not (eqb k h)) (absent? k l) t))

absent_T : (k : ℕ) (l : List ℕ) → Absent k l → T (absent? k l)
absent_T k [] a = tt
absent_T k (h ∷ l) a = rw (ne_eqb k h a.0) (absent_T k l a.1)

fewer : (k : ℕ) (m l : List ℕ) → T (within? m l) → Absent k l → Absent k m
fewer k [] l t a = tt
fewer k (j ∷ m) l t a = (
  λ e. subst (λ (i : ℕ). T (not (absent? i l)) → ⊥) e (λ u. subst (λ (b : Bool). T (not b)) (of_T (absent? k l) (absent_T k l a)) u) (and_l (not (absent? j l)) (within? m l) t),
  fewer k m l (and_r (not (absent? j l)) (within? m l) t) a,
)

absent_l : (k : ℕ) (m l : List ℕ) → Absent k (m ++ l) → Absent k m
absent_l k [] l a = tt
absent_l k (j ∷ m) l a = (a.0, absent_l k m l a.1)

absent_r : (k : ℕ) (m l : List ℕ) → Absent k (m ++ l) → Absent k l
absent_r k [] l a = a
absent_r k (j ∷ m) l a = absent_r k m l a.1

-- the table says no less than the rules
abbrev held : R → Bool
held r = within? (firsts (body r)) (heads r) && implies (solid r) (not (empties (body r)))

table : (r : R) → T (held r)
unfolding body
table r = every held (λ n. tt) r

firsts_of : (k : ℕ) (r : R) → Absent k (heads r) → Absent k (firsts (body r))
firsts_of k r a = fewer k (firsts (body r)) (heads r) (and_l (within? (firsts (body r)) (heads r)) _ (table r)) a

-- no token was taken from s on, and there is no outcome unless e
record Idle (e : Bool) (s : S) (o : Out) : Type 0 where
  here : On (λ t. t.at ≡ s.at) o
  fails : T (not e) → o ≡ none

idle_step : (x : Input) (p : Step) (s : S) → Absent (token x s.at).kind (firsts (step p)) → Idle (empties (step p)) s (yields x p s)
unfolding yields
idle_step x (take k a) s m = let e = ne_eqb (token x s.at).kind k m.0 in record { here = rw e off; fails = λ t. rw e refl }
idle_step x (close k a b) s m = record { here = on refl; fails = λ t. absurd t }
idle_step x tick s m = record { here = on refl; fails = λ t. absurd t }
idle_step x alone s m = record { here = on_if (eqb s.frame.parts 1) (λ e. on refl); fails = λ t. absurd t }
idle_step x done s m = record { here = on refl; fails = λ t. absurd t }

either : {s : S} {o : Out} (b c : Bool) → (T (not b) → T (not c) → o ≡ none) → On (λ t. t.at ≡ s.at) o → Idle (b || c) s o
either true c f h = record { here = h; fails = λ t. absurd t }
either false c f h = record { here = h; fails = f tt }

abbrev next_kind : Input → S → ℕ
next_kind x s = (token x s.at).kind

follows : {s t : S} {o : Out} (b c : Bool) → Idle b s (got t) → Idle c t o → Idle (b && c) s o
follows true c i j = record { here = on_map (λ u e. e ∙ on_of i.here) j.here; fails = j.fails }
follows false c i j = apart (sym (i.fails tt))

-- what came to nothing leaves the same token for what follows
after : {s t : S} (x : Input) (b : Bool) (m l : List ℕ) → Absent (next_kind x s) (m ++ cond b l []) → Idle b s (got t) → Absent (next_kind x t) l
after x true m l a i = rw (on_of i.here) (absent_r _ m l a)
after x false m l a i = apart (sym (i.fails tt))

module _ {x : Input} where
  idle : {g : G} {s : S} {o : Out} → Derives body x g s o → Absent (next_kind x s) (firsts g) → Idle (empties g) s o
  unfolding agree leave
  idle (stepped {p = p} {s = s}) m = idle_step x p s m
  idle (and_not a) m = record { here = off; fails = λ t. refl }
  idle (and_then {g = g} {h = h} a c) m =
      let i = idle a (absent_l _ (firsts g) _ m) in
      follows (empties g) (empties h) i (idle c (after x (empties g) (firsts g) (firsts h) m i))
  idle (or_first {g = g} {h = h} a) m = let i = idle a (absent_l _ (firsts g) _ m) in either (empties g) (empties h) (λ t u. i.fails t) i.here
  idle (or_else {g = g} {h = h} a c) m = let i = idle c (absent_r _ (firsts g) _ m) in either (empties g) (empties h) (λ t u. i.fails u) i.here
  idle (no_more a) m = record { here = on refl; fails = λ t. absurd t }
  idle (one_more {g = g} a c) m =
      let i = on_of (idle a m).here in
      record { here = on_map (λ u e. e ∙ i) (idle c (rw i m)).here; fails = λ t. absurd t }
  idle (agreed {g = g} {o = o} {q = q} a c) m =
      record { here = on_agree o (idle c (absent_r _ (firsts g) _ m)).here; fails = λ t. rw ((idle a (absent_l _ (firsts g) _ m)).fails t) (neither q) }
    where
      neither : (q : Out) → agree none q ≡ none
      neither (got t) = refl
      neither none = refl
  idle {s = s} (ruled {r = r} a) m =
      let i = idle a (firsts_of _ r m) in
      record { here = on_leave s (λ t e. e) i.here; fails = λ t. rw (i.fails (modus (solid r) _ (and_r (within? (firsts (body r)) (heads r)) _ (table r)) (twice (solid r) t))) refl }
    where
      twice : (b : Bool) → T (not (not b)) → T b
      twice true t = tt
      twice false t = t

  idly : {i j : ℕ} {g : G} {n : ℕ} {s : S} → Takes body x nests i j g n s → Absent (next_kind x s) (firsts g) → ⊥
  idly (here f _ _) m = m.0 f
  idly (and_left {g = g} t) m = idly t (absent_l _ (firsts g) _ m)
  idly (and_right {g = g} {h = h} d t) m = idly t (after x (empties g) (firsts g) (firsts h) m (idle d (absent_l _ (firsts g) _ m)))
  idly (or_left {g = g} t) m = idly t (absent_l _ (firsts g) _ m)
  idly (or_right {g = g} d t) m = idly t (absent_r _ (firsts g) _ m)
  idly (now t) m = idly t m
  idly (later d t) m = idly t (rw (on_of (idle d m).here) m)
  idly (both_first {g = g} t) m = idly t (absent_l _ (firsts g) _ m)
  idly (inside {r = r} t) m = idly t (firsts_of _ r m)

  -- g fails before a token that it cannot begin with, if it may not come to nothing
  pub misses : {k : ℕ} {g : G} {s : S} → k ≡ (token x s.at).kind → Absent k (firsts g) → T (not (empties g) && sane? solid g) → Derives body x g s none
  misses {g = g} {s = s} e m t = go (derives x g s (sane_of solid g (and_r (not (empties g)) (sane? solid g) t)))
    where
      go : Some body x g s → Derives body x g s none
      go (some d) = rw ((idle d (rw e at m)).fails (and_l (not (empties g)) (sane? solid g) t)) at d

  -- and no attempt at it takes one
  pub untaken : {k i j n : ℕ} {g : G} {s : S} → k ≡ (token x s.at).kind → Absent k (firsts g) → Takes body x nests i j g n s → ⊥
  untaken e m t = idly t (rw e at m)
