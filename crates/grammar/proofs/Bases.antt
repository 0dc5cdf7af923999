-- Count and the three literals have the base that the bytes of their numeral say, every other node has 0. Assumes nothing.
use Prim.Native.Nat.{ℕ, ◌-◌}
use mathlib.Core.Path.{◌≡◌, refl, sym, ◌∙◌}
use mathlib.Core.Bool.{Bool, true, false, cond, not}
use mathlib.Core.List.{List}
use lib.Dec.{T, eqb}
use lib.ListN as L
use borrow.Author.Tests.{eqb-true, not-true}
use Rattle.patterns.specs.Bytes.{within}
use Rattle.patterns.proofs.Tests.{of_T}
use Rattle.tables.specs.TokenKinds.{NUMBER}
use Rattle.grammar.specs.Kinds.{Count, LiteralU32}
use Rattle.grammar.specs.Derive.{Token, Node, Input, token, spelling, literal_kind, R, Act, skip, leaf, named, literal, count, index, mark, Step, take, close, tick, alone, done, S, next, act, yields}
use Rattle.grammar.specs.Grammar.{body, Tree}
use Rattle.grammar.proofs.Bodies.{every}
use Rattle.grammar.proofs.On.{On, on, on_if}
use Rattle.grammar.proofs.Keeps.{passes, tree_keeps}
use Rattle.grammar.proofs.Spans.{Each, no_node, add}

-- f is what bytes say of a base
pub record Based (x : Input) (f : List ℕ → ℕ) (n : Node) : Type 0 where
  pub is : n.base ≡ cond (within Count LiteralU32 n.kind) (f (L.take (n.end - n.start) (L.drop n.start x.text))) 0

-- no node of these four kinds is made of anything but a numeral: every rule passes
by_act : ℕ → Act → Bool
by_act k skip = true
by_act k (leaf n v) = not (within Count LiteralU32 n)
by_act k named = true
by_act k literal = eqb k NUMBER
by_act k count = eqb k NUMBER
by_act k index = true
by_act k (mark m) = true

tidy : Step → Bool
tidy (take k a) = by_act k a
tidy (close k a b) = not (within Count LiteralU32 k)
tidy tick = true
tidy alone = true
tidy done = true

tidy_body : (r : R) → T (passes tidy (body r))
unfolding passes tidy by_act body
tidy_body r = every (λ r. passes tidy (body r)) (λ n. tt) r

kind_of_literal : (n : ℕ) → within Count LiteralU32 (literal_kind n) ≡ true
kind_of_literal n = go (eqb n 1) (eqb n 2)
  where
    go : (a b : Bool) → within Count LiteralU32 (cond a 8 (cond b 9 7)) ≡ true
    go true b = refl
    go false true = refl
    go false false = refl

plain : {x : Input} {f : List ℕ → ℕ} (n : Node) → T (not (within Count LiteralU32 n.kind)) → n.base ≡ 0 → Based x f n
plain n p e = record { is = e ∙ sym (rw (not-true (within Count LiteralU32 n.kind) (of_T _ p))) }

carried : {x : Input} {f : List ℕ → ℕ} (n : Node) → within Count LiteralU32 n.kind ≡ true → n.base ≡ f (L.take (n.end - n.start) (L.drop n.start x.text)) → Based x f n
carried n p e = record { is = e ∙ sym (rw p) }

module _ (x : Input) (f : List ℕ → ℕ) (told : (i : ℕ) → (token x i).kind ≡ NUMBER → (token x i).base ≡ f (spelling x (token x i))) where
  abbrev All : S → Type 0
  All s = Each (Based x f) s.nodes

  acts : (s : S) → All s → (k : ℕ) (a : Act) → T (by_act k a) → (token x s.at).kind ≡ k → On All (act x a (token x s.at) (next s))
  unfolding by_act
  acts s h k skip p e = on h
  acts s h k (leaf n v) p e = on (add h (plain _ p refl))
  acts s h k named p e = on (add h (plain _ tt refl))
  acts s h k literal p e = on (add h (carried _ (kind_of_literal (token x s.at).suffix) (told s.at (e ∙ eqb-true k NUMBER (of_T _ p)))))
  acts s h k count p e = on_if (eqb (token x s.at).suffix 0) (λ q. on (add h (carried _ refl (told s.at (e ∙ eqb-true k NUMBER (of_T _ p))))))
  acts s h k index p e = on_if (eqb (token x s.at).suffix 0) (λ q. on h)
  acts s h k (mark m) p e = on h

  runs : (p : Step) (s : S) → T (tidy p) → All s → On All (yields x p s)
  unfolding yields tidy
  runs (take k a) s z h = on_if (eqb (token x s.at).kind k) (λ e. acts s h k a z (eqb-true (token x s.at).kind k e))
  runs (close k a b) s z h = on (add h (plain _ z refl))
  runs tick s z h = on h
  runs alone s z h = on_if (eqb s.frame.parts 1) (λ e. on h)
  runs done s z h = on h

  pub bases : {ns : List Node} {us : List Token} → Tree x ns us → Each (Based x f) ns
  bases a = rw a.these at (tree_keeps tidy tidy_body All runs (λ s h. h) (λ s t h. h) no_node a)
