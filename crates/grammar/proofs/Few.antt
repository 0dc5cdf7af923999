-- A tree has no more nodes than the text has tokens. Assumes nothing.
use Prim.Native.Nat.{ℕ, suc, min, ◌+◌, ◌-◌, ◌≤◌}
use mathlib.Core.Path.{◌≡◌, refl}
use mathlib.Core.List.{List, [], ◌∷◌, ◌++◌}
use native.Mathlib.Omega.{arith}
use lib.Dec.{eqb}
use lib.ListN.{length, length-append}
use borrow.Author.Tests.{eqb-true}
use Rattle.patterns.proofs.Tests.{of_T}
use Rattle.grammar.specs.Derive.{Token, Node, Input, token, R, Act, skip, leaf, named, literal, count, index, mark, take, close, tick, alone, done}
use Rattle.grammar.specs.Derive.{G, step, ◌&◌, ◌or◌, many, both, rule, S, Out, next, act, yields, Derives, stepped, and_not, and_then, or_first, or_else, no_more, one_more, agreed, ruled}
use Rattle.grammar.specs.Grammar.{body, Tree}
use Rattle.grammar.proofs.Bodies.{every}
use Rattle.grammar.proofs.On.{On, off, on, on_of, on_map, on_if, on_agree, on_leave}

-- A token taken pays for one node. spare: the nodes paid for and not made; wrong: 0 if every node made was paid for.
record Know : Type 0 where
  spare : ℕ
  wrong : ℕ

abbrev know : ℕ → ℕ → Know
know c w = record { spare = c; wrong = w }

-- c less the node that is made of a token, if one is
abbrev by_act : Act → ℕ → ℕ
by_act skip c = c
by_act (leaf k v) c = c - 1
by_act named c = c - 1
by_act literal c = c - 1
by_act count c = c - 1
by_act index c = c
by_act (mark m) c = c

-- a rule r may make σ r nodes more than it takes tokens
abbrev flow : (R → ℕ) → G → Know → Know
flow σ (step (take k a)) d = know (by_act a (suc d.spare)) d.wrong
flow σ (step (close k a b)) d = know (d.spare - 1) ((1 - d.spare) + d.wrong)
flow σ (step tick) d = d
flow σ (step alone) d = d
flow σ (step done) d = d
flow σ (g & h) d = flow σ h (flow σ g d)
flow σ (g or h) d = let a = flow σ g d in let b = flow σ h d in know (min a.spare b.spare) (a.wrong + b.wrong)
flow σ (many g) d = let a = flow σ g d in know d.spare ((d.spare - a.spare) + (a.wrong + d.wrong))
flow σ (both g h) d = flow σ h d
flow σ (rule r) d = know (d.spare - σ r) ((σ r - d.spare) + d.wrong)

-- 1 for an absent return type, and for the step of a `for`, which may be two nodes over one token; else 0
abbrev owes : R → ℕ
owes r = 1 - (flow (λ q. 0) (body r) (know 1 0)).spare

-- every rule passes
right : (r : R) → (flow owes (body r) (know (owes r) 0)).wrong ≡ 0
unfolding body
right r = eqb-true _ 0 (of_T _ (every (λ r. eqb (flow owes (body r) (know (owes r) 0)).wrong 0) (λ n. tt) r))

-- i tokens pay for the nodes ns, for c more, and for n outside the construct
record Paid (n c i : ℕ) (ns : List Node) : Type 0 where
  paid : n + c + length ns ≤ i

abbrev Pays : ℕ → ℕ → S → Type 0
Pays n c s = Paid n c s.at s.nodes

makes : {n c i : ℕ} {ns : List Node} (a : Node) → 1 ≤ c → Paid n c i ns → Paid n (c - 1) i (ns ++ (a ∷ []))
makes a l p = record { paid = rw length-append (omega arith) }

acts : {n c : ℕ} (x : Input) (t : Token) (s : S) → 1 ≤ c → Pays n c s → (a : Act) → On (Pays n (by_act a c)) (act x a t s)
acts x t s l p skip = on p
acts x t s l p (leaf k v) = on (makes _ l p)
acts x t s l p named = on (makes _ l p)
acts x t s l p literal = on (makes _ l p)
acts x t s l p count = on_if (eqb t.suffix 0) (λ e. on (makes _ l p))
acts x t s l p index = on_if (eqb t.suffix 0) (λ e. on p)
acts x t s l p (mark m) = on p

-- a state derived is as `flow` says
flows : {x : Input} {g : G} {s : S} {q : Out} (n : ℕ) (d : Know) → (d.wrong ≡ 0 → Pays n d.spare s) → Derives body x g s q → (flow owes g d).wrong ≡ 0 → On (Pays n (flow owes g d).spare) q
unfolding yields
flows {x = x} {s = s} n d h (stepped {p = take k a}) w =
    let p = h w in
    let t = token x s.at in
    on_if (eqb t.kind k) (λ e. acts x t (next s) (omega arith) (omega arith) a)
flows n d h (stepped {p = close k a b}) w = on (makes _ (omega arith) (h (omega arith)))
flows n d h (stepped {p = tick}) w = on (h w)
flows {s = s} n d h (stepped {p = alone}) w = on_if (eqb s.frame.parts 1) (λ e. on (h w))
flows n d h (stepped {p = done}) w = on (h w)
flows n d h (and_not a) w = off
flows n d h (and_then {g = g} a c) w = flows n (flow owes g d) (λ u. on_of (flows n d h a u)) c w
flows n d h (or_first a) w = on_map (λ t p. omega arith) (flows n d h a (omega arith))
flows n d h (or_else a c) w = on_map (λ t p. omega arith) (flows n d h c (omega arith))
flows n d h (no_more a) w = on (h (omega arith))
flows n d h (one_more a c) w = flows n d (λ u. let p = on_of (flows n d h a (omega arith)) in omega arith) c w
flows n d h (agreed {o = q} a c) w = on_agree q (flows n d h c w)
flows {s = s} n d h (ruled {r = r} a) w =
    let p = h (omega arith) in
    on_leave s (λ t k. omega arith) (flows (n + (d.spare - owes r)) (know (owes r) 0) (λ u. omega arith) a (right r))

pub few : {x : Input} {ns : List Node} {us : List Token} → Tree x ns us → length ns ≤ length x.tokens
unfolding body
few a = let p = on_of (flows 0 (know 0 0) (λ u. omega arith) a.derived refl) in omega (arith, rw (a.these, a.all) at p.paid)
