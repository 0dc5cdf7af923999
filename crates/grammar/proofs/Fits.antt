-- The fields of every node fit their widths: nothing is cut off where a node is stored in 16 bytes.
-- Assumes nothing.
use Prim.Native.Nat.{ℕ, zero, suc, min, ◌+◌, ◌-◌, ◌^◌, ◌≤◌, ◌<◌}
use mathlib.Core.Path.{◌≡◌, refl}
use mathlib.Core.Bool.{Bool, true, false, cond}
use mathlib.Core.List.{List}
use native.Mathlib.Omega.{arith}
use lib.Dec.{eqb}
use lib.ListN.{length}
use borrow.Author.Tests.{eqb-true}
use Rattle.patterns.specs.Bytes.{bytes, same}
pub use Rattle.tables.proofs.Laws.{NodeFits}
use Rattle.patterns.proofs.Tests.{T_of, of_T}
use Rattle.grammar.specs.Kinds.{Named, Count, Literal, LiteralFelt, LiteralU32}
use Rattle.grammar.specs.Derive.{Token, Node, Input, token, spelling, type_name, literal_kind, R, Act, skip, leaf, named, literal, count, index, mark}
use Rattle.grammar.specs.Derive.{Step, take, close, tick, alone, done, G, step, ◌&◌, ◌or◌, many, both, rule, S, Out, got, none}
use Rattle.grammar.specs.Derive.{part, next, marked, emit, starts, ends, closed, act, yields, leave, Derives, stepped, and_not, and_then, or_first, or_else, no_more, one_more, agreed, ruled}
use Rattle.grammar.specs.Grammar.{body, Tree}
use Rattle.grammar.proofs.Bodies.{every}
use Rattle.grammar.proofs.On.{On, off, on, on_of, on_map, on_if, on_agree, left, is_token}
use Rattle.grammar.proofs.Progress.{grows}
use Rattle.grammar.proofs.Whole.{solid, rule_eats}
use Rattle.grammar.proofs.Spans.{Ordered, Within, Each, no_node, node, add, pick_le, spans}

each_apply : {P Q : Node → Type 0} {ns : List Node} → Each (λ a. P a → Q a) ns → Each P ns → Each Q ns
each_apply no_node no_node = no_node
each_apply (node f l) (node p m) = node (f p) (each_apply l m)

-- each token has a byte of its own
ends_past : {x : Input} → Ordered x → (i : ℕ) → i < length x.tokens → i < (token x i).end
ends_past o zero l = omega (arith, o.some 0 l)
ends_past o (suc i) l = omega (arith, ends_past o i (omega arith), o.apart i l, o.some (suc i) l)

type_fits : (w : List ℕ) → type_name w < 2 ^ 64
unfolding type_name
type_fits w =
    let u : ℕ = cond (same (bytes "u32") w) 2 3 in
    omega (arith, pick_le (same (bytes "felt") w) 0 (cond (same (bytes "bool") w) 1 u), pick_le (same (bytes "bool") w) 1 u, pick_le (same (bytes "u32") w) 2 3)

literal_fits : (n : ℕ) → literal_kind n < 256
literal_fits n = omega (arith, pick_le (eqb n 1) LiteralFelt (cond (eqb n 2) LiteralU32 Literal), pick_le (eqb n 2) LiteralU32 Literal)

-- a rule takes a token, unless it is `unit`
farther : {x : Input} {s t : S} (r : R) (c : Bool) → solid r ≡ c → Derives body x (rule r) s (got t) → cond c 1 0 + s.at ≤ t.at
farther r true e d = omega (arith, on_of (rule_eats r (T_of e) d))
farther r false e d = omega (arith, on_of (grows d))

-- What is known at a place of a grammar, as numbers; `Sound` says what they mean. room: for parts and ticks, 1 more for each token that leaves no node;
-- counted: 0 if a token has set the mark, else 2 ^ 64; wrong: 0 if all nodes so far fit.
record Know : Type 0 where
  room : ℕ
  counted : ℕ
  wrong : ℕ

abbrev know : ℕ → ℕ → ℕ → Know
know r c w = record { room = r; counted = c; wrong = w }

abbrev wronged : ℕ → Know → Know
wronged w d = know d.room d.counted (w + d.wrong)

abbrev by_act : Act → Know → Know
by_act skip d = know (suc d.room) d.counted 0
by_act (leaf k v) d = know d.room d.counted ((suc k - 256) + (suc v - 2 ^ 64))
by_act named d = d
by_act literal d = d
by_act count d = d
by_act index d = know (suc d.room) 0 0
by_act (mark m) d = know (suc d.room) 0 (suc m - 2 ^ 64)

abbrev by_step : Step → Know → Know
by_step (take k a) d = wronged (1 - k) (by_act a d)
by_step (close k a b) d = know (d.room - 1) (2 ^ 64) ((suc k - 256) + (1 - d.room))
by_step tick d = know (d.room - 1) d.counted ((1 - d.room) + (2 ^ 64 - d.counted))
by_step alone d = d
by_step done d = d

abbrev flow : G → Know → Know
flow (step p) d = wronged d.wrong (by_step p d)
flow (g & h) d = flow h (flow g d)
flow (g or h) d = let a = flow g d in let b = flow h d in know (min a.room b.room) (min a.counted b.counted) (a.wrong + b.wrong)
flow (many g) d = let a = flow g d in wronged ((d.room - a.room) + ((d.counted - a.counted) + a.wrong)) d
flow (both g h) d = flow h d
flow (rule r) d = let n : ℕ = cond (solid r) 1 0 + d.room in know (n - 1) d.counted ((1 - n) + d.wrong)

abbrev begun : Know
begun = know 1 (2 ^ 64) 0

-- every rule passes
right : (r : R) → (flow (body r) begun).wrong ≡ 0
unfolding body
right r = eqb-true _ 0 (of_T _ (every (λ r. eqb (flow (body r) begun).wrong 0) (λ n. tt) r))

module _ (x : Input) (o : Ordered x) (text : length x.text ≤ 65535) (values : (i : ℕ) → i < length x.tokens → ((token x i).base < 256) × ((token x i).value < 2 ^ 64)) where
  -- with room for 1, neither the parts nor a counted mark exceed the number of tokens before the place
  abbrev Sound : Know → S → Type 0
  Sound d s =
      let f = s.frame in
      Each (λ a. Within (length x.text) a → NodeFits a) s.nodes
      × ((s.at ≤ 65535) × (f.parts + d.room ≤ suc s.at) × (f.mark < 2 ^ 64) × (f.mark + d.room + d.counted ≤ suc s.at + 2 ^ 64))

  weaker : {q : Out} (d e : Know) → (d.room ≤ e.room) × (d.counted ≤ e.counted) → On (Sound e) q → On (Sound d) q
  weaker d e h q = on_map (λ t p. (p.0, omega arith)) q

  module _ (d : Know) (s : S) (p : Sound d s) where
    leafed : (t : Token) → s.at < 65535 → (k b v : ℕ) → k < 256 → b < 256 → v < 2 ^ 64 → Sound d (emit t k b v (next s))
    unfolding part
    leafed t l k b v h i j = (add p.0 (λ q. omega arith), omega arith)

    acts : (t : Token) → s.at < 65535 → t.base < 256 → t.value < 2 ^ 64 → (a : Act) → (by_act a d).wrong ≡ 0 → On (Sound (by_act a d)) (act x a t (next s))
    acts t l b v skip w = on {t = next s} (p.0, omega arith)
    acts t l b v (leaf k n) w = on (leafed t l k 0 n (omega arith) (omega arith) (omega arith))
    acts t l b v named w = on (leafed t l Named 0 _ (omega arith) (omega arith) (type_fits (spelling x t)))
    acts t l b v literal w = on (leafed t l _ _ _ (literal_fits t.suffix) b v)
    acts t l b v count w = on_if (eqb t.suffix 0) (λ e. on (leafed t l Count _ _ (omega arith) b v))
    acts t l b v index w = on_if (eqb t.suffix 0) (λ e. on {t = marked t.value (next s)} (p.0, omega arith))
    acts t l b v (mark m) w = on {t = marked m (next s)} (p.0, omega arith)

    runs : (q : Step) → (by_step q d).wrong ≡ 0 → On (Sound (by_step q d)) (yields x q s)
    unfolding yields
    runs (take k a) w =
        let i = s.at in
        let t = token x i in
        on_if (eqb t.kind k) (λ e. let l = is_token x i k (eqb-true t.kind k e) (omega arith) in acts t (omega (arith, ends_past o i l, o.inside i l)) (values i l).0 (values i l).1 a (omega arith))
    runs (close k a b) w = on {t = closed k (starts x a s) (ends x b s) s} (add p.0 (λ i. omega arith), omega arith)
    runs tick w = on {t = marked (suc s.frame.mark) s} (p.0, omega arith)
    runs alone w = on_if (eqb s.frame.parts 1) (λ e. on p)
    runs done w = on p

  -- a state derived is as `flow` says
  flows : {g : G} {s : S} {q : Out} (d : Know) → (d.wrong ≡ 0 → Sound d s) → Derives body x g s q → (flow g d).wrong ≡ 0 → On (Sound (flow g d)) q
  unfolding leave part
  flows {s = s} d h (stepped {p = p}) w = runs d s (h (omega arith)) p (omega arith)
  flows d h (and_not a) w = off
  flows d h (and_then {g = g} a c) w = flows (flow g d) (λ u. on_of (flows d h a u)) c w
  flows d h (or_first {g = g} {h = k} a) w = weaker (flow (g or k) d) (flow g d) (omega arith) (flows d h a (omega arith))
  flows d h (or_else {g = g} {h = k} a c) w = weaker (flow (g or k) d) (flow k d) (omega arith) (flows d h c (omega arith))
  flows d h (no_more a) w = on (h (omega arith))
  flows d h (one_more {g = g} a c) w = flows d (λ u. on_of (weaker d (flow g d) (omega arith) (flows d h a (omega arith)))) c w
  flows d h (agreed {o = q} a c) w = on_agree q (flows d h c w)
  flows d h (ruled {o = none} a) w = off
  flows {s = s} d h (ruled {r = r} {o = got t} a) w =
      let p = h (omega arith) in
      let k = on_of (flows begun (λ u. (p.0, omega arith)) a (right r)) in
      on {t = left s t} (k.0, omega (arith, farther r (solid r) refl (ruled {s = s} a)))

pub fits : {x : Input} {ns : List Node} {us : List Token} → Ordered x → length x.text ≤ 65535 → ((i : ℕ) → i < length x.tokens → ((token x i).base < 256) × ((token x i).value < 2 ^ 64)) → Tree x ns us → Each NodeFits ns
fits o text values a = each_apply (rw a.these at (on_of (flows _ o text values begun (λ u. (no_node, omega arith)) a.derived refl)).0) (spans o a)
