-- Tokens in order give nodes in order: each node of a tree starts no later than it ends, and ends within the text.
-- Assumes nothing.
use Prim.Native.Nat.{ℕ, zero, suc, pred, min, max, ◌+◌, ◌-◌, ◌*◌, ◌≤◌, ◌<◌}
use mathlib.Core.Path.{◌≡◌, refl, subst}
use mathlib.Core.Bool.{Bool, true, false, cond}
use mathlib.Core.List.{List, [], ◌∷◌, ◌++◌}
use native.Mathlib.Omega.{arith}
use native.Mathlib.Nat.{mul-le-mul_right}
use lib.Dec.{eqb}
use lib.ListN.{length}
use borrow.Author.Tests.{eqb-true}
use Rattle.grammar.specs.Derive.{Token, Node, Input, token, R, Act, skip, leaf, named, literal, count, index, mark, Step, take, close, tick, alone, done}
use Rattle.grammar.specs.Derive.{Start, first_token, first_part, from_nowhere, End, last_token, last_part, call_end, to_nowhere, starts, ends, closed, emit}
use Rattle.grammar.specs.Derive.{G, step, ◌&◌, ◌or◌, many, both, rule, S, Out, part, next, act, yields, leave}
use Rattle.grammar.specs.Derive.{Derives, stepped, and_not, and_then, or_first, or_else, no_more, one_more, agreed, ruled}
use Rattle.grammar.specs.Grammar.{body, Tree}
use Rattle.patterns.proofs.Tests.{of_T}
use Rattle.grammar.proofs.Bodies.{every}
use Rattle.grammar.proofs.On.{On, off, on, on_of, on_map, on_if, on_agree, on_leave, is_token}

-- each token has a byte, starts no earlier than the one before it ends, and ends within the text
pub record Ordered (x : Input) : Type 0 where
  pub some : (i : ℕ) → i < length x.tokens → (token x i).start < (token x i).end
  pub apart : (i : ℕ) → suc i < length x.tokens → (token x i).end ≤ (token x (suc i)).start
  pub inside : (i : ℕ) → i < length x.tokens → (token x i).end ≤ length x.text

-- a node's span, in a text of n bytes
pub record Within (n : ℕ) (a : Node) : Type 0 where
  pub start_first : a.start ≤ a.end
  pub end_within : a.end ≤ n

pub data Each (P : Node → Type 0) : List Node → Type 0 where
  no_node : Each P []
  node : {n : Node} {ns : List Node} → P n → Each P ns → Each P (n ∷ ns)

pub add : {P : Node → Type 0} {n : Node} {ns : List Node} → Each P ns → P n → Each P (ns ++ (n ∷ []))
add no_node p = node p no_node
add (node q e) p = node q (add e p)

-- the end of the last token before i; and the start of token i, or that end if it is later
abbrev reach : Input → ℕ → ℕ
reach x zero = 0
reach x (suc i) = (token x i).end

lead : Input → ℕ → ℕ
lead x i = max (reach x i) (token x i).start

last_end : (x : Input) (i : ℕ) → 1 ≤ reach x i → (token x (pred i)).end ≡ reach x i
last_end x zero h = absurd (omega arith)
last_end x (suc i) h = refl

leads : (x : Input) (i : ℕ) → (reach x i ≤ lead x i) × ((token x i).start ≤ lead x i)
unfolding lead
leads x i = omega arith

reads : {x : Input} → Ordered x → (i : ℕ) → i < length x.tokens → (reach x i ≤ lead x i) × ((token x i).start ≤ lead x i) × (lead x i < (token x i).end) × ((token x i).end ≤ lead x (suc i)) × ((token x i).end ≤ length x.text)
unfolding lead
reads o zero l = omega (arith, o.some 0 l, o.inside 0 l)
reads o (suc i) l = omega (arith, o.some (suc i) l, o.inside (suc i) l, o.apart i l)

-- What is known at a place of a grammar, as numbers. 1 taken: a token of the construct was taken; 1 ahead: it has a part, and the last one ends past
-- the construct's first token's start; slack: at most 2 more than the bytes between the end of a single part and here; 0 wrong: all nodes closed are right.
record Know : Type 0 where
  taken : ℕ
  ahead : ℕ
  slack : ℕ
  wrong : ℕ

abbrev skipped : Know → Know
skipped d = record { taken = 1; ahead = d.ahead; slack = min (4 * d.ahead) (suc d.slack); wrong = 0 }

-- after a part that is known to be ahead, or not
abbrev joined : Bool → Know → Know
joined c d = record { taken = cond c 1 d.taken; ahead = cond c 1 0; slack = cond c (2 + 2 * d.ahead) 0; wrong = 0 }

abbrev promised : Bool → Know
promised c = record { taken = 0; ahead = cond c 1 0; slack = 0; wrong = 0 }

abbrev shut : ℕ → ℕ → Know → Know
shut a w d = record { taken = d.taken; ahead = a; slack = 2 * a; wrong = w }

abbrev meet : Know → Know → Know
meet d e =
    record { taken = min d.taken e.taken; ahead = min d.ahead e.ahead; slack = min d.slack e.slack; wrong = d.wrong + e.wrong }

-- 0 if e is right and knows all that d does
abbrev short : Know → Know → ℕ
short d e = e.wrong + ((d.taken - e.taken) + ((d.ahead - e.ahead) + (d.slack - e.slack)))

abbrev wronged : ℕ → Know → Know
wronged w d = record { taken = d.taken; ahead = d.ahead; slack = d.slack; wrong = w + d.wrong }

abbrev by_act : Act → Know → Know
by_act skip d = skipped d
by_act (leaf k v) d = joined true d
by_act named d = joined true d
by_act literal d = joined true d
by_act count d = joined true d
by_act index d = skipped d
by_act (mark m) d = skipped d

abbrev by_end : Start → End → Know → Know
by_end a last_token d = shut 1 (1 - d.taken) d
by_end a last_part d = shut 1 (1 - d.ahead) d
by_end a call_end d = shut 1 ((1 - d.ahead) + (4 - d.slack)) d
by_end first_token to_nowhere d = shut 0 1 d
by_end first_part to_nowhere d = shut 0 1 d
by_end from_nowhere to_nowhere d = shut 0 0 d

abbrev flow : (R → Bool) → G → Know → Know
flow σ (step (take k a)) d = wronged ((1 - k) + d.wrong) (by_act a d)
flow σ (step (close k a b)) d = wronged d.wrong (by_end a b d)
flow σ (step tick) d = d
flow σ (step alone) d = d
flow σ (step done) d = d
flow σ (g & h) d = flow σ h (flow σ g d)
flow σ (g or h) d = meet (flow σ g d) (flow σ h d)
flow σ (many g) d = wronged (short d (flow σ g d)) d
flow σ (both g h) d = flow σ h d
flow σ (rule r) d = wronged d.wrong (joined (σ r) d)

-- the rules whose part is ahead: those for which it follows if all are
abbrev leading : (R → G) → R → Bool
leading b r = eqb (flow (λ q. true) (b r) (promised false)).ahead 1

abbrev test : (R → G) → R → ℕ
test b r = short (promised (leading b r)) (flow (leading b) (b r) (promised false))

test_body : (r : R) → test body r ≡ 0
unfolding body
test_body r = eqb-true (test body r) 0 (of_T (eqb (test body r) 0) (every (λ r. eqb (test body r) 0) (λ n. tt) r))

-- what that means for a state whose construct began at token i
record Spot (x : Input) (i taken ahead slack at first parts from to : ℕ) : Type 0 where
  front : (token x first).start ≤ lead x i
  inside : reach x at ≤ length x.text
  grown : reach x i ≤ reach x at
  near : lead x i ≤ lead x at
  left : from ≤ reach x at
  room : to + (slack - 2 * parts) ≤ reach x at
  begun : taken * suc (lead x i) ≤ reach x at
  past : ahead * suc (lead x i) ≤ to
  order : ahead * from ≤ to
  some : ahead ≤ parts

abbrev Sound : Input → ℕ → Know → S → Type 0
Sound x i d s =
    let f = s.frame in
    Each (Within (length x.text)) s.nodes × Spot x i d.taken d.ahead d.slack s.at f.first f.parts f.from f.to

weaker : {x : Input} {i : ℕ} {o : Out} (d e : Know) → short d e ≡ 0 → On (Sound x i e) o → On (Sound x i d) o
weaker {x} {i} d e h q = on_map less q
  where
    less : (t : S) → Sound x i e t → Sound x i d t
    less t (ns, p) =
        let a = mul-le-mul_right {m = d.taken} {n = e.taken} (suc (lead x i)) (omega arith) in
        let b : d.ahead ≤ e.ahead = omega arith in
        (ns, omega (arith, mul-le-mul_right (suc (lead x i)) b, mul-le-mul_right t.frame.from b))

pub pick_le : (b : Bool) (a c : ℕ) → cond b a c ≤ max a c
pick_le true a c = omega arith
pick_le false a c = omega arith

-- one part more, read in a frame of its own
joins : {x : Input} {i taken ahead slack at first parts from to at' first' q u v : ℕ} (c : Bool) → Spot x i taken ahead slack at first parts from to → Spot x at 0 (cond c 1 0) 0 at' first' q u v → Spot x i (cond c 1 taken) (cond c 1 0) (cond c (2 + 2 * ahead) 0) at' first (suc parts) (cond (eqb parts 0) u from) v
joins {x} {at = at} {parts = parts} {from = from} {u = u} true p k = omega (arith, leads x at, pick_le (eqb parts 0) u from)
joins {parts = parts} {from = from} {u = u} false p k = omega (arith, pick_le (eqb parts 0) u from)

module _ (x : Input) (o : Ordered x) (i : ℕ) (d : Know) (s : S) (p : Sound x i d s) where
  module _ (l : s.at < length x.tokens) where
    passed : Sound x i (skipped d) (next s)
    passed = (p.0, omega (arith, reads o s.at l))

    leafed : (k b v : ℕ) → Sound x i (joined true d) (emit (token x s.at) k b v (next s))
    unfolding part
    leafed k b v =
        let t = token x s.at in
        let leaf-spot : Spot x s.at 0 1 0 (suc s.at) s.at 1 t.start t.end = omega (arith, reads o s.at l) in
        (add p.0 (omega (arith, reads o s.at l)), joins true p.1 leaf-spot)

    acts : (w : ℕ) (a : Act) → On (Sound x i (wronged w (by_act a d))) (act x a (token x s.at) (next s))
    acts w skip = on passed
    acts w (leaf k v) = on (leafed k 0 v)
    acts w named = on (leafed _ _ _)
    acts w literal = on (leafed _ _ _)
    acts w count = on_if (eqb (token x s.at).suffix 0) (λ e. on (leafed _ _ _))
    acts w index = on_if (eqb (token x s.at).suffix 0) (λ e. on passed)
    acts w (mark m) = on passed

  -- a node closed at e: past the first token's start and the first part's, and not past the last token's end
  shuts : (k : ℕ) (a : Start) (e w : ℕ) → lead x i < e → s.frame.from ≤ e → e ≤ reach x s.at → Sound x i (shut 1 w d) (closed k (starts x a s) e s)
  shuts k first_token e w h f j = (add p.0 (omega arith), omega arith)
  shuts k first_part e w h f j = (add p.0 (omega arith), omega arith)
  shuts k from_nowhere e w h f j = (add p.0 (omega arith), omega arith)

  parts_end : (k : ℕ) (a : Start) (e w : ℕ) → 1 ≤ d.ahead → s.frame.to ≤ e → e ≤ reach x s.at → Sound x i (shut 1 w d) (closed k (starts x a s) e s)
  parts_end k a e w h f j =
      let m = mul-le-mul_right (suc (lead x i)) h in
      let n = mul-le-mul_right s.frame.from h in
      shuts k a e w (omega arith) (omega arith) j

  ends_call : (k : ℕ) (a : Start) (w : ℕ) (c : Bool) → eqb s.frame.parts 1 ≡ c → 1 ≤ d.ahead → 4 ≤ d.slack → Sound x i (shut 1 w d) (closed k (starts x a s) (cond c (s.frame.to + 2) s.frame.to) s)
  ends_call k a w true q h m = parts_end k a _ w h (omega arith) (omega (arith, eqb-true s.frame.parts 1 q))
  ends_call k a w false q h m = parts_end k a _ w h (omega arith) (omega arith)

  closes : (k : ℕ) (a : Start) (b : End) → (by_end a b d).wrong ≡ 0 → Sound x i (by_end a b d) (closed k (starts x a s) (ends x b s) s)
  closes k a last_token w =
      let h = mul-le-mul_right {m = 1} {n = d.taken} (suc (lead x i)) (omega arith) in
      let e = last_end x s.at (omega arith) in
      shuts k a _ (1 - d.taken) (omega arith) (omega arith) (omega arith)
  closes k a last_part w = parts_end k a _ (1 - d.ahead) (omega arith) (omega arith) (omega arith)
  closes k a call_end w = ends_call k a ((1 - d.ahead) + (4 - d.slack)) (eqb s.frame.parts 1) refl (omega arith) (omega arith)
  closes k first_token to_nowhere w = absurd (omega arith)
  closes k first_part to_nowhere w = absurd (omega arith)
  closes k from_nowhere to_nowhere w = (add p.0 (omega arith), omega arith)

  leaves : {q : Out} (w : ℕ) (c : Bool) → On (Sound x s.at (promised c)) q → On (Sound x i (wronged w (joined c d))) (leave s q)
  unfolding leave part
  leaves w c k = on_leave s (λ t k. (k.0, joins c p.1 k.1)) k

runs : {x : Input} {i : ℕ} {d : Know} (σ : R → Bool) → Ordered x → (p : Step) (s : S) → (d.wrong ≡ 0 → Sound x i d s) → (flow σ (step p) d).wrong ≡ 0 → On (Sound x i (flow σ (step p) d)) (yields x p s)
unfolding yields
runs {x} {i} {d} σ o (take k a) s h w =
    on_if
    (eqb (token x s.at).kind k)
    (λ e. acts x o i d s (h (omega arith)) (is_token x s.at k (eqb-true (token x s.at).kind k e) (omega arith)) ((1 - k) + d.wrong) a)
runs {x} {i} {d} σ o (close k a b) s h w = on (closes x o i d s (h (omega arith)) k a b (omega arith))
runs σ o tick s h w = on (h w)
runs σ o alone s h w = on_if (eqb s.frame.parts 1) (λ e. on (h w))
runs σ o done s h w = on (h w)

-- a state derived is as `flow` says
module _ (b : R → G) (x : Input) (o : Ordered x) (y : (r : R) → test b r ≡ 0) where
  flows : {g : G} {s : S} {q : Out} {i : ℕ} (d : Know) → (d.wrong ≡ 0 → Sound x i d s) → Derives b x g s q → (flow (leading b) g d).wrong ≡ 0 → On (Sound x i (flow (leading b) g d)) q
  flows d h (stepped {p = p} {s = s}) w = runs (leading b) o p s h w
  flows d h (and_not a) w = off
  flows d h (and_then {g = g} a c) w = flows (flow (leading b) g d) (λ u. on_of (flows d h a u)) c w
  flows d h (or_first {g = g} {h = k} a) w = weaker (meet (flow (leading b) g d) (flow (leading b) k d)) (flow (leading b) g d) (omega arith) (flows d h a (omega arith))
  flows d h (or_else {g = g} {h = k} a c) w = weaker (meet (flow (leading b) g d) (flow (leading b) k d)) (flow (leading b) k d) (omega arith) (flows d h c (omega arith))
  flows d h (no_more a) w = on (h (omega arith))
  flows d h (one_more {g = g} a c) w = flows d (λ u. on_of (weaker d (flow (leading b) g d) (omega arith) (flows d h a (omega arith)))) c w
  flows d h (agreed {o = q} a c) w = on_agree q (flows d h c w)
  flows {s = s} {i = i} d h (ruled {r = r} a) w =
      let e = y r in
      let p = h (omega arith) in
      leaves x o i d s p d.wrong (leading b r) (weaker (promised (leading b r)) (flow (leading b) (b r) (promised false)) e (flows {i = s.at} (promised false) (λ u. (p.0, omega (arith, leads x s.at))) a (omega arith)))

pub spans : {x : Input} {ns : List Node} {ds : List Token} → Ordered x → Tree x ns ds → Each (Within (length x.text)) ns
unfolding body
spans {x} o a = subst (Each (Within (length x.text))) a.these (on_of (flows body x o test_body {i = 0} (promised false) (λ u. (no_node, omega (arith, leads x 0))) a.derived refl)).0
