-- Every rule leaves just one part, and adds the nodes of just one tree: so the nodes of a text are those of exactly one list of trees.
-- Assumes nothing.
use Prim.Native.Nat.{ℕ, suc, ◌<◌}
use mathlib.Core.Path.{◌≡◌, refl, sym, subst, ap, ap₂, ◌∙◌}
use mathlib.Core.Bool.{Bool, true, false, cond}
use mathlib.Core.List.{List, [], ◌∷◌, ◌++◌, append_assoc, append-nil}
use native.Mathlib.Omega.{arith}
use lib.Dec.{eqb}
use borrow.Author.Tests.{eqb-true}
use Rattle.grammar.specs.Derive.{Token, Node, Input, token, R, Act, skip, leaf, named, literal, count, index, mark, Step, take, close, tick, alone, done}
use Rattle.grammar.specs.Derive.{G, step, ◌&◌, ◌or◌, many, both, rule, S, Out, got, Frame, part, next, act, yields, leave}
use Rattle.grammar.specs.Derive.{Derives, stepped, and_not, and_then, or_first, or_else, no_more, one_more, agreed, ruled}
use Rattle.grammar.specs.Grammar.{body, Tree}
use Rattle.patterns.proofs.Tests.{of_T}
use Rattle.grammar.proofs.Bodies.{every}
use Rattle.grammar.proofs.On.{On, off, on, on_of, on_map, on_if, on_agree, on_leave, left}
use Rattle.grammar.proofs.Trees.{Branch, node, Trees, no_trees, ◌then◌, root, nodes, flatten, number, Fits, fits_none, fits_then, fits_more, Decodes, one_decoding}

-- the number of parts as far as it is known: a number above 1 says nothing
abbrev by_act : Act → ℕ → ℕ
by_act skip d = d
by_act (leaf k v) d = suc d
by_act named d = suc d
by_act literal d = suc d
by_act count d = suc d
by_act index d = d
by_act (mark m) d = d

abbrev flow : G → ℕ → ℕ
flow (step (take k a)) d = by_act a d
flow (step (close k a b)) d = 1
flow (step tick) d = d
flow (step alone) d = 1
flow (step done) d = d
flow (g & h) d = flow h (flow g d)
flow (g or h) d = cond (eqb (flow g d) (flow h d)) (flow g d) 2
flow (many g) d = cond (eqb d (flow g d)) d 2
flow (both g h) d = flow h d
flow (rule r) d = suc d

flow_body : (r : R) → flow (body r) 0 ≡ 1
unfolding body
flow_body r = eqb-true (flow (body r) 0) 1 (of_T (eqb (flow (body r) 0) 1) (every (λ r. eqb (flow (body r) 0) 1) (λ n. tt) r))

-- where trees start and end, as a frame has it
abbrev front : Trees → ℕ
front no_trees = 0
front (ts then t) = cond (eqb (number ts) 0) (root t).start (front ts)

abbrev back : Trees → ℕ
back no_trees = 0
back (ts then t) = (root t).end

-- the nodes ms are ns and then those of p trees, from a to b; if d is below 2, there are d
record Forest (d : ℕ) (ns ms : List Node) (p a b : ℕ) : Type 0 where
  trees : Trees
  fits : Fits trees
  these : ms ≡ ns ++ flatten trees
  parts : p ≡ number trees
  from : a ≡ front trees
  to : b ≡ back trees
  known : d < 2 → p ≡ d

abbrev At : ℕ → List Node → S → Type 0
At d ns s = Forest d ns s.nodes s.frame.parts s.frame.from s.frame.to

-- the nodes ms are ns and those of one tree, and the frame g is f with one part more, of that tree's span
pub data Grown (ns : List Node) (f : Frame) (ms : List Node) (g : Frame) : Type 0 where
  grown : (a : Branch) → Fits (no_trees then a) → ms ≡ ns ++ nodes a → g ≡ part (root a).start (root a).end f → Grown ns f ms g

-- what a rule makes of s
abbrev pub Grows : S → S → Type 0
Grows s t = Grown s.nodes s.frame t.nodes t.frame

bare : (ns : List Node) → Forest 0 ns ns 0 0 0
bare ns = record { trees = no_trees; fits = fits_none; these = sym (append-nil ns); parts = refl; from = refl; to = refl; known = λ l. refl }

treed : {ns ms ls : List Node} {d p a b : ℕ} (t : Branch) → Fits (no_trees then t) → ls ≡ ms ++ nodes t → Forest d ns ms p a b → Forest (suc d) ns ls (suc p) (cond (eqb p 0) (root t).start a) (root t).end
treed t h e f =
    record {
      trees = f.trees then t;
      fits = fits_more f.fits h;
      these = e ∙ rw (f.these, append_assoc);
      parts = ap suc f.parts;
      from = cc;
      to = refl;
      known = λ l. ap suc (f.known (omega arith));
    }

leafed : {ns ms : List Node} {d p a b : ℕ} (n : Node) → n.children ≡ 0 → Forest d ns ms p a b → Forest (suc d) ns (ms ++ (n ∷ [])) (suc p) (cond (eqb p 0) n.start a) n.end
leafed n e f = treed (node n no_trees) (fits_then fits_none fits_none e) refl f

closed : {ns ms : List Node} {d p a b : ℕ} (n : Node) → n.children ≡ p → Forest d ns ms p a b → Forest 1 ns (ms ++ (n ∷ [])) 1 n.start n.end
closed n e f =
    record {
      trees = no_trees then node n f.trees;
      fits = fits_then fits_none f.fits (e ∙ f.parts);
      these = rw (f.these, append_assoc);
      parts = refl;
      from = refl;
      to = refl;
      known = λ l. refl;
    }

knowing : {ns ms : List Node} {d e p a b : ℕ} → (e < 2 → p ≡ e) → Forest d ns ms p a b → Forest e ns ms p a b
knowing h f = record { trees = f.trees; fits = f.fits; these = f.these; parts = f.parts; from = f.from; to = f.to; known = h }

vague : {d : ℕ} {ns : List Node} {o : Out} → On (At d ns) o → On (At 2 ns) o
vague f = on_map (λ t f. knowing (λ l. absurd (omega arith)) f) f

widened : {d e : ℕ} {ns : List Node} {o : Out} (b : Bool) → (b ≡ true → d ≡ e) → On (At e ns) o → On (At (cond b d 2) ns) o
widened true h f = rw (h refl) f
widened false h f = vague f

stand_act : {d : ℕ} {ns : List Node} (x : Input) (a : Act) (t : Token) (s : S) → At d ns s → On (At (by_act a d) ns) (act x a t s)
unfolding part
stand_act x skip t s f = on f
stand_act x (leaf k v) t s f = on (leafed _ refl f)
stand_act x named t s f = on (leafed _ refl f)
stand_act x literal t s f = on (leafed _ refl f)
stand_act x count t s f = on_if (eqb t.suffix 0) (λ e. on (leafed _ refl f))
stand_act x index t s f = on_if (eqb t.suffix 0) (λ e. on f)
stand_act x (mark m) t s f = on f

stand_run : {d : ℕ} {ns : List Node} (x : Input) (p : Step) (s : S) → At d ns s → On (At (flow (step p) d) ns) (yields x p s)
unfolding yields
stand_run x (take k a) s f = on_if (eqb (token x s.at).kind k) (λ e. stand_act x a (token x s.at) (next s) f)
stand_run x (close k a b) s f = on (closed _ refl f)
stand_run x tick s f = on f
stand_run x alone s f = on_if (eqb s.frame.parts 1) (λ e. on (knowing (λ l. eqb-true s.frame.parts 1 e) f))
stand_run x done s f = on f

single : (ts : Trees) → number ts ≡ 1 → (a : Branch) × (ts ≡ no_trees then a)
single no_trees e = absurd (omega arith)
single (no_trees then a) e = (a, refl)
single (ts then b then a) e = absurd (omega arith)

stand_leave : {o : Out} (s : S) → On (At 1 s.nodes) o → On (Grows s) (leave s o)
stand_leave s f = on_leave s alone_in f
  where
    alone_in : (t : S) → At 1 s.nodes t → Grows s (left s t)
    alone_in t f =
        let (a, e) = single f.trees (sym f.parts ∙ f.known (omega arith)) in
        grown a (subst Fits e f.fits) (f.these ∙ ap (λ (ts : Trees). s.nodes ++ flatten ts) e) (ap₂ (λ (i j : ℕ). part i j s.frame) (f.from ∙ ap front e) (f.to ∙ ap back e))

stand_grows : {d : ℕ} {ns : List Node} {o : Out} (s : S) → At d ns s → On (Grows s) o → On (At (suc d) ns) o
unfolding part
stand_grows {d} {ns} s f g = on_map more g
  where
    more : (t : S) → Grows s t → At (suc d) ns t
    more t (grown a h e p) = rw p (treed a h e f)

-- one round, and then the rest
stand_round : {ns : List Node} {t : S} {o : Out} (g : G) (d : ℕ) (b : Bool) → eqb d (flow g d) ≡ b → On (At (flow g d) ns) (got t) → ((e : ℕ) → At e ns t → On (At (flow (many g) e) ns) o) → On (At (flow (many g) d) ns) o
stand_round g d true e f k = k d (rw (eqb-true d (flow g d) e) (on_of f))
stand_round g d false e f k = rw e (vague (k 2 (on_of (vague f))))

-- for any body whose rules leave one part
module _ (b : R → G) (x : Input) (y : (r : R) → flow (b r) 0 ≡ 1) where
  stands : {g : G} {s : S} {o : Out} {ns : List Node} (d : ℕ) → At d ns s → Derives b x g s o → On (At (flow g d) ns) o
  stands d f (stepped {p = p} {s = s}) = stand_run x p s f
  stands d f (and_not a) = off
  stands d f (and_then {g = g} a c) = stands (flow g d) (on_of (stands d f a)) c
  stands d f (or_first {g = g} {h = h} a) = widened (eqb (flow g d) (flow h d)) (λ e. refl) (stands d f a)
  stands d f (or_else {g = g} {h = h} a c) = widened (eqb (flow g d) (flow h d)) (eqb-true (flow g d) (flow h d)) (stands d f c)
  stands d f (no_more {g = g} a) = widened (eqb d (flow g d)) (λ e. refl) (on f)
  stands d f (one_more {g = g} a c) = stand_round g d (eqb d (flow g d)) refl (stands d f a) (λ e k. stands e k c)
  stands d f (agreed {o = o} a c) = on_agree o (stands d f c)
  stands {s = s} d f (ruled {r = r} a) = stand_grows s f (stand_leave s (rw (y r) at (stands 0 (bare s.nodes) a)))

pub one_tree : {x : Input} {r : R} {s : S} {o : Out} → Derives body x (rule r) s o → On (Grows s) o
one_tree {x} {s = s} (ruled {r = r} a) = stand_leave s (rw (flow_body r) at (stands body x flow_body 0 (bare s.nodes) a))

-- the nodes of a text are those of exactly one list of trees
pub record OneForest (ns : List Node) : Type 0 where
  pub trees : Trees
  pub decodes : Decodes ns trees
  pub only : (ts : Trees) → Decodes ns ts → ts ≡ trees

pub forest : {x : Input} {ns : List Node} {ds : List Token} → Tree x ns ds → OneForest ns
forest {x} a =
    let f = on_of (stands body x flow_body 0 (bare []) a.derived) in
    let d : Decodes _ f.trees = record { fits = f.fits; same = sym f.these ∙ a.these } in
    record { trees = f.trees; decodes = d; only = λ ts e. one_decoding e d }
