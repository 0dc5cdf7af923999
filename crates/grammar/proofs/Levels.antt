-- The binary levels, all together: which operators each has, and that operators of one level nest to the left, over operands of the level below.
-- Assumes nothing.
use Prim.Native.Nat.{ℕ, zero, suc}
use mathlib.Core.Path.{◌≡◌, refl, sym, subst, ap, ◌∙◌}
use mathlib.Core.Bool.{Bool, true, false, cond}
use mathlib.Core.List.{List, [], ◌∷◌, ◌++◌, append_assoc, Memᴰ}
use lib.Dec.{eqb}
use borrow.Author.Tests.{eqb-true}
use Rattle.tables.specs.TokenKinds.{ANDAND, OROR, AND, OR, XOR, EQEQ, NEQ, LE, GE, LT, GT, PLUS, MINUS, MUL, DIV, MOD}
use Rattle.grammar.specs.Kinds.{Binary}
use Rattle.grammar.specs.Derive.{Node, Input, token, R, expr, level, G, ◌or◌, many, rule, S, Out, got, none, part, next, marked, closed, yields, enter, leave}
use Rattle.grammar.specs.Derive.{Derives, stepped, and_then, or_first, or_else, no_more, one_more, ruled}
use Rattle.grammar.specs.Grammar.{op, operator, link, body}
use Rattle.grammar.proofs.Unique.{unique, apart, same, moved}
use Rattle.grammar.proofs.Trees.{Branch, node, no_trees, ◌then◌, root, nodes, Fits, fits_none, fits_then, fits_more, same_tree}
use Rattle.grammar.proofs.Forest.{Grows, grown, one_tree}
use Rattle.grammar.proofs.On.{on_of}

-- each level's operators: the kind of the token, and the value of the Binary
abbrev pub operators : ℕ → List (ℕ × ℕ)
operators zero = (MUL, 2) ∷ (DIV, 3) ∷ (MOD, 4) ∷ []
operators (suc zero) = (PLUS, 0) ∷ (MINUS, 1) ∷ []
operators (suc (suc zero)) = (EQEQ, 5) ∷ (NEQ, 6) ∷ (LT, 7) ∷ (GT, 8) ∷ (LE, 9) ∷ (GE, 10) ∷ []
operators (suc (suc (suc zero))) = (AND, 13) ∷ (OR, 14) ∷ (XOR, 15) ∷ []
operators (suc (suc (suc (suc n)))) = (ANDAND, 11) ∷ (OROR, 12) ∷ []

-- a token of a kind in the table is gone past, and its value is the mark; before any other kind there is no operator
abbrev pub taken : List (ℕ × ℕ) → ℕ → S → Out
taken [] k s = none
taken (p ∷ l) k s = cond (eqb k p.0) (got (marked p.1 (next s))) (taken l k s)

module _ {x : Input} {s : S} where
  more : {k v : ℕ} {g : G} {o : Out} → Derives body x g s o → Derives body x (op k v or g) s (cond (eqb (token x s.at).kind k) (got (marked v (next s))) o)
  unfolding yields
  more {k} {v} {g} {o} d = go (eqb (token x s.at).kind k) stepped
    where
      go : (b : Bool) → Derives body x (op k v) s (cond b (got (marked v (next s))) none) → Derives body x (op k v or g) s (cond b (got (marked v (next s))) o)
      go true e = or_first e
      go false e = or_else e d

  pub levels : (n : ℕ) → Derives body x (operator n) s (taken (operators n) (token x s.at).kind s)
  unfolding yields
  levels zero = more (more stepped)
  levels (suc zero) = more stepped
  levels (suc (suc zero)) = more (more (more (more (more stepped))))
  levels (suc (suc (suc zero))) = more (more stepped)
  levels (suc (suc (suc (suc n)))) = more stepped

listed : {t : S} (l : List (ℕ × ℕ)) (k : ℕ) (s : S) → taken l k s ≡ got t → (v : ℕ) × Memᴰ (k, v) l × (t ≡ marked v (next s))
listed [] k s e = apart e
listed {t} (p ∷ l) k s e = go (eqb k p.0) refl (listed {t = t} l k s) e
  where
    go : (b : Bool) → eqb k p.0 ≡ b → (taken l k s ≡ got t → (v : ℕ) × Memᴰ (k, v) l × (t ≡ marked v (next s))) → cond b (got (marked p.1 (next s))) (taken l k s) ≡ got t → (v : ℕ) × Memᴰ (k, v) (p ∷ l) × (t ≡ marked v (next s))
    go true f r e = (p.1, Memᴰ.head (ap (λ (i : ℕ). (i, p.1)) (eqb-true k p.0 f)), sym (same e))
    go false f r e = let (v, m, q) = r e in (v, Memᴰ.tail m, q)

pub is_operator : {x : Input} (n : ℕ) {s t : S} → Derives body x (operator n) s (got t) → (v : ℕ) × Memᴰ ((token x s.at).kind, v) (operators n) × (t ≡ marked v (next s))
is_operator {x} n {s} d = listed (operators n) (token x s.at).kind s (unique (levels n) d)

-- the rule r, from the place i to the place j, adds the nodes of the tree a
pub record Reads (x : Input) (r : R) (i j : ℕ) (a : Branch) : Type 0 where
  pub from : S
  pub to : S
  pub derived : Derives body x (rule r) from (got to)
  pub begins : from.at ≡ i
  pub ends : to.at ≡ j
  pub fits : Fits (no_trees then a)
  pub adds : to.nodes ≡ from.nodes ++ nodes a

read : {x : Input} {r : R} {s t : S} {a : Branch} → Derives body x (rule r) s (got t) → Fits (no_trees then a) → t.nodes ≡ s.nodes ++ nodes a → Reads x r s.at t.at a
read {s = s} {t = t} d f e = record { from = s; to = t; derived = d; begins = refl; ends = refl; fits = f; adds = e }

pub reads : {x : Input} {r : R} {s t : S} → Derives body x (rule r) s (got t) → (a : Branch) × Reads x r s.at t.at a
reads d = elim (on_of (one_tree d)) [ grown a f e p ↦ (a, read d f e) ]

abbrev pub binary : ℕ → Branch → Branch → Branch
binary v a b = node (record { kind = Binary; base = 0; start = (root a).start; end = (root b).end; children = 2; value = v }) (no_trees then a then b)

-- operands of level n with operators of that level between them, from i to j: the tree of all up to an operator is its left operand
pub data Chain (x : Input) (n : ℕ) : ℕ → ℕ → Branch → Type 0 where
  first : {i j : ℕ} {a : Branch} → Reads x (level n) i j a → Chain x n i j a
  linked : {i j k v : ℕ} {a b : Branch} → Chain x n i j a → Memᴰ ((token x j).kind, v) (operators n) → Reads x (level n) (suc j) k b → Chain x n i k (binary v a b)

chain_fits : {x : Input} {n i j : ℕ} {a : Branch} → Chain x n i j a → Fits (no_trees then a)
chain_fits (first r) = r.fits
chain_fits (linked c m r) = fits_then fits_none (fits_more (chain_fits c) r.fits) refl

-- a chain read so far, from the place i and the nodes ns
record Going (x : Input) (n i : ℕ) (ns : List Node) (t : S) : Type 0 where
  tree : Branch
  chain : Chain x n i t.at tree
  adds : t.nodes ≡ ns ++ nodes tree
  parts : t.frame.parts ≡ 1
  from : t.frame.from ≡ (root tree).start

started : {x : Input} {n : ℕ} {t : S} (s : S) → Derives body x (rule (level n)) (enter s) (got t) → Grows (enter s) t → Going x n s.at s.nodes t
unfolding part
started s d (grown a f e p) = record { tree = a; chain = first (read d f e); adds = e; parts = rw p; from = rw p }

joined : {x : Input} {n i v : ℕ} {ns : List Node} {t w : S} → Going x n i ns t → Memᴰ ((token x t.at).kind, v) (operators n) → Derives body x (rule (level n)) (marked v (next t)) (got w) → Grows (marked v (next t)) w → Going x n i ns (closed Binary w.frame.from w.frame.to w)
unfolding part
joined {v = v} g m d (grown b f e p) =
    record {
      tree = binary v g.tree b;
      chain = linked g.chain m (read d f e);
      adds = rw (p, g.parts, g.from, e, g.adds) (simp append_assoc);
      parts = refl;
      from = rw (p, g.parts, g.from);
    }

round : {x : Input} {n i : ℕ} {ns : List Node} {t w : S} → Going x n i ns t → Derives body x (link n) t (got w) → Going x n i ns w
unfolding yields
round {x} {n} {i} {ns} g (and_then p (and_then q e)) =
    let (v, m, f) = is_operator n p in
    subst (Going x n i ns) (same (unique stepped e)) (joined g m (moved (sym f) q) (on_of (one_tree (moved (sym f) q))))

rounds : {x : Input} {g : G} {t u : S} (P : S → Type 0) → ((s w : S) → P s → Derives body x g s (got w) → P w) → P t → Derives body x (many g) t (got u) → P u
rounds P f p (no_more a) = p
rounds P f p (one_more a c) = rounds P f (f _ _ p a) c

inside : {x : Input} {u : S} (n : ℕ) (s : S) → Derives body x (body (level (suc n))) (enter s) (got u) → Going x n s.at s.nodes u
unfolding body
inside {x} n s (and_then a c) = rounds (Going x n s.at s.nodes) (λ t w. round) (started s a (on_of (one_tree a))) c

inner : {x : Input} {r : R} {s : S} {o : Out} (t : S) → Derives body x (rule r) s o → o ≡ got t → (u : S) × Derives body x (body r) (enter s) (got u) × (u.at ≡ t.at) × (u.nodes ≡ t.nodes)
unfolding leave
inner t (ruled {o = none} d) e = apart e
inner t (ruled {o = got u} d) e = (u, d, ap (λ (v : S). v.at) (same e), ap (λ (v : S). v.nodes) (same e))

-- an expression is what the loosest level reads, and each level reads a chain of the level below
pub expression : {x : Input} {i j : ℕ} {a : Branch} → Reads x expr i j a → Reads x (level 5) i j a
unfolding body
expression a =
    let (u, d, p, q) = inner a.to a.derived refl in
    record { from = enter a.from; to = u; derived = d; begins = a.begins; ends = p ∙ a.ends; fits = a.fits; adds = q ∙ a.adds }

pub chain : {x : Input} {n i j : ℕ} {a : Branch} → Reads x (level (suc n)) i j a → Chain x n i j a
chain {n = n} a =
    let (u, d, p, q) = inner a.to a.derived refl in
    let g = inside n a.from d in
    rw (same_tree a.from.nodes (chain_fits g.chain) a.fits (sym q ∙ g.adds) a.adds, p, a.ends, a.begins) at g.chain
