-- Trees as a node list, children first, left to right: a list of nodes is that of at most one list of trees, if each node says how many children it has.
-- Assumes nothing.
use Prim.Native.Nat.{ℕ, zero, suc}
use mathlib.Core.Path.{◌≡◌, refl, sym, ◌∙◌}
use mathlib.Core.List.{List, [], ◌∷◌, ◌++◌, append_assoc, append_cancel_left}
use Rattle.grammar.specs.Derive.{Node}

infixl 50 ◌then◌
-- a tree is a node over its subtrees; trees stand from left to right
mutual
  pub data Branch : Type 0 where
    node : Node → Trees → Branch

  pub data Trees : Type 0 where
    no_trees : Trees
    ◌then◌ : Trees → Branch → Trees

abbrev pub root : Branch → Node
root (node n ts) = n

abbrev mutual
  pub nodes : Branch → List Node
  nodes (node n ts) = flatten ts ++ (n ∷ [])

  pub flatten : Trees → List Node
  flatten no_trees = []
  flatten (ts then t) = flatten ts ++ nodes t

abbrev pub number : Trees → ℕ
number no_trees = 0
number (ts then t) = suc (number ts)

-- each node has as many subtrees as it says
pub data Fits : Trees → Type 0 where
  fits_none : Fits no_trees
  fits_then : {ts us : Trees} {n : Node} → Fits ts → Fits us → n.children ≡ number us → Fits (ts then node n us)

pub fits_more : {ts : Trees} {a : Branch} → Fits ts → Fits (no_trees then a) → Fits (ts then a)
fits_more f (fits_then e g c) = fits_then f g c

pub record Decodes (ns : List Node) (ts : Trees) : Type 0 where
  pub fits : Fits ts
  pub same : flatten ts ≡ ns

-- the trees read back from the nodes: each node takes its subtrees off the trees before it
abbrev join : Trees → Trees → Trees
join ts no_trees = ts
join ts (us then t) = join ts us then t

abbrev cut : ℕ → Trees → Trees × Trees
cut zero ts = (ts, no_trees)
cut (suc k) no_trees = (no_trees, no_trees)
cut (suc k) (ts then t) = ((cut k ts).0, (cut k ts).1 then t)

abbrev reread : List Node → Trees → Trees
reread [] ts = ts
reread (n ∷ ns) ts = reread ns ((cut n.children ts).0 then node n (cut n.children ts).1)

join_none : (ts : Trees) → join no_trees ts ≡ ts
join_none no_trees = refl
join_none (ts then t) = rw (join_none ts)

cut_join : (ts us : Trees) → cut (number us) (join ts us) ≡ (ts, us)
cut_join ts no_trees = refl
cut_join ts (us then t) = rw (cut_join ts us)

read_back : {us : Trees} (ts : Trees) (ns : List Node) → Fits us → reread (flatten us ++ ns) ts ≡ reread ns (join ts us)
read_back ts ns fits_none = refl
read_back ts ns (fits_then {ts = us} {us = vs} {n = n} f g e) =
    rw (append_assoc, append_assoc, read_back ts (flatten vs ++ (n ∷ ns)) f, read_back (join ts us) (n ∷ ns) g, e, cut_join)

-- no two lists of trees
pub one_decoding : {ns : List Node} {ts us : Trees} → Decodes ns ts → Decodes ns us → ts ≡ us
one_decoding {ts = ts} {us = us} a b =
    let p = read_back no_trees [] a.fits in
    let q = read_back no_trees [] b.fits in
    let e = a.same in
    let f = b.same in
    cc (join_none ts, join_none us)

pub same_tree : {ms : List Node} {a b : Branch} (ns : List Node) → Fits (no_trees then a) → Fits (no_trees then b) → ms ≡ ns ++ nodes a → ms ≡ ns ++ nodes b → a ≡ b
same_tree {a = a} {b = b} ns f g p q =
    let e = append_cancel_left ns (nodes a) (nodes b) (sym p ∙ q) in
    let o : no_trees then a ≡ no_trees then b = one_decoding {ns = nodes b} (record { fits = f; same = e }) (record { fits = g; same = refl }) in
    cc
