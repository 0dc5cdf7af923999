-- What the grammar says of all tokens of a text, computed: a tree that it derives, or that it derives none and where it stops; and whether an attempt is too deep.
-- Assumes nothing.
use Prim.Native.Nat.{ℕ}
use mathlib.Core.Path.{◌≡◌, refl, ap, subst, ◌∙◌}
use mathlib.Core.Bool.{Bool, true, false, cond}
use mathlib.Core.List.{List}
use lib.Dec.{eqb, leb, ltb}
use lib.ListN.{length}
use borrow.Author.Tests.{eqb-true, eqb-false, leb-true, ltb-true}
use native.Mathlib.Omega.{arith}
use Rattle.grammar.specs.Derive.{Token, Node, Input, S, Out, got, none, begin}
use Rattle.grammar.specs.Grammar.{body, nests, file, Tree, Deep, Stops}
use Rattle.grammar.proofs.Unique.{unique, apart, same}
use Rattle.grammar.proofs.Taken.{stops}
use Rattle.grammar.proofs.Eval.{May, is, tired, eval, Right, Sound, weary, shown, sound}

pub data Verdict : Type 0 where
  tree : List Node → List Token → Verdict
  refused : ℕ → Verdict
  unknown : Verdict

abbrev verdict : ℕ → May → Verdict
verdict n (is (got s) h j) = cond (eqb s.at n) (tree s.nodes s.unknown) (refused j)
verdict n (is none h j) = refused j
verdict n tired = unknown

unfoldable pub judge : ℕ → Input → Verdict
judge fuel x = verdict (length x.tokens) (eval body nests x fuel file 0 begin)

-- the fuel sufficed, and a token is taken above 64; or none is
abbrev pub above : May → Bool
above (is o h j) = ltb 64 h
above tired = false

abbrev pub within : May → Bool
within (is o h j) = leb h 64
within tired = false

module _ (x : Input) where
  found : {m : May} (ns : List Node) (ds : List Token) → Sound body nests x file 0 begin m → verdict (length x.tokens) m ≡ tree ns ds → Tree x ns ds
  found ns ds (shown {o = got s} {j = j} r) v = go (eqb s.at (length x.tokens)) refl v
    where
      go : (b : Bool) → eqb s.at (length x.tokens) ≡ b → cond b (tree s.nodes s.unknown) (refused j) ≡ tree ns ds → Tree x ns ds
      go true q w =
          record { last = s; derived = r.derived; all = eqb-true s.at (length x.tokens) q; these = cc; unknowns = cc }
      go false q w = absurd (let z : ◌≡◌ {A = ℕ} 0 1 = cc in omega arith)
  found ns ds (shown {o = none} r) v = absurd (let z : ◌≡◌ {A = ℕ} 0 1 = cc in omega arith)
  found ns ds weary v = absurd (let z : ◌≡◌ {A = ℕ} 0 1 = cc in omega arith)

  pub accepted : (fuel : ℕ) {ns : List Node} {ds : List Token} → judge fuel x ≡ tree ns ds → Tree x ns ds
  unfolding judge
  accepted fuel {ns} {ds} v = found ns ds (sound body nests x fuel file 0 begin) v

  -- no tree is derived, and the token j is the first that no attempt takes
  abbrev Lost : ℕ → Type 0
  Lost j = ((ns : List Node) (ds : List Token) → Tree x ns ds → ⊥) × Stops x j

  halted : {i j h : ℕ} {o : Out} → Right body nests x file 0 begin o h j → refused j ≡ refused i → Stops x i
  halted r e = subst (Stops x) (cc) (stops (λ i m t. (r.most i m t).1) r.far)

  lost : {m : May} {i : ℕ} → Sound body nests x file 0 begin m → verdict (length x.tokens) m ≡ refused i → Lost i
  lost {i = i} (shown {o = got s} {j = j} r) v = go (eqb s.at (length x.tokens)) refl v
    where
      go : (b : Bool) → eqb s.at (length x.tokens) ≡ b → cond b (tree s.nodes s.unknown) (refused j) ≡ refused i → Lost i
      go true q w = absurd (let z : ◌≡◌ {A = ℕ} 0 1 = cc in omega arith)
      go false q w = (
        λ ns ds a. eqb-false s.at (length x.tokens) q (ap (λ (s : S). s.at) (same (unique r.derived a.derived)) ∙ a.all),
        halted r w,
      )
  lost (shown {o = none} r) v = (λ ns ds a. apart (unique r.derived a.derived), halted r v)
  lost weary v = absurd (let z : ◌≡◌ {A = ℕ} 0 1 = cc in omega arith)

  pub not_derived : (fuel : ℕ) {i : ℕ} {ns : List Node} {ds : List Token} → judge fuel x ≡ refused i → Tree x ns ds → ⊥
  unfolding judge
  not_derived fuel {ns = ns} {ds} v = (lost (sound body nests x fuel file 0 begin) v).0 ns ds

  pub stopped : (fuel : ℕ) {i : ℕ} → judge fuel x ≡ refused i → Stops x i
  unfolding judge
  stopped fuel v = (lost (sound body nests x fuel file 0 begin) v).1

  deep : {m : May} → Sound body nests x file 0 begin m → above m ≡ true → Deep x
  deep (shown {h = h} r) e =
      let l = ltb-true 64 h e in
      let (i, t) = r.high (omega arith) in
      record { token = i; nest = h; above = l; takes = t }
  deep weary e = absurd (let z : ◌≡◌ {A = ℕ} 0 1 = cc in omega arith)

  shallow : {m : May} → Sound body nests x file 0 begin m → within m ≡ true → Deep x → ⊥
  shallow (shown {h = h} r) e d = let l = leb-true h 64 e in let k = (r.most d.token d.nest d.takes).0 in let j = d.above in omega arith
  shallow weary e d = let z : ◌≡◌ {A = ℕ} 0 1 = cc in omega arith

  pub is_deep : (fuel : ℕ) → above (eval body nests x fuel file 0 begin) ≡ true → Deep x
  is_deep fuel e = deep (sound body nests x fuel file 0 begin) e

  pub is_shallow : (fuel : ℕ) → within (eval body nests x fuel file 0 begin) ≡ true → Deep x → ⊥
  is_shallow fuel e = shallow (sound body nests x fuel file 0 begin) e
