-- A derivation never goes back, and a grammar that eats takes a token: told by a test on the grammar, given one on each rule.
-- Assumes nothing.
use Prim.Native.Nat.{ℕ, zero, suc, ◌≤◌, ◌<◌}
use mathlib.Core.Path.{◌≡◌, refl}
use mathlib.Core.Bool.{Bool, true, false, not, ◌&&◌, ◌||◌}
use native.Mathlib.Omega.{arith}
use native.Mathlib.Nat.{le_refl, le_trans}
use lib.Dec.{T, eqb}
use lib.ListN.{length}
use borrow.Author.Tests.{eqb-true}
use Rattle.grammar.specs.Derive.{Token, Input, token, R, Act, skip, leaf, named, literal, count, index, mark, Step, take, close, tick, alone, done}
use Rattle.grammar.specs.Derive.{G, step, ◌&◌, ◌or◌, many, both, rule, S, Out, next, act, yields}
use Rattle.grammar.specs.Derive.{Derives, stepped, and_not, and_then, or_first, or_else, no_more, one_more, agreed, ruled}
use Rattle.patterns.proofs.Tests.{and_l, and_r}
use Rattle.grammar.proofs.On.{On, off, on, on_of, on_map, on_if, on_agree, on_leave, is_token}

-- the state stands at i or later
abbrev pub Past : ℕ → S → Type 0
Past i t = i ≤ t.at

-- what becomes of a token moves nothing
pub stays : (x : Input) (a : Act) (t : Token) (s : S) → On (λ u. u.at ≡ s.at) (act x a t s)
stays x skip t s = on refl
stays x (leaf k v) t s = on refl
stays x named t s = on refl
stays x literal t s = on refl
stays x count t s = on_if (eqb t.suffix 0) (λ e. on refl)
stays x index t s = on_if (eqb t.suffix 0) (λ e. on refl)
stays x (mark m) t s = on refl

past_run : (x : Input) (p : Step) (s : S) → On (Past s.at) (yields x p s)
unfolding yields
past_run x (take k a) s = on_if (eqb (token x s.at).kind k) (λ e. on_map (λ t l. omega arith) (stays x a (token x s.at) (next s)))
past_run x (close k a b) s = on (le_refl _)
past_run x tick s = on (le_refl _)
past_run x alone s = on_if (eqb s.frame.parts 1) (λ e. on (le_refl _))
past_run x done s = on (le_refl _)

pub grows : {b : R → G} {x : Input} {g : G} {s : S} {o : Out} → Derives b x g s o → On (Past s.at) o
grows {x = x} (stepped {p = p} {s = s}) = past_run x p s
grows (and_not a) = off
grows (and_then a c) = on_map (λ t. le_trans (on_of (grows a))) (grows c)
grows (or_first a) = grows a
grows (or_else a c) = grows c
grows (no_more a) = on (le_refl _)
grows (one_more a c) = on_map (λ t. le_trans (on_of (grows a))) (grows c)
grows (agreed {o = o} a c) = on_agree o (grows c)
grows {s = s} (ruled a) = on_leave s (λ t l. l) (grows a)

-- whether all that g derives takes a token, if the rules that σ marks do
abbrev pub eats : (R → Bool) → G → Bool
eats σ (step (take k a)) = true
eats σ (step (close k a b)) = false
eats σ (step tick) = false
eats σ (step alone) = false
eats σ (step done) = false
eats σ (g & h) = eats σ g || eats σ h
eats σ (g or h) = eats σ g && eats σ h
eats σ (many g) = false
eats σ (both g h) = eats σ h
eats σ (rule r) = σ r

-- no token of kind 0 is wanted, and every round eats
abbrev pub sane? : (R → Bool) → G → Bool
sane? σ (step (take k a)) = not (eqb k 0)
sane? σ (step (close k a b)) = true
sane? σ (step tick) = true
sane? σ (step alone) = true
sane? σ (step done) = true
sane? σ (g & h) = sane? σ g && sane? σ h
sane? σ (g or h) = sane? σ g && sane? σ h
sane? σ (many g) = eats σ g && sane? σ g
sane? σ (both g h) = sane? σ g && sane? σ h
sane? σ (rule r) = true

-- the same, taken apart
abbrev pub Sane : (R → Bool) → G → Type 0
Sane σ (step (take k a)) = T (not (eqb k 0))
Sane σ (step (close k a b)) = Unit {0}
Sane σ (step tick) = Unit {0}
Sane σ (step alone) = Unit {0}
Sane σ (step done) = Unit {0}
Sane σ (g & h) = Sane σ g × Sane σ h
Sane σ (g or h) = Sane σ g × Sane σ h
Sane σ (many g) = T (eats σ g) × Sane σ g
Sane σ (both g h) = Sane σ g × Sane σ h
Sane σ (rule r) = Unit {0}

pub sane_of : (σ : R → Bool) (g : G) → T (sane? σ g) → Sane σ g
sane_of σ (step (take k a)) t = t
sane_of σ (step (close k a b)) t = tt
sane_of σ (step tick) t = tt
sane_of σ (step alone) t = tt
sane_of σ (step done) t = tt
sane_of σ (g & h) t = (sane_of σ g (and_l (sane? σ g) (sane? σ h) t), sane_of σ h (and_r (sane? σ g) (sane? σ h) t))
sane_of σ (g or h) t = (sane_of σ g (and_l (sane? σ g) (sane? σ h) t), sane_of σ h (and_r (sane? σ g) (sane? σ h) t))
sane_of σ (many g) t = (and_l (eats σ g) (sane? σ g) t, sane_of σ g (and_r (eats σ g) (sane? σ g) t))
sane_of σ (both g h) t = (sane_of σ g (and_l (sane? σ g) (sane? σ h) t), sane_of σ h (and_r (sane? σ g) (sane? σ h) t))
sane_of σ (rule r) t = tt

-- the state stands past i, and i is the place of a token
abbrev pub Ate : ℕ → ℕ → S → Type 0
Ate i n t = (i < t.at) × (i < n)

wanted : (k : ℕ) → T (not (eqb k 0)) → 1 ≤ k
wanted zero z = absurd z
wanted (suc k) z = omega arith

ate_either : {o : Out} (i n : ℕ) (t : S) (p q : Bool) → T (p || q) → (T p → Ate i n t) → (T q → On (Ate t.at n) o) → Past i t → On (Past t.at) o → On (Ate i n) o
ate_either i n t true q z f g h k = let e = f tt in on_map (λ u l. omega arith) k
ate_either i n t false q z f g h k = on_map (λ u l. omega arith) (g z)

module _ (b : R → G) (x : Input) (σ : R → Bool) (eating : (r : R) → T (σ r) → T (eats σ (b r))) (sane : (r : R) → Sane σ (b r)) where
  ate_run : (p : Step) (s : S) → T (eats σ (step p)) → Sane σ (step p) → On (Ate s.at (length x.tokens)) (yields x p s)
  unfolding yields
  ate_run (take k a) s t z =
      on_if
      (eqb (token x s.at).kind k)
      (λ e. on_map (λ u l. (omega arith, is_token x s.at k (eqb-true (token x s.at).kind k e) (wanted k z))) (stays x a (token x s.at) (next s)))
  ate_run (close k a c) s t z = absurd t
  ate_run tick s t z = absurd t
  ate_run alone s t z = absurd t
  ate_run done s t z = absurd t

  pub eaten : {g : G} {s : S} {o : Out} → T (eats σ g) → Sane σ g → Derives b x g s o → On (Ate s.at (length x.tokens)) o
  eaten t z (stepped {p = p} {s = s}) = ate_run p s t z
  eaten t z (and_not a) = off
  eaten {s = s} y z (and_then {g = g} {h = h} {t = t} a c) =
      ate_either s.at (length x.tokens) t (eats σ g) (eats σ h) y (λ u. on_of (eaten u z.0 a)) (λ u. eaten u z.1 c) (on_of (grows a)) (grows c)
  eaten t z (or_first {g = g} {h = h} a) = eaten (and_l (eats σ g) (eats σ h) t) z.0 a
  eaten t z (or_else {g = g} {h = h} a c) = eaten (and_r (eats σ g) (eats σ h) t) z.1 c
  eaten t z (no_more a) = absurd t
  eaten t z (one_more a c) = absurd t
  eaten t z (agreed {o = o} a c) = on_agree o (eaten t z.1 c)
  eaten {s = s} t z (ruled {r = r} a) = on_leave s (λ u l. l) (eaten (eating r t) (sane r) a)
