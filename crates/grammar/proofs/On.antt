-- What holds of the state derived, if there is one.
-- Assumes nothing.
use Prim.Native.Nat.{ℕ, zero, suc, ◌≤◌, ◌<◌}
use mathlib.Core.Path.{◌≡◌, refl, subst}
use mathlib.Core.Bool.{Bool, true, false, cond}
use mathlib.Core.List.{List, [], ◌∷◌}
use native.Mathlib.Omega.{arith}
use lib.Dec.{eqb}
use lib.ListN.{length, get_or}
use borrow.Author.Tests.{eqb-true}
use Rattle.grammar.specs.Derive.{Token, Input, token, S, Out, got, none, agree, part, leave}

pub data On (P : S → Type 0) : Out → Type 0 where
  off : On P none
  on : {t : S} → P t → On P (got t)

pub on_of : {P : S → Type 0} {t : S} → On P (got t) → P t
on_of (on p) = p

pub on_map : {P Q : S → Type 0} {o : Out} → ((t : S) → P t → Q t) → On P o → On Q o
on_map f off = off
on_map f (on {t = t} p) = on (f t p)

pub on_if : {P : S → Type 0} {o : Out} (b : Bool) → (b ≡ true → On P o) → On P (cond b o none)
on_if true f = f refl
on_if false f = off

pub on_agree : {P : S → Type 0} {q : Out} (o : Out) → On P q → On P (agree o q)
unfolding agree
on_agree (got a) off = off
on_agree none off = off
on_agree (got a) (on {t = b} p) = on_if (eqb a.at b.at) (λ e. on p)
on_agree none (on p) = off

-- what an agreement derives stands where its first does
pub on_first : {o : Out} (P : ℕ → Type 0) (q : Out) → On (λ t. P t.at) o → On (λ t. P t.at) (agree o q)
unfolding agree
on_first P (got b) off = off
on_first P none off = off
on_first P (got b) (on {t = a} p) = on_if (eqb a.at b.at) (λ e. on (subst P (eqb-true a.at b.at e) p))
on_first P none (on p) = off

-- the state t of a rule read from s, seen from outside
abbrev pub left : S → S → S
left s t = record { at = t.at; nodes = t.nodes; unknown = t.unknown; frame = part t.frame.from t.frame.to s.frame }

pub on_leave : {P Q : S → Type 0} {o : Out} (s : S) → ((t : S) → P t → Q (left s t)) → On P o → On Q (leave s o)
unfolding leave
on_leave s f off = off
on_leave s f (on {t = t} p) = on (f t p)

-- past the last token stands one of kind 0
reached : (ts : List Token) (i k : ℕ) → (get_or ts i (record { kind = 0; suffix = 0; start = 0; end = 0; base = 0; value = 0 })).kind ≡ k → 1 ≤ k → i < length ts
reached [] i k e h = absurd (omega arith)
reached (t ∷ ts) zero k e h = omega arith
reached (t ∷ ts) (suc i) k e h = omega (arith, reached ts i k e h)

pub is_token : (x : Input) (i k : ℕ) → (token x i).kind ≡ k → 1 ≤ k → i < length x.tokens
is_token x i k e h = reached x.tokens i k e h
