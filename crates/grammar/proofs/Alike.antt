-- What a grammar derives and takes hangs on the place and the frame, not on the nodes or literals so far; for a rule it hangs on the place alone.
-- Assumes nothing.
use Prim.Native.Nat.{ℕ, suc}
use mathlib.Core.Path.{◌≡◌, refl, sym, ◌∙◌, ap}
use mathlib.Core.Bool.{Bool, true, false, cond}
use mathlib.Core.List.{List}
use lib.Dec.{eqb}
use Rattle.grammar.specs.Derive.{Token, Node, Input, token, R, Act, skip, leaf, named, literal, count, index, mark, Step, take, close, tick, alone, done}
use Rattle.grammar.specs.Derive.{Start, first_token, first_part, from_nowhere, End, last_token, last_part, call_end, to_nowhere}
use Rattle.grammar.specs.Derive.{G, ◌&◌, rule, Frame, S, Out, got, none, starts, ends, closed, act, yields, enter, agree, leave}
use Rattle.grammar.specs.Derive.{Derives, stepped, and_not, and_then, or_first, or_else, no_more, one_more, agreed, ruled}
use Rattle.grammar.specs.Derive.{Takes, here, and_left, and_right, or_left, or_right, now, later, both_first, inside}
use Rattle.grammar.specs.Grammar.{tok}

-- one place and one frame; nodes and literals so far may differ
pub data Alike : S → S → Type 0 where
  alike : {i : ℕ} {f : Frame} {ns ms : List Node} {us vs : List Token}
      → Alike (record { at = i; nodes = ns; unknown = us; frame = f }) (record { at = i; nodes = ms; unknown = vs; frame = f })

-- one place
abbrev pub Beside : S → S → Type 0
Beside s t = s.at ≡ t.at

beside : {s t : S} → Alike s t → Beside s t
beside alike = refl

-- both none, or states in the relation P
pub data Outs (P : S → S → Type 0) : Out → Out → Type 0 where
  nones : Outs P none none
  gots : {s t : S} → P s t → Outs P (got s) (got t)

-- g derives from t an outcome to which o stands in the relation P
pub data Likewise (P : S → S → Type 0) (b : R → G) (x : Input) (g : G) (t : S) (o : Out) : Type 0 where
  likewise : {q : Out} → Outs P o q → Derives b x g t q → Likewise P b x g t o

outs_if : {P : S → S → Type 0} {o q : Out} (c : Bool) → Outs P o q → Outs P (cond c o none) (cond c q none)
outs_if true e = e
outs_if false e = nones

alike_act : {s t : S} (x : Input) (a : Act) (k : Token) → Alike s t → Outs Alike (act x a k s) (act x a k t)
alike_act x skip k alike = gots alike
alike_act x (leaf n v) k alike = gots alike
alike_act x named k alike = gots alike
alike_act x literal k alike = gots alike
alike_act x count k alike = outs_if (eqb k.suffix 0) (gots alike)
alike_act x index k alike = outs_if (eqb k.suffix 0) (gots alike)
alike_act x (mark n) k alike = gots alike

alike_starts : {s t : S} (x : Input) (a : Start) → Alike s t → starts x a s ≡ starts x a t
alike_starts x first_token alike = refl
alike_starts x first_part alike = refl
alike_starts x from_nowhere alike = refl

alike_ends : {s t : S} (x : Input) (a : End) → Alike s t → ends x a s ≡ ends x a t
alike_ends x last_token alike = refl
alike_ends x last_part alike = refl
alike_ends x call_end alike = refl
alike_ends x to_nowhere alike = refl

alike_closed : {s t : S} {i j m n : ℕ} (k : ℕ) → i ≡ j → m ≡ n → Alike s t → Alike (closed k i m s) (closed k j n t)
alike_closed k e f alike = rw (e, f) alike

alike_step : {s t : S} (x : Input) (p : Step) → Alike s t → Outs Alike (yields x p s) (yields x p t)
unfolding yields
alike_step x (take k a) (alike {i = i}) = outs_if (eqb (token x i).kind k) (alike_act x a (token x i) alike)
alike_step x (close k a b) e = gots (alike_closed k (alike_starts x a e) (alike_ends x b e) e)
alike_step x tick alike = gots alike
alike_step x alone (alike {f = f}) = outs_if (eqb f.parts 1) (gots alike)
alike_step x done alike = gots alike

alike_agree : {o p q r : Out} → Outs Alike o p → Outs Alike q r → Outs Alike (agree o q) (agree p r)
unfolding agree
alike_agree nones nones = nones
alike_agree nones (gots e) = nones
alike_agree (gots e) nones = nones
alike_agree (gots (alike {i = i})) (gots (alike {i = j})) = outs_if (eqb i j) (gots alike)

alike_leave : {s t : S} {o q : Out} → Alike s t → Outs Alike o q → Outs Alike (leave s o) (leave t q)
unfolding leave
alike_leave alike nones = nones
alike_leave alike (gots alike) = gots alike

beside_leave : {o q : Out} (s t : S) → Outs Alike o q → Outs Beside (leave s o) (leave t q)
unfolding leave
beside_leave s t nones = nones
beside_leave s t (gots alike) = gots refl

-- a rule is read in a fresh frame, whatever is around it
alike_enter : (s t : S) → Beside s t → Alike (enter s) (enter t)
alike_enter s t e = rw e alike

-- the frame is not looked at for a token that leaves nothing
beside_take : (x : Input) (k : ℕ) (s t : S) → Beside s t → Outs Beside (yields x (take k skip) s) (yields x (take k skip) t)
unfolding yields
beside_take x k s t e = rw (ap (λ i. eqb (token x i).kind k) e) (outs_if (eqb (token x t.at).kind k) (gots (ap suc e)))

module _ {b : R → G} {x : Input} where
  fails : {P : S → S → Type 0} {g : G} {t : S} → Likewise P b x g t none → Derives b x g t none
  fails (likewise nones d) = d

  pub alike_derives : {g : G} {s t : S} {o : Out} → Alike s t → Derives b x g s o → Likewise Alike b x g t o
  alike_derives e (stepped {p = p}) = likewise (alike_step x p e) stepped
  alike_derives e (and_not a) = likewise nones (and_not (fails (alike_derives e a)))
  alike_derives e (and_then a c) = elim (alike_derives e a) [ likewise (gots f) d ↦ elim (alike_derives f c) [ likewise q h ↦ likewise q (and_then d h) ] ]
  alike_derives e (or_first a) = elim (alike_derives e a) [ likewise (gots f) d ↦ likewise (gots f) (or_first d) ]
  alike_derives e (or_else a c) = elim (alike_derives e c) [ likewise q h ↦ likewise q (or_else (fails (alike_derives e a)) h) ]
  alike_derives e (no_more a) = likewise (gots e) (no_more (fails (alike_derives e a)))
  alike_derives e (one_more a c) = elim (alike_derives e a) [ likewise (gots f) d ↦ elim (alike_derives f c) [ likewise q h ↦ likewise q (one_more d h) ] ]
  alike_derives e (agreed a c) = elim (alike_derives e a) [ likewise p d ↦ elim (alike_derives e c) [ likewise q h ↦ likewise (alike_agree p q) (agreed d h) ] ]
  alike_derives {s = s} {t = t} e (ruled a) = elim (alike_derives (alike_enter s t (beside e)) a) [ likewise q d ↦ likewise (alike_leave e q) (ruled d) ]

  -- whether a rule fails, and else where it ends, hangs on where it begins
  pub beside_rule : {r : R} {s t : S} {o : Out} → Beside s t → Derives b x (rule r) s o → Likewise Beside b x (rule r) t o
  beside_rule {s = s} {t = t} e (ruled a) = elim (alike_derives (alike_enter s t e) a) [ likewise q d ↦ likewise (beside_leave s t q) (ruled d) ]

  pub alike_rule : {r : R} {s t : S} → Beside s t → Derives b x (rule r) s none → Derives b x (rule r) t none
  alike_rule e d = fails (beside_rule e d)

  beside_tok : {k : ℕ} {s t : S} {o : Out} → Beside s t → Derives b x (tok k) s o → Likewise Beside b x (tok k) t o
  beside_tok {k} {s} {t} e stepped = likewise (beside_take x k s t e) stepped

  -- the token is taken in the frame around, so the two states are not alike
  pub alike_then : {k : ℕ} {r : R} {s t : S} → Beside s t → Derives b x (tok k & rule r) s none → Derives b x (tok k & rule r) t none
  alike_then e (and_not a) = and_not (fails (beside_tok e a))
  alike_then {t = t} e (and_then a c) = elim (beside_tok {t = t} e a) [ likewise (gots f) d ↦ and_then d (alike_rule f c) ]

  module _ {nests : R → ℕ} {i m : ℕ} where
    pub alike_takes : {g : G} {n : ℕ} {s t : S} → Alike s t → Takes b x nests i m g n s → Takes b x nests i m g n t
    alike_takes alike (here h p q) = here h p q
    alike_takes e (and_left u) = and_left (alike_takes e u)
    alike_takes e (and_right d u) = elim (alike_derives e d) [ likewise (gots f) c ↦ and_right c (alike_takes f u) ]
    alike_takes e (or_left u) = or_left (alike_takes e u)
    alike_takes e (or_right d u) = or_right (fails (alike_derives e d)) (alike_takes e u)
    alike_takes e (now u) = now (alike_takes e u)
    alike_takes e (later d u) = elim (alike_derives e d) [ likewise (gots f) c ↦ later c (alike_takes f u) ]
    alike_takes e (both_first u) = both_first (alike_takes e u)
    alike_takes {s = s} {t = t} e (inside u) = inside (alike_takes (alike_enter s t (beside e)) u)

    pub takes_rule : {r : R} {n : ℕ} {s t : S} → Beside s t → Takes b x nests i m (rule r) n s → Takes b x nests i m (rule r) n t
    takes_rule {s = s} {t = t} e (inside u) = inside (alike_takes (alike_enter s t e) u)

    pub takes_then : {k : ℕ} {r : R} {n : ℕ} {s t : S} → Beside s t → Takes b x nests i m (tok k & rule r) n s → Takes b x nests i m (tok k & rule r) n t
    takes_then e (and_left (here h p q)) = and_left (here (ap (λ j. (token x j).kind) (sym e) ∙ h) (sym e ∙ p) q)
    takes_then {t = t} e (and_right d u) = elim (beside_tok {t = t} e d) [ likewise (gots f) c ↦ and_right c (takes_rule f u) ]
