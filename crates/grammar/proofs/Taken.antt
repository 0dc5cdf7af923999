-- Attempts leave no token out: what a derivation goes past was taken, and so was every token before one that was taken.
-- Assumes nothing.
use Prim.Native.Nat.{ℕ, suc, pred, ◌+◌, ◌≤◌, ◌<◌}
use mathlib.Core.Path.{◌≡◌, refl}
use mathlib.Core.Bool.{Bool, true, false}
use native.Mathlib.Omega.{arith}
use lib.Dec.{eqb, ltb}
use borrow.Author.Tests.{eqb-true, ltb-true, ltb-false}
use Rattle.grammar.specs.Derive.{Input, token, R, Act, Step, take, close, tick, alone, done, G, step, both, S, Out, next, yields, begin}
use Rattle.grammar.specs.Derive.{Derives, stepped, and_not, and_then, or_first, or_else, no_more, one_more, agreed, ruled}
use Rattle.grammar.specs.Derive.{Takes, here, and_left, and_right, or_left, or_right, now, later, both_first, inside}
use Rattle.grammar.specs.Grammar.{body, nests, file, Stops}
use Rattle.grammar.specs.Grammar as T
use Rattle.grammar.proofs.On.{On, off, on, on_of, on_map, on_if, on_first, on_leave}
use Rattle.grammar.proofs.Progress.{stays}

module _ (b : R → G) (w : R → ℕ) (x : Input) where
  -- attempts at g from s take every token from there up to j
  pub record Taken (g : G) (n : ℕ) (s : S) (j : ℕ) : Type 0 where
    pub each : (i : ℕ) → s.at ≤ i → i < j → (m : ℕ) × Takes b x w i m g n s

  -- f attempts all that g does, from the same place
  wider : {f g : G} {n l j : ℕ} {s t : S} → s.at ≡ t.at → ((i m : ℕ) → Takes b x w i m g l t → Takes b x w i m f n s) → Taken g l t j → Taken f n s j
  wider e put a = record { each = λ i l k. let (m, t) = a.each i (omega arith) k in (m, put i m t) }

  -- f attempts g, and h where that ends
  onward : {f g h : G} {n j : ℕ} {s t : S} → ((i m : ℕ) → Takes b x w i m g n s → Takes b x w i m f n s) → ((i m : ℕ) → Takes b x w i m h n t → Takes b x w i m f n s)
      → Taken g n s t.at → Taken h n t j → Taken f n s j
  onward {f} {n = n} {j} {s} {t} left right a c = record { each = λ i l k. go i l k (ltb i t.at) refl }
    where
      go : (i : ℕ) → s.at ≤ i → i < j → (d : Bool) → ltb i t.at ≡ d → (m : ℕ) × Takes b x w i m f n s
      go i l k true e = let (m, t) = a.each i l (ltb-true i t.at e) in (m, left i m t)
      go i l k false e = let (m, t) = c.each i (ltb-false i t.at e) k in (m, right i m t)

  nowhere : {g : G} {n : ℕ} {s : S} → Taken g n s s.at
  nowhere = record { each = λ i l k. absurd (omega arith) }

  at_once : {k i n : ℕ} {a : Act} {s : S} → (token x s.at).kind ≡ k → i ≡ suc s.at → Taken (step (take k a)) n s i
  at_once {n = n} e u = record { each = λ i l k. (n, here e (omega arith) refl) }

  passed_step : (p : Step) (n : ℕ) (s : S) → On (λ t. Taken (step p) n s t.at) (yields x p s)
  unfolding yields
  passed_step (take k a) n s =
      on_if (eqb (token x s.at).kind k) (λ e. on_map (λ t. at_once (eqb-true (token x s.at).kind k e)) (stays x a (token x s.at) (next s)))
  passed_step (close k a c) n s = on nowhere
  passed_step tick n s = on nowhere
  passed_step alone n s = on_if (eqb s.frame.parts 1) (λ e. on nowhere)
  passed_step done n s = on nowhere

  pub passed : {g : G} {s : S} {o : Out} (n : ℕ) → Derives b x g s o → On (λ t. Taken g n s t.at) o
  passed n (stepped {p = p} {s = s}) = passed_step p n s
  passed n (and_not a) = off
  passed n (and_then a c) = on_map (λ t. onward (λ i m. and_left) (λ i m. and_right a) (on_of (passed n a))) (passed n c)
  passed n (or_first a) = on_map (λ t. wider refl (λ i m. or_left)) (passed n a)
  passed n (or_else a c) = on_map (λ t. wider refl (λ i m. or_right a)) (passed n c)
  passed n (no_more a) = on nowhere
  passed n (one_more a c) = on_map (λ t. onward (λ i m. now) (λ i m. later a) (on_of (passed n a))) (passed n c)
  passed {s = s} n (agreed {g = g} {h = h} {q = q} a c) =
      on_first (Taken (both g h) n s) q (on_map (λ t. wider refl (λ i m. both_first)) (passed n a))
  passed {s = s} n (ruled {r = r} a) = on_leave s (λ t. wider refl (λ i m. inside)) (passed (n + w r) a)

  pub before : {i m n : ℕ} {g : G} {s : S} → Takes b x w i m g n s → Taken g n s (suc i)
  before (here e u v) = at_once e (omega arith)
  before (and_left t) = wider refl (λ i m. and_left) (before t)
  before {n = n} (and_right d t) = onward (λ i m. and_left) (λ i m. and_right d) (on_of (passed n d)) (before t)
  before (or_left t) = wider refl (λ i m. or_left) (before t)
  before (or_right d t) = wider refl (λ i m. or_right d) (before t)
  before (now t) = wider refl (λ i m. now) (before t)
  before {n = n} (later d t) = onward (λ i m. now) (λ i m. later d) (on_of (passed n d)) (before t)
  before (both_first t) = wider refl (λ i m. both_first) (before t)
  before (inside t) = wider refl (λ i m. inside) (before t)

-- a text stops at j, if no token there or later is taken, and the one before it is
pub stops : {x : Input} {j : ℕ} → ((i m : ℕ) → Takes body x nests i m file 0 begin → i < j) → (1 ≤ j → T.Taken x (pred j)) → Stops x j
stops {x} {j} most far =
    record {
      taken = λ i l. let (m, t) = far (omega arith) in (before body nests x t).each i (omega arith) (omega arith);
      untaken = λ t. let l = most j t.0 t.1 in omega arith;
    }
