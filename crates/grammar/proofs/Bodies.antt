-- A test that every rule passes, computed at each rule and at each level. Assumes nothing.
use Prim.Native.Nat.{ℕ, zero, suc}
use mathlib.Core.Bool.{Bool, true, ◌&&◌}
use mathlib.Core.List.{List, [], ◌∷◌}
use lib.Dec.{T}
use lib.ListN.{get_or}
use Rattle.patterns.proofs.Tests.{and_l, and_r}
use Rattle.grammar.specs.Derive.{R, type, alloc, pattern, expr, stmt, unary, init_let, init_action, for_step, param, unit, item, level}

-- level (5 + n) stands for all levels from the fifth on
abbrev pub rules : ℕ → List R
rules n =
    type ∷ alloc ∷ pattern ∷ expr ∷ stmt ∷ unary ∷ init_let ∷ init_action ∷ for_step ∷ param ∷ unit ∷ item
    ∷ level 0 ∷ level 1 ∷ level 2 ∷ level 3 ∷ level 4 ∷ level (suc (suc (suc (suc (suc n))))) ∷ []

abbrev pub pass : (R → Bool) → List R → Bool
pass f [] = true
pass f (r ∷ l) = f r && pass f l

nth : (f : R → Bool) (l : List R) (d : R) → T (f d) → T (pass f l) → (k : ℕ) → T (f (get_or l k d))
nth f [] d e t k = e
nth f (r ∷ l) d e t zero = and_l (f r) (pass f l) t
nth f (r ∷ l) d e t (suc k) = nth f l d e (and_r (f r) (pass f l) t) k

at : (f : R → Bool) (n : ℕ) → T (pass f (rules n)) → (k : ℕ) → T (f (get_or (rules n) k type))
at f n t k = nth f (rules n) type (and_l (f type) _ t) t k

pub every : (f : R → Bool) → ((n : ℕ) → T (pass f (rules n))) → (r : R) → T (f r)
every f t type = at f 0 (t 0) 0
every f t alloc = at f 0 (t 0) 1
every f t pattern = at f 0 (t 0) 2
every f t expr = at f 0 (t 0) 3
every f t stmt = at f 0 (t 0) 4
every f t unary = at f 0 (t 0) 5
every f t init_let = at f 0 (t 0) 6
every f t init_action = at f 0 (t 0) 7
every f t for_step = at f 0 (t 0) 8
every f t param = at f 0 (t 0) 9
every f t unit = at f 0 (t 0) 10
every f t item = at f 0 (t 0) 11
every f t (level zero) = at f 0 (t 0) 12
every f t (level (suc zero)) = at f 0 (t 0) 13
every f t (level (suc (suc zero))) = at f 0 (t 0) 14
every f t (level (suc (suc (suc zero)))) = at f 0 (t 0) 15
every f t (level (suc (suc (suc (suc zero))))) = at f 0 (t 0) 16
every f t (level (suc (suc (suc (suc (suc n)))))) = at f n (t n) 17
