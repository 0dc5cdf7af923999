-- Runs of bytes in a set: laws of `run`, of `All` and of a scanner's loop. Assumes nothing.
use mathlib.Core.Path.{◌≡◌, refl}
use mathlib.Core.Bool.{Bool, true, false, cond}
use mathlib.Core.List.{List, [], ◌∷◌}
use Prim.Native.Nat.{ℕ, zero, suc, ◌+◌, ◌-◌, ◌≤◌, ◌<◌, zero-le}
use native.Mathlib.Numerals.{add-one}
use native.Mathlib.Omega.{arith}
use lib.ListN.{length, take, drop, get_or, length-drop, drop_of_length-le}
use lib.Seq.{drop-cons, take_all}
use Rattle.patterns.specs.Bytes.{in_set, letter, word, run}
use Rattle.patterns.specs.Patterns.{All, Name}
use Rattle.patterns.proofs.Table.{subset}

-- what is lent from i on
pub rest_is : (s : List ℕ) (i : ℕ) → take (length s - i) (drop i s) ≡ drop i s
rest_is s i = take_all (length s - i) (drop i s) (omega (arith, length-drop i s))

pub run_within : (f : ℕ → Bool) (s : List ℕ) → run f s ≤ length s
unfolding run
run_within f [] = zero-le
run_within f (b ∷ s) = go (f b) (run_within f s)
  where
    go : (t : Bool) → run f s ≤ length s → cond t (suc (run f s)) 0 ≤ suc (length s)
    go true h = omega arith
    go false h = zero-le

pub run_all : (f : ℕ → Bool) (s : List ℕ) → All f (take (run f s) s)
unfolding run
run_all f [] = tt
run_all f (b ∷ s) = go (f b) refl (run_all f s)
  where
    go : (t : Bool) → f b ≡ t → All f (take (run f s) s) → All f (take (cond t (suc (run f s)) 0) (b ∷ s))
    go true e h = (e, h)
    go false e h = tt

pub run_longest : (f : ℕ → Bool) (s : List ℕ) (m : ℕ) → m ≤ length s → All f (take m s) → m ≤ run f s
unfolding run
run_longest f s zero h a = zero-le
run_longest f [] (suc m) h a = absurd (omega arith)
run_longest f (b ∷ s) (suc m) h a = rw a.0 (omega (arith, run_longest f s m (omega arith) a.1))

pub run_some : (f : ℕ → Bool) (s : List ℕ) → 1 ≤ length s → f (get_or s 0 0) ≡ true → 1 ≤ run f s
unfolding run
run_some f [] h e = absurd (omega arith)
run_some f (b ∷ s) h e = rw e (omega arith)

-- ---- a scanner's loop: the first i bytes are in the set
pub record Passed (f : ℕ → Bool) (s : List ℕ) (i : ℕ) : Type 0 where
  pub within : i ≤ length s
  pub so_far : run f s ≡ i + run f (drop i s)

module _ {f : ℕ → Bool} {s : List ℕ} where
  pub passed_none : Passed f s 0
  passed_none = record { within = zero-le; so_far = omega arith }

  pub passed_more : {i : ℕ} → Passed f s i → i < length s → f (get_or s i 0) ≡ true → Passed f s (i + 1)
  unfolding run
  passed_more {i} p h e =
      let r : run f (drop i s) ≡ suc (run f (drop (i + 1) s)) = rw (add-one, drop-cons s i 0 h, e) in
      record { within = omega arith; so_far = omega (arith, p.so_far) }

  pub passed_stop : {i : ℕ} → Passed f s i → i < length s → f (get_or s i 0) ≡ false → i ≡ run f s
  unfolding run
  passed_stop {i} p h e = let r : run f (drop i s) ≡ 0 = rw (drop-cons s i 0 h, e) in omega (arith, p.so_far)

  pub passed_end : {i : ℕ} → Passed f s i → length s ≤ i → i ≡ run f s
  unfolding run
  passed_end {i} p h = let r : run f (drop i s) ≡ 0 = rw (drop_of_length-le s h) in omega (arith, p.so_far)

-- ---- strings whose bytes are all in a set
pub all_imp : (f g : ℕ → Bool) → ((b : ℕ) → f b ≡ true → g b ≡ true) → (s : List ℕ) → All f s → All g s
all_imp f g h [] a = tt
all_imp f g h (b ∷ s) a = (h b a.0, all_imp f g h s a.1)

pub all_join : (f : ℕ → Bool) (n : ℕ) (s : List ℕ) → All f (take n s) → All f (drop n s) → All f s
all_join f zero s a b = b
all_join f (suc n) [] a b = tt
all_join f (suc n) (c ∷ s) a b = (a.0, all_join f n s a.1 b)

pub all_head : (f : ℕ → Bool) (s : List ℕ) → 1 ≤ length s → All f s → f (get_or s 0 0) ≡ true
all_head f [] h a = absurd (omega arith)
all_head f (b ∷ s) h a = a.0

-- it is one run
pub run_whole : (f : ℕ → Bool) (s : List ℕ) → All f s → run f s ≡ length s
unfolding run
run_whole f [] a = refl
run_whole f (b ∷ s) a = rw (a.0, run_whole f s a.1)

-- ---- names
pub letter_word : (b : ℕ) → in_set letter b ≡ true → in_set word b ≡ true
unfolding letter word
letter_word = subset letter (in_set word) tt tt

pub name_word : (s : List ℕ) → Name s → All (in_set word) s
name_word s (n, p, q) = all_join (in_set word) n s (all_imp (in_set letter) (in_set word) letter_word (take n s) p.1) q

pub name_here : (s : List ℕ) → 1 ≤ length s → in_set letter (get_or s 0 0) ≡ true → Name (take (run (in_set word) s) s)
unfolding run
name_here [] h e = absurd (omega arith)
name_here (b ∷ s) h e = rw (letter_word b e) (1, (refl, (e, tt)), run_all (in_set word) s)
