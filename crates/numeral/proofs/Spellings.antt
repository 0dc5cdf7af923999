-- A spelling is a digit and then letters, digits and `_`; the longest one is the whole run of them. Assumes nothing.
use mathlib.Core.Path.{◌≡◌, refl, sym, subst}
use mathlib.Core.Bool.{Bool, true, false, cond, ◌||◌}
use mathlib.Core.Logic.{inl, inr}
use mathlib.Core.List.{List, [], ◌∷◌}
use Prim.Native.Nat.{ℕ, suc, ◌≤◌}
use native.Mathlib.Omega.{arith}
use lib.Dec.{T, lit≤}
use lib.ListN.{length, take, drop, get_or, length-take}
use lib.Seq.{get_or-take}
use Rattle.patterns.specs.Bytes.{Set, in_set, either, letter, word, digit, hex, octal, binary, run}
use Rattle.patterns.specs.Patterns.{All, Name, text, one_of, some_of, optional, ◌then◌}
use Rattle.patterns.proofs.Tests.{implies}
use Rattle.patterns.proofs.Table.{small, below, subset}
use Rattle.patterns.proofs.Runs.{all_imp, all_join, all_head, run_all, run_some, run_within, name_word}
use Rattle.numeral.specs.Spelling.{Digits, Spelling}

-- a string of letters, digits and `_` that begins with a digit
pub record Begins (s : List ℕ) : Type 0 where
  pub some : 1 ≤ length s
  pub head : in_set digit (get_or s 0 0) ≡ true
  pub all : All (in_set word) s

begins_join : (n : ℕ) (s : List ℕ) → Begins (take n s) → All (in_set word) (drop n s) → Begins s
begins_join n s b a =
    record {
      some = omega (arith, length-take n s);
      head = subst (λ (c : ℕ). in_set digit c ≡ true) (get_or-take n s 0 0 (omega (arith, length-take n s))) b.head;
      all = all_join (in_set word) n s b.all a;
    }

-- the set's bytes are all letters, digits or `_`: one computed test
inside : (f : Set) → T (small f) → T (below 256 (λ b. implies (in_set f b) (in_set word b))) → (s : List ℕ) → All (in_set f) s → All (in_set word) s
inside f p q = all_imp (in_set f) (in_set word) (subset f (in_set word) p q)

based : (f g : Set) → ((s : List ℕ) → All (in_set f) s → All (in_set word) s) → ((s : List ℕ) → All (in_set g) s → All (in_set word) s)
    → (s : List ℕ) → (text "0" then one_of f then some_of g) s → Begins s
unfolding digit word
based f g p q s (m, a, (k, x, y)) =
    begins_join m s (subst Begins (sym a) (record { some = lit≤ tt; head = refl; all = (refl, tt) }))
    (all_join (in_set word) k (drop m s) (p (take k (drop m s)) x.1) (q (drop k (drop m s)) y.1))

digits_begin : (s : List ℕ) → Digits s → Begins s
unfolding word digit hex octal binary
digits_begin s (inl d) = based (either "x" "X") hex (inside (either "x" "X") tt tt) (inside hex tt tt) s d
digits_begin s (inr (inl d)) = based (either "o" "O") octal (inside (either "o" "O") tt tt) (inside octal tt tt) s d
digits_begin s (inr (inr (inl d))) = based (either "b" "B") binary (inside (either "b" "B") tt tt) (inside binary tt tt) s d
digits_begin s (inr (inr (inr d))) = record { some = d.0; head = all_head (in_set digit) s d.0 d.1; all = inside digit tt tt s d.1 }

pub spelling_begins : (s : List ℕ) → Spelling s → Begins s
spelling_begins s (n, d, inl e) = begins_join n s (digits_begin (take n s) d) (subst (All (in_set word)) (sym e) tt)
spelling_begins s (n, d, inr e) = begins_join n s (digits_begin (take n s) d) (name_word (drop n s) e)

pub spelling_word : (s : List ℕ) → Spelling s → All (in_set word) s
spelling_word s p = (spelling_begins s p).all

pub spelling_head : (s : List ℕ) → Spelling s → in_set digit (get_or s 0 0) ≡ true
spelling_head s p = (spelling_begins s p).head

pub spelling_some : (s : List ℕ) → Spelling s → 1 ≤ length s
spelling_some s p = (spelling_begins s p).some

-- the decimal digits, and after them nothing or a name
after_digits : (s : List ℕ) → All (in_set word) s → optional Name (drop (run (in_set digit) s) s)
unfolding run word digit letter
after_digits [] a = inl refl
after_digits (b ∷ s) a = go (in_set digit b) refl (after_digits s a.1)
  where
    not_digit : (c : ℕ) → in_set word c ≡ true → (in_set digit c || in_set letter c) ≡ true
    not_digit = subset word (λ c. in_set digit c || in_set letter c) tt tt

    go : (t : Bool) → in_set digit b ≡ t → optional Name (drop (run (in_set digit) s) s) → optional Name (drop (cond t (suc (run (in_set digit) s)) 0) (b ∷ s))
    go true e o = o
    go false e o = inr (1, (refl, (rw e at (not_digit b a.0), tt)), a.1)

pub begins_spelling : (s : List ℕ) → Begins s → Spelling s
begins_spelling s b =
    let f = in_set digit in
    (run f s, inr (inr (inr (omega (arith, length-take (run f s) s, run_within f s, run_some f s b.some b.head), run_all f s))), after_digits s b.all)

pub spelling_here : (s : List ℕ) → 1 ≤ length s → in_set digit (get_or s 0 0) ≡ true → Spelling (take (run (in_set word) s) s)
unfolding digit word
spelling_here s h e =
    let n = run (in_set word) s in
    let m = run_some (in_set word) s h (digit_word (get_or s 0 0) e) in
    begins_spelling (take n s)
    (record { some = omega (arith, length-take n s); head = rw get_or-take e; all = run_all (in_set word) s })
  where
    digit_word : (b : ℕ) → in_set digit b ≡ true → in_set word b ≡ true
    digit_word = subset digit (in_set word) tt tt
