-- The numeral entry: what `is_spelling` decides, and that its answers are determined. Assumes nothing.
use mathlib.Core.Path.{◌≡◌, refl, sym, ap, subst, ◌∙◌}
use mathlib.Core.Bool.{Bool, true, false, cond, ◌&&◌, false≢true}
use mathlib.Core.List.{List, [], ◌∷◌}
use Prim.Native.Nat.{ℕ, ◌≤◌, ◌<◌}
use native.Mathlib.Omega.{arith}
use lib.Dec.{ltb, eqb, eqb→eq}
use lib.ListN.{length, take, get_or, get_or-eq_default}
use lib.Seq.{take_all}
use borrow.Author.Tests.{eq-eqb, le-ltb, lt-ltb}
use Rattle.patterns.specs.Bytes.{in_set, digit, word, run}
use Rattle.patterns.specs.Patterns.{All}
use Rattle.patterns.proofs.Tests.{T_of, of_T, and_l, and_r}
use Rattle.numeral.specs.Spelling.{Spelling}
use Rattle.numeral.specs.Numeral.{numeral_of}
use Rattle.std.specs.Prelude.{Result, Ok, Err, MatchResult, IsErrAnd}
use Rattle.numeral.specs.Entry.{AnswerIs, long, spelling, lexical, number}
use Rattle.numeral.specs.declared.NumberLiteral.{NumberLiteral}
use Rattle.numeral.specs.declared.NumberParseError.{NumberParseError}
use Rattle.numeral.specs.declared.NumeralError.{NumeralError}
use Rattle.numeral.proofs.Spellings.{Begins, begins_spelling, spelling_begins, spelling_head, spelling_word}
use Rattle.patterns.proofs.Runs.{run_all, run_whole}

-- what the reading of a spelling is to the numeral entry
abbrev literal_answer : Result NumberLiteral NumberParseError → Result NumberLiteral NumeralError
literal_answer (Ok n) = Ok n
literal_answer (Err e) = Err (NumeralError.Lexical e)

-- ---- a numeral spelling: a digit first, and no byte after the run of letters, digits and `_`
abbrev spelled : List ℕ → Bool
spelled s = in_set digit (get_or s 0 0) && eqb (run (in_set word) s) (length s)

all_run : (s : List ℕ) → length s ≤ run (in_set word) s → All (in_set word) s
all_run s h = subst (All (in_set word)) (take_all (run (in_set word) s) s h) (run_all (in_set word) s)

head_begins : (s : List ℕ) → in_set digit (get_or s 0 0) ≡ true → length s ≤ run (in_set word) s → Begins s
unfolding digit
head_begins [] e h = absurd (false≢true e)
head_begins (b ∷ s) e h = record { some = omega arith; head = e; all = all_run (b ∷ s) h }

spelled_begins : (s : List ℕ) → spelled s ≡ true → Begins s
spelled_begins s e =
    let t = T_of e in
    head_begins s (of_T _ (and_l (in_set digit (get_or s 0 0)) (eqb (run (in_set word) s) (length s)) t)) (omega (arith, eqb→eq _ _ (and_r (in_set digit (get_or s 0 0)) (eqb (run (in_set word) s) (length s)) t)))

begins_spelled : (s : List ℕ) → Begins s → spelled s ≡ true
begins_spelled s b = rw (b.head, eq-eqb _ _ (run_whole (in_set word) s b.all))

pub no_head : (s : List ℕ) → length s < 1 → false ≡ in_set digit (get_or s 0 0)
unfolding digit
no_head s h = rw (get_or-eq_default s 0 {n = 0} (omega arith)) refl

-- ---- the answer, as `answer` finds it
pub answer_long : (s : List ℕ) → 65535 < length s → AnswerIs s (Err NumeralError.Long)
answer_long s h = long h

module _ (s : List ℕ) (h : length s ≤ 65535) where
  pub answer_head : in_set digit (get_or s 0 0) ≡ false → AnswerIs s (Err NumeralError.Spelling)
  answer_head e = spelling h (λ p. false≢true (sym e ∙ spelling_head s p))

  pub answer_short : {k : ℕ} → k ≡ run (in_set word) s → k < length s → AnswerIs s (Err NumeralError.Spelling)
  answer_short e l = spelling h (λ p. omega (arith, run_whole (in_set word) s (spelling_word s p)))

  pub answer_read : {k : ℕ} (l : Result NumberLiteral NumberParseError) (a : Result NumberLiteral NumeralError) → in_set digit (get_or s 0 0) ≡ true → k ≡ run (in_set word) s → length s ≤ k → l ≡ numeral_of (take k s) → MatchResult l (λ x. a ≡ Ok x) (λ e. IsErrAnd a (λ y. y ≡ NumeralError.Lexical e)) → AnswerIs s a
  answer_read {k} l a e q z p m = go l a (sym (p ∙ ap numeral_of (take_all k s z))) m
    where
      is : Spelling s
      is = begins_spelling s (head_begins s e (omega arith))

      go : (l : Result NumberLiteral NumberParseError) (a : Result NumberLiteral NumeralError) → numeral_of s ≡ l → MatchResult l (λ x. a ≡ Ok x) (λ e. IsErrAnd a (λ y. y ≡ NumeralError.Lexical e)) → AnswerIs s a
      go (Ok n) a p m = rw m (number h is p)
      go (Err x) (Ok n) p m = absurd m
      go (Err x) (Err y) p m = rw m (lexical h is p)

-- ---- the answer is determined
answer_of : List ℕ → Result NumberLiteral NumeralError
answer_of s = cond (ltb 65535 (length s)) (Err NumeralError.Long) (cond (spelled s) (literal_answer (numeral_of s)) (Err NumeralError.Spelling))

answer_spelt : (s : List ℕ) (l : Result NumberLiteral NumberParseError) → length s ≤ 65535 → Spelling s → numeral_of s ≡ l → literal_answer l ≡ answer_of s
unfolding answer_of
answer_spelt s l h p e = rw (le-ltb 65535 (length s) h, begins_spelled s (spelling_begins s p), e)

answer_of_is : {s : List ℕ} {a : Result NumberLiteral NumeralError} → AnswerIs s a → a ≡ answer_of s
unfolding answer_of
answer_of_is {s} (long h) = rw (lt-ltb 65535 (length s) h)
answer_of_is {s} (spelling h f) = rw (le-ltb 65535 (length s) h, go (spelled s) refl)
  where
    go : (t : Bool) → spelled s ≡ t → spelled s ≡ false
    go true e = absurd (f (begins_spelling s (spelled_begins s e)))
    go false e = e
answer_of_is {s} (lexical {e} h p q) = answer_spelt s (Err e) h p q
answer_of_is {s} (number {n} h p q) = answer_spelt s (Ok n) h p q

pub answer_unique : {s : List ℕ} {a b : Result NumberLiteral NumeralError} → AnswerIs s a → AnswerIs s b → a ≡ b
answer_unique p q = answer_of_is p ∙ sym (answer_of_is q)
