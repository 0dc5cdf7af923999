-- Folding the step over the bytes of a spelling, and finishing, is what the spelling says. Assumes nothing.
use mathlib.Core.Path.{◌≡◌, sym, ap, ◌∙◌}
use mathlib.Core.Bool.{true, false≢true}
use mathlib.Core.List.{List, [], ◌∷◌, ◌++◌}
use Prim.Native.Nat.{ℕ}
use native.Mathlib.Omega.{arith}
use lib.ListN.{length, take}
use lib.Seq.{take_all}
use Rattle.std.specs.Prelude.{Some, None, Result}
use Rattle.patterns.specs.Bytes.{in_set, word, run}
use Rattle.patterns.proofs.Runs.{run_whole}
use Rattle.numeral.specs.declared.Base.{Base}
use Rattle.numeral.specs.declared.NumberLiteral.{NumberLiteral}
use Rattle.numeral.specs.declared.NumberParseError.{NumberParseError}
use Rattle.numeral.specs.declared.NumberParser.{NumberParser}
use Rattle.numeral.specs.Numeral.{numeral_of}
use Rattle.numeral.specs.Spelling.{Spelling}
use Rattle.numeral.specs.Parser.{Upto, After, Step, on, stop}
use Rattle.numeral.proofs.Spellings.{spelling_word}
use Rattle.numeral.proofs.Steps.{before_any}

-- n is a state after the bytes s: each byte was given to the step once, in order, beginning with the state before any byte
pub data Folded : List ℕ → NumberParser → Type 0 where
  begun : {n : NumberParser} → Upto Base.Decimal [] n → Folded [] n
  stepped : {s : List ℕ} {n m : NumberParser} {b : ℕ} → Folded s n → Step n b (Some m) → Folded (s ++ b ∷ []) m

folded : {s : List ℕ} {n : NumberParser} → Folded s n → After s n
folded (begun u) = before_any u
folded (stepped {s} f (on g h)) = h s (folded f)

-- whatever the finish answers, by its promise, is what the bytes say
pub one_pass : {s : List ℕ} {n : NumberParser} {a : Result NumberLiteral NumberParseError} → Folded s n → ((s : List ℕ) → After s n → a ≡ numeral_of s) → a ≡ numeral_of s
one_pass {s} f h = h s (folded f)

-- two ways of folding the same bytes finish alike
pub one_answer : {s : List ℕ} {n m : NumberParser} {a b : Result NumberLiteral NumberParseError} → Folded s n → Folded s m → ((s : List ℕ) → After s n → a ≡ numeral_of s) → ((s : List ℕ) → After s m → b ≡ numeral_of s) → a ≡ b
one_answer f g h k = one_pass f h ∙ sym (one_pass g k)

-- the step stops at no byte of a spelling
pub never_stops : {n : NumberParser} {b : ℕ} → in_set word b ≡ true → Step n b None → ⊥
never_stops e (stop g) = false≢true (sym g ∙ e)

-- what `parse_number_literal` promises, of a whole spelling
pub spelling_said : {s : List ℕ} {k : ℕ} {a : Result NumberLiteral NumberParseError} → Spelling s → k ≡ run (in_set word) s → a ≡ numeral_of (take k s) → (k ≡ length s) × (a ≡ numeral_of s)
spelling_said {s} {k} p e q =
    let l : k ≡ length s = e ∙ run_whole (in_set word) s (spelling_word s p) in
    (l, q ∙ ap numeral_of (take_all k s (omega (arith, l))))
