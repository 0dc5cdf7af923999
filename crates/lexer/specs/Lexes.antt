-- The way through a text by longest match: its tokens and its lexical errors. Assumes nothing.
use Rattle.std.specs.Prelude.{◌≡◌, List, [], ◌∷◌, ℕ, zero, suc, ◌+◌, drop, take, Result, Ok, Err}
use Rattle.tables.specs.Tables.{Token, Diagnostic}
use Rattle.utf8.specs.Utf8.{Begins}
use Rattle.numeral.specs.Numeral.{base_code, numeral_of}
use Rattle.numeral.specs.declared.NumberLiteral.{NumberLiteral}
use Rattle.numeral.specs.declared.NumberParseError.{NumberParseError}
use Rattle.tables.specs.TokenKinds.{NUMBER}
use Rattle.tables.specs.Codes.{suffix_code, reason_code}
use Rattle.tables.specs.declared.entry_codes.Reason.{Reason}
use Rattle.lexer.specs.Tokens.{Best, Stuck}

-- what stands at a place: something skipped, a token, or a lexical error
pub data Item : Type 0 where
  skipped : Item
  token : (kind suffix base value : ℕ) → Item
  error : (reason : ℕ) → Item

-- a match of kind k: a numeral is what its spelling says, and tokens other than numerals have 0 for suffix, base and value
abbrev pub item_of : ℕ → Result NumberLiteral NumberParseError → Item
item_of zero a = skipped
item_of (suc zero) (Ok l) = token NUMBER (suffix_code l.suffix) (base_code l.base) l.value
item_of (suc zero) (Err NumberParseError.Overflow) = error (reason_code Reason.Overflow)
item_of (suc zero) (Err NumberParseError.InvalidFormat) = error (reason_code Reason.Format)
item_of (suc (suc k)) a = token (suc (suc k)) 0 0 0

-- the first n bytes of s are the longest match, or the whole character that begins no token: one lexical error
pub data Step (s : List ℕ) (n : ℕ) (i : Item) : Type 0 where
  matched : (k : ℕ) → Best s k n → i ≡ item_of k (numeral_of (take n s)) → Step s n i
  strange : (c : ℕ) → Stuck s → Begins s c n → i ≡ error (reason_code Reason.Character) → Step s n i

-- an item that stands from a to e, before those that follow
abbrev pub tokens : Item → ℕ → ℕ → List Token → List Token
tokens skipped a e ts = ts
tokens (token k x b v) a e ts = record { kind = k; suffix = x; start = a; end = e; base = b; value = v } ∷ ts
tokens (error r) a e ts = ts

-- the lexical errors, likewise
abbrev pub errors : Item → ℕ → ℕ → List Diagnostic → List Diagnostic
errors skipped a e ds = ds
errors (token k x b v) a e ds = ds
errors (error r) a e ds = record { start = a; end = e; reason = r } ∷ ds

-- what is left of the text, s, stands at the place `at`, and has these tokens and errors
pub data Lexes : ℕ → List ℕ → List Token → List Diagnostic → Type 0 where
  done : {at : ℕ} → Lexes at [] [] []
  step : {at : ℕ} {s : List ℕ} {ts : List Token} {ds : List Diagnostic} (n : ℕ) (i : Item) → Step s n i → Lexes (at + n) (drop n s) ts ds
      → Lexes at s (tokens i at (at + n) ts) (errors i at (at + n) ds)
