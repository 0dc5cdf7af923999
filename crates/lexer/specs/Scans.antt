-- What the scanners answer. Assumes nothing.
use Rattle.std.specs.Prelude.{◌≡◌, Bool, true, not, ◌&&◌, ◌==◌, nat_lt, List, [], ◌∷◌, ℕ, ◌+◌, ◌≤◌, ◌<◌, length, take, drop, get_or, Result, Ok, Err}
use Rattle.std.specs.List.{fold}
use Rattle.patterns.specs.Bytes.{in_set, run}
use Rattle.utf8.specs.Utf8.{Utf8, Begins, Rest}
use Rattle.tables.specs.TokenKinds.{NUMBER}
use Rattle.tables.specs.Codes.{suffix_code, reason_code}
use Rattle.numeral.specs.Numeral.{base_code, numeral_of}
use Rattle.numeral.specs.declared.NumberLiteral.{NumberLiteral}
use Rattle.numeral.specs.declared.NumberParseError.{NumberParseError}
use Rattle.tables.specs.declared.entry_codes.Reason.{Reason}
use Rattle.lexer.specs.Classes.{class_of}
use Rattle.lexer.specs.Tokens.{Best, Stuck}
use Rattle.lexer.specs.Lexes as Lexes
use Rattle.lexer.specs.Lexes.{Step}
use Rattle.lexer.specs.declared.scan.Found.{Found}
use Rattle.lexer.specs.declared.scan.NotUtf8.{NotUtf8}
use Rattle.lexer.specs.declared.lexing.Item.{Item}
use Rattle.lexer.specs.declared.lexing.TextError.{TextError}

-- a text begins with a byte of class c, which is no white space
pub record Begun (s : List ℕ) (c : ℕ) : Type 0 where
  pub some : 0 < length s
  pub small : get_or s 0 0 < 256
  pub class_is : c ≡ class_of (get_or s 0 0)
  pub dark : c ≡ 1 → ⊥

-- how far a comment goes: to the end, to an LF, or to a byte that begins no character
abbrev pub not_newline : ℕ → Bool
not_newline b = not (in_set (("\n", "\n") ∷ []) b)

-- an ASCII character other than LF
abbrev pub plain : ℕ → Bool
plain b = nat_lt b 0x80 && not (b == 10)

-- all are
abbrev pub all_plain : List ℕ → Bool
all_plain s = fold (λ p b. p && plain b) true s

-- how far a comment's line goes; or the text is not UTF-8
pub data LineIs (s : List ℕ) : Result ℕ NotUtf8 → Type 0 where
  line : {n : ℕ} → n ≡ run not_newline s → Rest s n → LineIs s (Ok n)
  broken : {e : NotUtf8} → (Utf8 s → ⊥) → LineIs s (Err e)

-- the longest match at the start of a text, or a character with which none begins; or the text is not UTF-8
pub data Scanned (s : List ℕ) : Result Found NotUtf8 → Type 0 where
  skip : {n : ℕ} → Best s 0 n → Rest s n → Scanned s (Ok (Found.Skip n))
  token : {k n : ℕ} → 2 ≤ k → Best s k n → Rest s n → Scanned s (Ok (Found.Token k n))
  number : {a : Result NumberLiteral NumberParseError} {n : ℕ} → Best s 1 n → Rest s n → a ≡ numeral_of (take n s) → Scanned s (Ok (Found.Number a n))
  strange : {c n : ℕ} → Stuck s → Begins s c n → Scanned s (Ok (Found.Strange n))
  broken : {e : NotUtf8} → (Utf8 s → ⊥) → Scanned s (Err e)

-- the item i of n bytes stands at the place `at`
pub record Reaches (text : List ℕ) (at n : ℕ) (i : Lexes.Item) : Type 0 where
  pub past : 1 ≤ n
  pub inside : at + n ≤ length text
  pub step : Step (drop at text) n i
  pub rest : Rest (drop at text) n

-- the same with the numeral's answer; or the text is not UTF-8
pub data Stepped (text : List ℕ) (at : ℕ) : Result (Item × ℕ) NotUtf8 → Type 0 where
  skipped : {n : ℕ} → Reaches text at n Lexes.skipped → Stepped text at (Ok (Item.Skipped, n))
  token : {n k : ℕ} → Reaches text at n (Lexes.token k 0 0 0) → Stepped text at (Ok (Item.Token k, n))
  literal : {n : ℕ} {l : NumberLiteral} → Reaches text at n (Lexes.token NUMBER (suffix_code l.suffix) (base_code l.base) l.value) → Stepped text at (Ok (Item.Literal l, n))
  error : {n : ℕ} {r : Reason} → Reaches text at n (Lexes.error (reason_code r)) → Stepped text at (Ok (Item.Error r, n))
  broken : {e : NotUtf8} → (Utf8 (drop at text) → ⊥) → Stepped text at (Err e)

-- why a text has no tokens
pub data Refused (text : List ℕ) : TextError → Type 0 where
  too_long : 65535 < length text → Refused text TextError.Long
  not_utf8 : length text ≤ 65535 → (Utf8 text → ⊥) → Refused text TextError.Encoding
