-- What lexing answers: from the text and the tables' lengths, the outcome, both counts and every byte of both tables. Assumes nothing.
use Rattle.std.specs.Prelude.{◌≡◌, List, [], ◌∷◌, ℕ, ◌/◌, ◌≤◌, ◌<◌, nat_lt, if◌then◌else◌, length, replicate, Result, Ok, Err}
use Rattle.tables.specs.Tables.{Token, Diagnostic, token_table, diagnostic_table}
use Rattle.tables.specs.Suffix.{unknown_numerals}
use Rattle.utf8.specs.Utf8.{Utf8}
use Rattle.lexer.specs.Lexes.{Lexes}
use Rattle.lexer.specs.declared.lexing.Lexed.{Lexed}
use Rattle.lexer.specs.declared.lexing.TextError.{TextError}
use Rattle.lexer.specs.declared.entry.LexedAlone.{LexedAlone}
use Rattle.lexer.specs.declared.entry.LexError.{LexError}

-- the tokens and the lexical errors of a text
pub data Lexemes : Type 0 where
  lexed : List Token → List Diagnostic → Lexemes

-- what a text is to the lexer: over 65,535 bytes; else not UTF-8; else its tokens and lexical errors
pub data ResultIs (text : List ℕ) : Result Lexemes TextError → Type 0 where
  too_long : 65535 < length text → ResultIs text (Err TextError.Long)
  not_utf8 : length text ≤ 65535 → (Utf8 text → ⊥) → ResultIs text (Err TextError.Encoding)
  lexes : {ts : List Token} {ds : List Diagnostic} → length text ≤ 65535 → Utf8 text → Lexes 0 text ts ds → ResultIs text (Ok (lexed ts ds))

-- a table without entries
abbrev pub zeros : ℕ → List ℕ
zeros n = replicate n 0

-- ---- `lex`: what fits is stored, all is counted, the numerals with an unknown suffix besides, and every unused entry is zero; n and m are the tables' lengths
abbrev pub lexed_of : Result Lexemes TextError → Result Lexed TextError
lexed_of (Ok (lexed ts ds)) = Ok (record { tokens = length ts; unknown = length (unknown_numerals ts); diagnostics = length ds })
lexed_of (Err e) = Err e

-- the token table; a text that is refused leaves none
abbrev pub tokens_of : ℕ → Result Lexemes TextError → List ℕ
tokens_of n (Ok (lexed ts ds)) = token_table n ts
tokens_of n (Err e) = zeros n

-- the diagnostic table, likewise
abbrev pub diagnostics_of : ℕ → Result Lexemes TextError → List ℕ
diagnostics_of m (Ok (lexed ts ds)) = diagnostic_table m ds
diagnostics_of m (Err e) = zeros m

-- the answer r, with a and b in the tables
pub record LexedIs (text : List ℕ) (n m : ℕ) (a b : List ℕ) (r : Result Lexed TextError) : Type 0 where
  pub result : Result Lexemes TextError
  pub is : ResultIs text result
  pub answer : r ≡ lexed_of result
  pub tokens : a ≡ tokens_of n result
  pub diagnostics : b ≡ diagnostics_of m result

-- ---- lexing alone: the outcomes 1, 2, 3, 4 and 0, in that order
abbrev pub answer_of : ℕ → Result Lexemes TextError → Result LexedAlone LexError
answer_of n (Err e) = Err (LexError.Text e)
answer_of n (Ok (lexed ts (d ∷ ds))) = Err (LexError.Lexical (length (d ∷ ds)))
answer_of n (Ok (lexed ts [])) = if nat_lt (n / 16) (length ts) then Err (LexError.TokenRoom (length ts)) else Ok (record { tokens = length ts; unknown = length (unknown_numerals ts) })

-- after a refusal the token table is all zero, and only outcome 3 has diagnostics
abbrev pub tokens_after : ℕ → Result Lexemes TextError → Result LexedAlone LexError → List ℕ
tokens_after n x (Ok a) = tokens_of n x
tokens_after n x (Err e) = zeros n

-- the answer r, with a and b in the tables; where there are no lexical errors, diagnostics_of is all zero
pub record AnswerIs (text : List ℕ) (n m : ℕ) (a b : List ℕ) (r : Result LexedAlone LexError) : Type 0 where
  pub result : Result Lexemes TextError
  pub is : ResultIs text result
  pub answer : r ≡ answer_of n result
  pub tokens : a ≡ tokens_after n result r
  pub diagnostics : b ≡ diagnostics_of m result
