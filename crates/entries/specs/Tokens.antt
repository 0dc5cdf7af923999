-- The numbers of lexing alone. Assumes nothing.
use Rattle.std.specs.Prelude.{◌≡◌, List, ℕ, Result, Ok, Err}
use Rattle.lexer.specs.Answers.{AnswerIs}
use Rattle.lexer.specs.declared.entry.LexedAlone.{LexedAlone}
use Rattle.lexer.specs.declared.entry.LexError.{LexError}
use Rattle.cairo_m.specs.declared.Refusal.{Refusal}
use Rattle.cairo_m.specs.Reading.{Reading, outcome_of, counts_of}

-- a lexing alone as a reading that has no nodes
abbrev pub without_nodes : Result LexedAlone LexError → Reading
without_nodes (Ok l) = Ok (record { tokens = l.tokens; nodes = 0 })
without_nodes (Err e) = Err (Refusal.Lexing e)

-- the C entry: the numbers of the answer r, 01's outcome, how many tokens there are, also where the table has no room, and how many lexical errors
pub record LexIs (text : List ℕ) (n m : ℕ) (a b : List ℕ) (outcome tokens diagnostics : ℕ) : Type 0 where
  pub r : Result LexedAlone LexError
  pub answered : AnswerIs text n m a b r
  pub outcome_is : outcome ≡ outcome_of (without_nodes r)
  pub tokens_are : tokens ≡ (counts_of (without_nodes r)).tokens
  pub diagnostics_are : diagnostics ≡ (counts_of (without_nodes r)).diagnostics
