-- Contracts of private functions, from a text's tokens on, before it is known that the lexer made them. Assumes nothing.
use Rattle.std.specs.Prelude.{◌≡◌, cond, List, ℕ, ◌/◌, nat_lt, length}
use Rattle.tables.specs.Tables.{Diagnostic, encode_diagnostic, tokens_of as tokens_in, token_at, table, laid}
use Rattle.parser.specs.Parse.{entry_of}
use Rattle.cairo_m.specs.Reading.{Outcome, TokensAre, Reading, reading_of, nodes_of, diagnostics_of}

-- the stop at token i of the table w, or where the text ends, if there is none
abbrev pub stop_of : List ℕ → (i end : ℕ) → Diagnostic
stop_of w i end = cond (nat_lt i (length w / 16)) (record { start = (token_at w i).start; end = (token_at w i).end; reason = 5 }) (record { start = end; end = end; reason = 5 })

-- the answer r to the tokens of the table w, with b in the node table of m bytes, and c in the diagnostic table, which was C
pub record TokensRead (text w : List ℕ) (m : ℕ) (b C c : List ℕ) (r : Reading) : Type 0 where
  pub outcome : Outcome
  pub is : TokensAre text (m / 16) (tokens_in w) outcome
  pub answer : r ≡ reading_of outcome
  pub nodes : b ≡ table 16 entry_of m (nodes_of outcome)
  pub diagnostics : c ≡ laid 8 encode_diagnostic C (diagnostics_of outcome)
