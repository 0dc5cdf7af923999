-- What a reading answers: from the text and the tables' lengths, the outcome, the counts and every byte of the three tables. Assumes nothing.
use Rattle.std.specs.Prelude.{◌≡◌, List, [], ◌∷◌, map, ℕ, ◌/◌, ◌≤◌, ◌<◌, length, Result, Ok, Err}
use Rattle.tables.specs.Tables.{Token, Node, Diagnostic, token_table, node_table, diagnostic_table}
use Rattle.utf8.specs.Utf8.{Utf8}
use Rattle.lexer.specs.Lexes.{Lexes}
use Rattle.lexer.specs.declared.lexing.TextError.{TextError}
use Rattle.lexer.specs.declared.entry.LexError.{LexError}
use Rattle.grammar.specs.Derive.{Input, token}
use Rattle.grammar.specs.Grammar.{Tree, Deep, Taken, Stops}
use Rattle.cairo_m.specs.declared.Accepted.{Accepted}
use Rattle.cairo_m.specs.declared.Refusal.{Refusal}
use Rattle.cairo_m.specs.declared.Counts.{Counts}

-- ---- the outcomes

-- 01's table of outcomes: what each is about
pub data Outcome : Type 0 where
  accepted : List Token → List Node → Outcome
  long encoding : Outcome
  lexical : List Diagnostic → Outcome
  token_room : List Token → Outcome
  nest : Outcome
  syntax : Diagnostic → Outcome
  suffix : List Token → Outcome
  node_room : List Node → Outcome

-- a text and its tokens, as the grammar has them
abbrev pub input : List ℕ → List Token → Input
input text ts = record { text = text; tokens = ts }

-- wish 2, reason 5, where reading stopped: over the first token that no attempt takes, or empty at the end of the text, if all are taken
pub data StopIs (text : List ℕ) (ts : List Token) : Diagnostic → Type 0 where
  at_token : {i : ℕ} → Stops (input text ts) i → i < length ts → StopIs text ts (record { start = (token (input text ts) i).start; end = (token (input text ts) i).end; reason = 5 })
  at_end : ((i : ℕ) → i < length ts → Taken (input text ts) i) → StopIs text ts (record { start = length text; end = length text; reason = 5 })

-- what the tokens ts of a text come to, in the order 5, 7, 8, 6, with n entries in the node table
pub data TokensAre (text : List ℕ) (n : ℕ) (ts : List Token) : Outcome → Type 0 where
  is_nest : Deep (input text ts) → TokensAre text n ts nest
  is_syntax : {d : Diagnostic} → (Deep (input text ts) → ⊥) → ((ns : List Node) (us : List Token) → Tree (input text ts) ns us → ⊥) → StopIs text ts d → TokensAre text n ts (syntax d)
  is_suffix : {ns : List Node} {u : Token} {us : List Token} → (Deep (input text ts) → ⊥) → Tree (input text ts) ns (u ∷ us) → TokensAre text n ts (suffix (u ∷ us))
  is_node_room : {ns : List Node} → (Deep (input text ts) → ⊥) → Tree (input text ts) ns [] → n < length ns → TokensAre text n ts (node_room ns)
  is_accepted : {ns : List Node} → (Deep (input text ts) → ⊥) → Tree (input text ts) ns [] → length ns ≤ n → TokensAre text n ts (accepted ts ns)

-- what a text comes to, in the order 1, 2, 3, 4 and then as its tokens, with t entries in the token table and n in the node table
pub data OutcomeIs (text : List ℕ) (t n : ℕ) : Outcome → Type 0 where
  is_long : 65535 < length text → OutcomeIs text t n long
  is_encoding : length text ≤ 65535 → (Utf8 text → ⊥) → OutcomeIs text t n encoding
  is_lexical : {ts : List Token} {d : Diagnostic} {ds : List Diagnostic} → length text ≤ 65535 → Utf8 text → Lexes 0 text ts (d ∷ ds) → OutcomeIs text t n (lexical (d ∷ ds))
  is_token_room : {ts : List Token} → length text ≤ 65535 → Utf8 text → Lexes 0 text ts [] → t < length ts → OutcomeIs text t n (token_room ts)
  is_lexed : {ts : List Token} {o : Outcome} → length text ≤ 65535 → Utf8 text → Lexes 0 text ts [] → length ts ≤ t → TokensAre text n ts o → OutcomeIs text t n o

-- ---- what comes out with each

-- what `read` returns
abbrev pub Reading : Type 0
Reading = Result Accepted Refusal

-- the answer: how many tokens and nodes there are, how many entries would do, or how many errors
abbrev pub reading_of : Outcome → Reading
reading_of (accepted ts ns) = Ok (record { tokens = length ts; nodes = length ns })
reading_of long = Err (Refusal.Lexing (LexError.Text TextError.Long))
reading_of encoding = Err (Refusal.Lexing (LexError.Text TextError.Encoding))
reading_of (lexical ds) = Err (Refusal.Lexing (LexError.Lexical (length ds)))
reading_of (token_room ts) = Err (Refusal.Lexing (LexError.TokenRoom (length ts)))
reading_of nest = Err Refusal.Nest
reading_of (syntax d) = Err Refusal.Syntax
reading_of (suffix us) = Err (Refusal.Suffix (length us))
reading_of (node_room ns) = Err (Refusal.NodeRoom (length ns))

-- the tokens handed out; none after a refusal, so that the table is all zero
abbrev pub tokens_of : Outcome → List Token
tokens_of (accepted ts ns) = ts
tokens_of long = []
tokens_of encoding = []
tokens_of (lexical ds) = []
tokens_of (token_room ts) = []
tokens_of nest = []
tokens_of (syntax d) = []
tokens_of (suffix us) = []
tokens_of (node_room ns) = []

-- the nodes handed out, likewise
abbrev pub nodes_of : Outcome → List Node
nodes_of (accepted ts ns) = ns
nodes_of long = []
nodes_of encoding = []
nodes_of (lexical ds) = []
nodes_of (token_room ts) = []
nodes_of nest = []
nodes_of (syntax d) = []
nodes_of (suffix us) = []
nodes_of (node_room ns) = []

-- reason 4, unknown suffix, over the whole numeral
abbrev pub suffix_error : Token → Diagnostic
suffix_error t = record { start = t.start; end = t.end; reason = 4 }

-- outcomes 3 and 8 list every error in text order, 7 has the one place where reading stopped; others have no diagnostics
abbrev pub diagnostics_of : Outcome → List Diagnostic
diagnostics_of (accepted ts ns) = []
diagnostics_of long = []
diagnostics_of encoding = []
diagnostics_of (lexical ds) = ds
diagnostics_of (token_room ts) = []
diagnostics_of nest = []
diagnostics_of (syntax d) = d ∷ []
diagnostics_of (suffix us) = map suffix_error us
diagnostics_of (node_room ns) = []

-- the answer r to a text, with a, b and c in the token, node and diagnostic tables of k, m and n bytes: as many entries as a table holds, and zero
pub record ReadingIs (text : List ℕ) (k m n : ℕ) (a b c : List ℕ) (r : Reading) : Type 0 where
  pub outcome : Outcome
  pub is : OutcomeIs text (k / 16) (m / 16) outcome
  pub answer : r ≡ reading_of outcome
  pub tokens : a ≡ token_table k (tokens_of outcome)
  pub nodes : b ≡ node_table m (nodes_of outcome)
  pub diagnostics : c ≡ diagnostic_table n (diagnostics_of outcome)

-- ---- the numbers of an answer

-- 01's number of the outcome
abbrev pub outcome_of : Reading → ℕ
outcome_of (Ok a) = 0
outcome_of (Err (Refusal.Lexing (LexError.Text TextError.Long))) = 1
outcome_of (Err (Refusal.Lexing (LexError.Text TextError.Encoding))) = 2
outcome_of (Err (Refusal.Lexing (LexError.Lexical d))) = 3
outcome_of (Err (Refusal.Lexing (LexError.TokenRoom t))) = 4
outcome_of (Err Refusal.Nest) = 5
outcome_of (Err (Refusal.NodeRoom n)) = 6
outcome_of (Err Refusal.Syntax) = 7
outcome_of (Err (Refusal.Suffix d)) = 8

-- the numbers of tokens and nodes, with 0 and, to tell how many entries would do, with 4 and 6; the full count of errors, with 3, 7 and 8
abbrev pub counts_of : Reading → Counts
counts_of (Ok a) = record { tokens = a.tokens; nodes = a.nodes; diagnostics = 0 }
counts_of (Err (Refusal.Lexing (LexError.Text TextError.Long))) = record { tokens = 0; nodes = 0; diagnostics = 0 }
counts_of (Err (Refusal.Lexing (LexError.Text TextError.Encoding))) = record { tokens = 0; nodes = 0; diagnostics = 0 }
counts_of (Err (Refusal.Lexing (LexError.Lexical d))) = record { tokens = 0; nodes = 0; diagnostics = d }
counts_of (Err (Refusal.Lexing (LexError.TokenRoom t))) = record { tokens = t; nodes = 0; diagnostics = 0 }
counts_of (Err Refusal.Nest) = record { tokens = 0; nodes = 0; diagnostics = 0 }
counts_of (Err (Refusal.NodeRoom n)) = record { tokens = 0; nodes = n; diagnostics = 0 }
counts_of (Err Refusal.Syntax) = record { tokens = 0; nodes = 0; diagnostics = 1 }
counts_of (Err (Refusal.Suffix d)) = record { tokens = 0; nodes = 0; diagnostics = d }
