-- What parsing answers: from a text, its tokens and the node table's length, the answer and every byte of that table. Assumes nothing.
use Rattle.std.specs.Prelude.{◌≡◌, List, ℕ, min, length, replicate, Result, Ok, Err}
use Rattle.tables.specs.Tables.{Token, Node, table}
use Rattle.grammar.specs.Derive.{Input}
use Rattle.grammar.specs.Grammar.{Tree, Deep, Stops}
pub use Rattle.cursor.specs.Entries.{input, MAX16, MAX64}
unfoldable pub use Rattle.cursor.specs.Entries.{entry_of}
use Rattle.parser.specs.declared.ParseError.{ParseError}

-- ---- the verdict
-- what a text's tokens are to the grammar: the nodes of a tree, or what 01 has as outcomes 7, with the place where reading stopped, and 5
pub data Verdict : Type 0 where
  tree : List Node → Verdict
  syntax : ℕ → Verdict
  deep : Verdict

-- outcome 5, nest: some attempt takes a token deeper than 64; else a tree, or outcome 7, syntax: no tree has all tokens, and i is the first token that no attempt takes
pub data VerdictIs (x : Input) : Verdict → Type 0 where
  is_deep : Deep x → VerdictIs x deep
  is_tree : {ns : List Node} {us : List Token} → (Deep x → ⊥) → Tree x ns us → VerdictIs x (tree ns)
  is_syntax : {i : ℕ} → (Deep x → ⊥) → ((ns : List Node) (us : List Token) → Tree x ns us → ⊥) → Stops x i → VerdictIs x (syntax i)

-- ---- the answer and the node table

-- the answer: all nodes of a tree are counted, stored or not, so that outcome 6 can be told
abbrev pub answer_of : Verdict → Result ℕ ParseError
answer_of (tree ns) = Ok (min (length ns) MAX64)
answer_of (syntax i) = Err (ParseError.Syntax i)
answer_of deep = Err ParseError.Deep

-- the node table, of n bytes: the nodes in order, as many as fit, and unused entries are zero, as in every table
abbrev pub nodes_of : ℕ → Verdict → List ℕ
nodes_of n (tree ns) = table 16 entry_of n ns
nodes_of n (syntax i) = replicate n 0
nodes_of n deep = replicate n 0

-- the answer r to a text with the token table w, with U in the node table of n bytes
pub record ParsedIs (text w : List ℕ) (n : ℕ) (U : List ℕ) (r : Result ℕ ParseError) : Type 0 where
  pub verdict : Verdict
  pub is : VerdictIs (input text w) verdict
  pub answer : r ≡ answer_of verdict
  pub nodes : U ≡ nodes_of n verdict
