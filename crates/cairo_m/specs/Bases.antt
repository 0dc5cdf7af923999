-- How a number was written, from the bytes of a text alone. Assumes nothing.
use Rattle.std.specs.Prelude.{◌≡◌, cond, List, ℕ, ◌-◌, eqb, take, drop}
use Rattle.patterns.specs.Bytes.{within}
use Rattle.tables.specs.Tables.{Token, Node, token_at, node_at}
use Rattle.tables.specs.TokenKinds.{NUMBER}
use Rattle.numeral.specs.Numeral.{base_of}
use Rattle.grammar.specs.Kinds.{Count, LiteralU32}

-- numeral tokens carry the base that the bytes of their span set, all others have 0
unfoldable pub token_base : List ℕ → Token → ℕ
token_base text t = cond (eqb t.kind NUMBER) (base_of (take (t.end - t.start) (drop t.start text))) 0

-- so do Count and the three literals, kinds 6 to 9; all others have 0
unfoldable pub node_base : List ℕ → Node → ℕ
node_base text n = cond (within Count LiteralU32 n.kind) (base_of (take (n.end - n.start) (drop n.start text))) 0

-- every entry of a token table a and of a node table b, unused ones too
pub record BasesAre (text a b : List ℕ) : Type 0 where
  pub tokens : (i : ℕ) → (token_at a i).base ≡ token_base text (token_at a i)
  pub nodes : (i : ℕ) → (node_at b i).base ≡ node_base text (node_at b i)
