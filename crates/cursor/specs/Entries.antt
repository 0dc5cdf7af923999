-- How a text's tokens and a tree's nodes stand in their tables. Assumes nothing.
use Rattle.std.specs.Prelude.{List, ℕ, min}
use Rattle.tables.specs.Tables.{Node, encode_node, tokens_of}
use Rattle.grammar.specs.Derive.{Input}

-- a text and the table of its tokens, as the grammar has them
abbrev pub input : List ℕ → List ℕ → Input
input text w = record { text = text; tokens = tokens_of w }

-- the largest number of 16 bits
abbrev pub MAX16 : ℕ
MAX16 = 65535

-- and of 64
abbrev pub MAX64 : ℕ
MAX64 = 18446744073709551615

-- a node's entry; a field too large for its bits would be the largest that they hold, which no node of a real text has (`uncapped`)
unfoldable pub entry_of : Node → List ℕ
entry_of n =
    encode_node (record { kind = n.kind; base = n.base; start = min n.start MAX16; end = min n.end MAX16; children = min n.children MAX16; value = min n.value MAX64 })
