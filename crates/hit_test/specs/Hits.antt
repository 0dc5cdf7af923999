-- Wish 4, what is under the pointer: from an offset, a text's length and a node table, the node that is hit. Assumes nothing.
use Rattle.std.specs.Prelude.{◌≡◌, List, ℕ, ◌-◌, ◌/◌, ◌<◌, ◌≤◌, length}
use Rattle.tables.specs.Tables.{Node, node_at}
use Rattle.hit_test.specs.declared.Hit.{Hit}

-- a span "contains the offset (start included, end excluded)", and so an empty one contains nothing
abbrev pub Contains : ℕ → Node → Type 0
Contains o n = (n.start ≤ o) × (o < n.end)

-- how long a span is
abbrev pub width : Node → ℕ
width n = n.end - n.start

-- of the first k entries of the table, i is "the node with the shortest non-empty span that contains the offset; among equal lengths the earliest"
pub record IsHit (o : ℕ) (t : List ℕ) (k i : ℕ) : Type 0 where
  pub place : i < k
  pub contains : Contains o (node_at t i)
  pub shortest : (j : ℕ) → j < k → Contains o (node_at t j) → width (node_at t i) ≤ width (node_at t j)
  pub earliest : (j : ℕ) → j < k → Contains o (node_at t j) → width (node_at t j) ≡ width (node_at t i) → i ≤ j

-- the answer: "an offset at or past the text's length is refused"; "if no node contains it, nobody, and only then"; the table's entries are the length t / 16 whole ones
pub data HitIs (o n : ℕ) (t : List ℕ) : Hit → Type 0 where
  refused : n ≤ o → HitIs o n t Hit.Refused
  nobody : o < n → ((i : ℕ) → i < length t / 16 → Contains o (node_at t i) → ⊥) → HitIs o n t Hit.Nobody
  node : {i : ℕ} → o < n → IsHit o t (length t / 16) i → HitIs o n t (Hit.Node i)
