-- No field of a node is cut where a real text's tree is stored. Assumes nothing.
use mathlib.Core.Path.{◌≡◌, refl, ap, ap₂}
use mathlib.Core.List.{List, ◌++◌}
use Prim.Native.Nat.{ℕ, zero, suc, ◌/◌, ◌<◌, ◌≤◌, ◌^◌, min}
use native.Mathlib.Omega.{arith}
use lib.ListN.{length, take}
use Rattle.tables.specs.Tables.{Token, Node, encode_node, joined, filled, table, node_table}
use Rattle.grammar.specs.Derive.{Input, token}
use Rattle.grammar.specs.Grammar.{Tree}
use Rattle.grammar.proofs.Spans.{Ordered, Each, no_node, node}
use Rattle.grammar.proofs.Fits.{NodeFits, fits}
use Rattle.cursor.specs.Entries.{MAX16, MAX64, entry_of}

entry_same : (n : Node) → NodeFits n → entry_of n ≡ encode_node n
unfolding entry_of
entry_same n f =
    let a : min n.start MAX16 ≡ n.start = omega (arith, f.start_fits) in
    let b : min n.end MAX16 ≡ n.end = omega (arith, f.end_fits) in
    let c : min n.children MAX16 ≡ n.children = omega (arith, f.children_fits) in
    let d : min n.value MAX64 ≡ n.value = omega (arith, f.value_fits) in
    rw (a, b, c, d)

all_same : {ns : List Node} (k : ℕ) → Each NodeFits ns → joined entry_of (take k ns) ≡ joined encode_node (take k ns)
unfolding joined
all_same zero e = refl
all_same (suc k) no_node = refl
all_same (suc k) (node {n = n} f e) = ap₂ ◌++◌ (entry_same n f) (all_same k e)

-- a text of at most 65,535 bytes, with its tokens in order, bases of 8 bits and values of 64: what `parse` leaves is the table of the tree's nodes
pub uncapped : {x : Input} {ns : List Node} {us : List Token} → Ordered x → length x.text ≤ 65535 → ((i : ℕ) → i < length x.tokens → ((token x i).base < 256) × ((token x i).value < 2 ^ 64)) → Tree x ns us
    → (n : ℕ) → table 16 entry_of n ns ≡ node_table n ns
unfolding table
uncapped o l v t n = ap (filled n) (all_same (n / 16) (fits o l v t))
