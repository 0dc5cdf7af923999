-- What a node table holds, and a node more. Assumes nothing.
use mathlib.Core.Path.{◌≡◌, refl, sym, ap, ◌∙◌}
use mathlib.Core.List.{List, [], ◌∷◌, ◌++◌}
use Prim.Native.Nat.{ℕ, ◌/◌, ◌<◌, ◌≤◌, min}
use native.Mathlib.Omega.{arith}
use native.Mathlib.Decide.{dec_lt}
use lib.ListN.{length}
use Rattle.tables.specs.Tables.{Node, encode_node, laid, stored, kept, table}
use Rattle.tables.proofs.Laws.{stored_none, node_size, laid_length, laid_none, laid_more, laid_again, laid_kept}
use Rattle.cursor.specs.Entries.{MAX16, MAX64, entry_of}
use Rattle.cursor.specs.Read.{Holds, Upto}

entry_size : (n : Node) → length (entry_of n) ≡ 16
unfolding entry_of
entry_size n = node_size _

-- the entry of a node, by numbers that fit their bits and are the node's up to the largest
pub entry_is : (k d : ℕ) {a a' b b' c c' v v' : ℕ} → a < 0x10000 → b < 0x10000 → c < 0x10000 → v < 0x1_0000_0000_0000_0000
    → Upto MAX16 a a' → Upto MAX16 b b' → Upto MAX16 c c' → Upto MAX64 v v'
    → encode_node (record { kind = k; base = d; start = a; end = b; children = c; value = v }) ≡ entry_of (record { kind = k; base = d; start = a'; end = b'; children = c'; value = v' })
unfolding entry_of
entry_is k d {a} {a'} {b} {b'} {c} {c'} {v} {v'} ha hb hc hv ea eb ec ev =
    let fa : min a' MAX16 ≡ a = omega arith in
    let fb : min b' MAX16 ≡ b = omega arith in
    let fc : min c' MAX16 ≡ c = omega arith in
    let fv : min v' MAX64 ≡ v = omega arith in
    rw (fa, fb, fc, fv)

pub holds_none : (T : List ℕ) → Holds T []
holds_none T = record { under = T; over = sym (laid_none entry_of 16 (omega arith) entry_size T) }

-- a place past the room is as good as any other
same_store : {c k : ℕ} (T b : List ℕ) → length T ≤ MAX64 → Upto MAX64 c k → stored 16 T c b ≡ stored 16 T k b
same_store {c} {k} T b short e =
    elim (dec_lt k MAX64) [
      | yes h ↦ let i : c ≡ k = omega arith in rw i refl
      | no h ↦ sym (stored_none 16 T c b (omega arith)) ∙ stored_none 16 T k b (omega arith)
    ]

-- a node stored after those that the table holds
pub holds_more : {T : List ℕ} {c : ℕ} {ns : List Node} (n : Node) → length T ≤ MAX64 → Upto MAX64 c (length ns) → Holds T ns
    → Holds (stored 16 T c (entry_of n)) (ns ++ n ∷ [])
holds_more {T} {ns = ns} n short e H =
    record { under = H.under; over = same_store T (entry_of n) short e ∙ ap (λ (t : List ℕ). stored 16 t (length ns) (entry_of n)) H.over ∙ laid_more entry_of 16 (omega arith) entry_size H.under ns n }

-- a table that holds more nodes holds these
pub holds_fewer : {T : List ℕ} (ns ys : List Node) → Holds T (ns ++ ys) → Holds T ns
holds_fewer ns ys H =
    record { under = laid 16 entry_of H.under (ns ++ ys); over = H.over ∙ sym (laid_again entry_of 16 (omega arith) entry_size H.under ns ys) }

-- with all else cleared it is their table
pub held : {T : List ℕ} {k : ℕ} {ns : List Node} → length T ≤ MAX64 → Upto MAX64 k (length ns) → Holds T ns → kept 16 k T ≡ table 16 entry_of (length T) ns
unfolding kept
held {T} {k} {ns} short e H =
    let l : length T ≡ length H.under = ap length H.over ∙ laid_length entry_of 16 (omega arith) entry_size H.under ns in
    let m : min k (length T / 16) ≡ min (length ns) (length T / 16) = omega arith in
    rw m (ap (kept 16 (length ns)) H.over ∙ laid_kept entry_of 16 (omega arith) entry_size H.under ns ∙ ap (λ (n : ℕ). table 16 entry_of n ns) (sym l))
