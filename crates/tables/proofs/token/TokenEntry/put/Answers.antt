use native.Mathlib.Omega.{arith}
use Rattle.tables.specs.Tables.{le16, le64, joined, encode_token}
use Rattle.tables.proofs.Entries.{head_stored}
use Rattle.tables.proofs.token.TokenEntry.put.Goals as goal

pub returns : goal.returns
unfolding le16 le64 joined encode_token
returns c =
    let head = simp (c.to_le_bytes.ensures, c.to_le_bytes-2.ensures) at c.from_le_bytes-head.ensures in
    head_stored _ _ _ _ _ _ _ _ _ _ _ _ (omega arith) (omega arith) (omega arith) (omega arith) (omega arith) (omega arith) (omega arith) (omega arith) head c.store.ensures
