-- The numbers of suffixes and of reasons in a table's entries. Assumes nothing.
use Rattle.std.specs.Prelude.{ℕ}
use Rattle.tables.specs.declared.entry_codes.Suffix.{Suffix}
use Rattle.tables.specs.declared.entry_codes.Reason.{Reason}

-- 0 none, 1 felt, 2 u32, 3 other
abbrev pub suffix_code : Suffix → ℕ
suffix_code Suffix.Absent = 0
suffix_code Suffix.Felt = 1
suffix_code Suffix.U32 = 2
suffix_code Suffix.Other = 3

-- 1 character, 2 overflow, 3 format, 4 unknown suffix, 5 where reading stopped
abbrev pub reason_code : Reason → ℕ
reason_code Reason.Character = 1
reason_code Reason.Overflow = 2
reason_code Reason.Format = 3
reason_code Reason.UnknownSuffix = 4
reason_code Reason.Stopped = 5
