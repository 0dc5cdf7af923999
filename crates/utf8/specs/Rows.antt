-- The rows of the table of RFC 3629 as tests of the bytes: what only the code's own steps cite. Assumes nothing.
use Rattle.std.specs.Prelude.{◌≡◌, ◌≢◌, ℕ, ◌+◌, ◌-◌, ◌*◌, ◌/◌, ◌≤◌, ◌<◌}

-- 10xxxxxx
abbrev pub Tail : ℕ → Type 0
Tail d = d / 64 ≡ 2

-- the character number of a row: its bytes by their weights, less what its fixed bits come to
abbrev pub value3 : ℕ → ℕ → ℕ → ℕ
value3 b d e = b * 0x1000 + d * 0x40 + e - 0xE2080

abbrev pub value4 : ℕ → ℕ → ℕ → ℕ → ℕ
value4 b d e f = b * 0x40000 + d * 0x1000 + e * 0x40 + f - 0x3C82080

abbrev pub Two : ℕ → ℕ → Type 0
Two b d = (0xC2 ≤ b) × (b < 0xE0) × Tail d

abbrev pub Three : ℕ → ℕ → ℕ → Type 0
Three b d e = (0xE0 ≤ b) × (b < 0xF0) × Tail d × Tail e × (0x800 ≤ value3 b d e) × (value3 b d e / 0x800 ≢ 0x1B)

abbrev pub Four : ℕ → ℕ → ℕ → ℕ → Type 0
Four b d e f = (0xF0 ≤ b) × Tail d × Tail e × Tail f × (0x10000 ≤ value4 b d e f) × (value4 b d e f ≤ 0x10FFFF)
