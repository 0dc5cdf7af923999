-- All entries of a table. Assumes nothing.
use Rattle.std.specs.Prelude.{List, ℕ, ◌/◌, length}
use Rattle.tables.specs.declared.entry.Entries.{Entries}
use Rattle.tables.specs.Tables.{entry_at, tabulate}

-- those of that size, as they are decoded
abbrev pub entries_of : {A : Type 0} → ℕ → (List ℕ → A) → List ℕ → List A
entries_of size decode t = tabulate (length t / size) (λ i. decode (entry_at size t i))

-- those that an iterator has left
abbrev pub entries_left : {A : Type 0} → ℕ → (List ℕ → A) → Entries A → List A
entries_left size decode s = entries_of size decode s.rest.now
