-- What a program shows of an answer. Assumes nothing.
use Rattle.std.specs.Prelude.{List, ℕ, ◌*◌, ◌/◌, min, length, take, Result, Ok, Err}
use Rattle.tables.specs.Tables.{nodes_of, diagnostics_of}
use Rattle.cairo_m.specs.Reading.{Reading, outcome_of, counts_of}
use Rattle.listing.specs.Answers.{listed, refused}
use Rattle.listing.specs.declared.ListError.{ListError}

-- the bytes of a table's first entries, each of that size, so many or as many as there are
unfoldable pub first : ℕ → ℕ → List ℕ → List ℕ
first size count t = take (min count (length t / size) * size) t

-- its listing in n bytes: the nodes of a text that is read, or else the outcome and the diagnostics
abbrev pub listing_of : ℕ → Reading → List ℕ → List ℕ → Result (List ℕ) ListError
listing_of n (Ok a) nodes diagnostics = listed n (nodes_of (first 16 a.nodes nodes))
listing_of n (Err e) nodes diagnostics = refused n (outcome_of (Err e)) (diagnostics_of (first 8 (counts_of (Err e)).diagnostics diagnostics))
