use Rattle.std.proofs.Common.{◌≡◌}
use Rattle.tables.specs.Tables.{encode_diagnostic, laid}
use Rattle.tables.proofs.Numbered.{each}
use Rattle.cairo_m.specs.Reading.{suffix_error}
use Rattle.cairo_m.proofs.suffixes.unknown_suffixes.Given as goal

abbrev pub invariant-loop-i : goal.invariant-loop-i
invariant-loop-i l =
    goal.iterator-loop-i.can_next l.i-iterator
    × goal.iterator-loop-i.is_finite l.i-iterator
    × (l.diagnostics ≡ laid 8 encode_diagnostic l.initial.diagnostics (each suffix_error l.yielded))
