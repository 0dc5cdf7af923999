-- All that a reader's proof names. Assumes nothing.
pub use mathlib.Core.Path.{refl, ◌∙◌}
pub use mathlib.Core.List.{List, []}
pub use Prim.Native.Nat.{ℕ, ◌-◌, ◌/◌}
pub use native.Mathlib.Omega.{arith}
pub use lib.ListN.{length}
pub use borrow.Author.Rules.{rules}
unfoldable pub use Rattle.grammar.specs.Grammar.{body}
pub use Rattle.cursor.specs.Read.{grown, steps}
pub use Rattle.cursor.specs.Steps.{a_not, a_minus, no_prefix}
pub use Rattle.cursor.proofs.Told.{same, not_same, differs, no_other, of_kind, not_of_kind}
pub use Rattle.cursor.proofs.Laws.{clash, idle, one_grown, one_step, one_free, ◌then◌, first, other, absent, only, pass, many_miss, by_rule, by_part, inside_by, as_deep, nothing, reads_as}
pub use Rattle.cursor.proofs.Steps.{named}
pub use Rattle.cursor.proofs.Falls.{size, on, on_grown, on_step, on_free, at_here, at_in, at_begin, at_rule, at_back, ◌and_on◌, was, further, lower}
pub use Rattle.cursor.proofs.Elses.{fell, ends_by, ends_as, ◌then_ends◌, ends_close, no_else, failed_else, by_stmt, tried_outside, let_of, const_of, inside_as}
pub use Rattle.cursor.proofs.Loops.{Looping, rounds_begin, rounds_next, rounds_end, rounds_miss, rounds_before, rounds_off}
pub use Rattle.cursor.proofs.Lists.{Listing, listing_begin, listing_next, listing_none, listing_miss, listing_off, entries_none, entries_end, entries_off}
pub use Rattle.cursor.proofs.Shapes.{regroup, share, element, no_element, many_never, opt_never, and_never, both_not, both_read, one, two}
pub use Rattle.cursor.proofs.Prefixes.{prefix_test, counted, Unwinding, unwinding_none, unwinding_more, unwound_never, unwound, at_operand, just_entered, reading_in, unary_deep, unary_reads}
pub use Rattle.cursor.proofs.Levels.{above_level, on_operator, Climbing, climbing_none, climbing_more, climbed, climbed_over, no_operator}
pub use Rattle.cursor.proofs.Operands.{name_alone, numeral_alone}
