use Rattle.std.proofs.Common.{inl, map, ap, sym, ◌∙◌, arith, rules, tests}
use Rattle.std.proofs.lemmas.Iterator.Consumers.{YieldsList-at, YieldsList-from_first, YieldsList-from_filter}
use Rattle.tables.specs.Left.{entries_left}
use Rattle.tables.specs.Tables.{decode_token, encode_diagnostic, laid, tokens_of}
use Rattle.tables.specs.Suffix.{unknown_suffix}
use Rattle.tables.proofs.Laws.{diagnostic_size, laid_none, tabulate_length}
use Rattle.tables.proofs.Numbered.{numbered, all_numbered}
use Rattle.cairo_m.specs.Reading.{suffix_error}
use Rattle.cairo_m.proofs.Noting.{one_more, only_unknown}
use Rattle.cairo_m.proofs.suffixes.unknown_suffixes.Goals as goal

pub loop-i-init : goal.loop-i-init
loop-i-init c = ((search rules, tt, inl (grind (arith, tabulate_length))), search rules, sym (laid_none encode_diagnostic 8 (omega arith) diagnostic_size c.args.diagnostics.now))

pub loop-i-preserved : goal.loop-i-preserved
loop-i-preserved c =
    let n = numbered
    (YieldsList-at c.enumerate-i-items.ensures.source
    (YieldsList-from_filter _ unknown_suffix (YieldsList-at c.filter.ensures.source (YieldsList-from_first (λ n. n) (entries_left 16 decode_token) _ c.entries.ensures)) c.filter.ensures.closure (λ x b q k. search (rules, tests))))
    c.enumerate-i-items.ensures.count c.into_iter-i-iterator.ensures.into_iter_gives c.loop-i.yielded _ c.loop-i.yielded_by _ c.next.new.self c.in-Some.is c.next.ensures.steps in
    (search rules, search rules, one_more c.args.diagnostics.now c.loop-i.yielded c.in-Some.token c.loop-i.invariant.2 n c.put.ensures)

pub returns : goal.returns
unfolding tokens_of
returns c =
    let e = all_numbered
    (YieldsList-at c.enumerate-i-items.ensures.source
    (YieldsList-from_filter _ unknown_suffix (YieldsList-at c.filter.ensures.source (YieldsList-from_first (λ n. n) (entries_left 16 decode_token) _ c.entries.ensures)) c.filter.ensures.closure (λ x b q k. search (rules, tests))))
    c.enumerate-i-items.ensures.count c.into_iter-i-iterator.ensures.into_iter_gives c.loop-i.yielded _ c.loop-i.yielded_by _ c.next.new.self c.in-None.is c.next.ensures.steps suffix_error in
    c.loop-i.invariant.2 ∙ ap (laid 8 encode_diagnostic c.args.diagnostics.now) (e ∙ ap (map suffix_error) (only_unknown (tokens_of c.args.tokens.now)))
