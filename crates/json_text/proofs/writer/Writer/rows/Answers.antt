use Rattle.std.proofs.Common.{inl, arith, rules}
use Rattle.std.proofs.Math.Nat.{div-le_self}
use Rattle.std.proofs.lemmas.Iterator.Consumers.{YieldsList-at, YieldsList-from_first}
use Rattle.tables.specs.Left.{entries_left}
use Rattle.tables.proofs.Laws.{tabulate_length}
use Rattle.tables.proofs.Numbered.{numbered, all_numbered}
use Rattle.json_text.proofs.Arrays.{begun_none, begun_first, begun_next, begun_all}
use Rattle.json_text.proofs.writer.Writer.rows.Goals.{then-i-gt0, else-i-gt0}
use Rattle.json_text.proofs.writer.Writer.rows.Goals as goal

pub loop-i-init : goal.loop-i-init
loop-i-init g c = ((tt, tt, inl (grind (arith, tabulate_length, div-le_self))), search rules, begun_none g.R.Row.text)

pub loop-i-preserved : goal.loop-i-preserved
loop-i-preserved g c =
    let n = numbered
    (YieldsList-at c.enumerate-i-items.ensures.source (YieldsList-from_first (λ n. n) (entries_left g.R.Entry.SIZE g.R.Entry.decode) _ c.entries.ensures))
    c.enumerate-i-items.ensures.count c.into_iter-i-iterator.ensures.into_iter_gives c.loop-i.yielded _ c.loop-i.yielded_by _ c.next.new.self c.in-Some.is c.next.ensures.steps in (
      search rules,
      search rules,
      elim c.if-i-gt0.branch [
        | then-i-gt0 w ↦ begun_next g.R.Row.text c.loop-i.yielded c.in-Some.entry n w.if-i-gt0.true c.loop-i.invariant.2 w.put-then-i-gt0.ensures w.self-is c.write.ensures
        | else-i-gt0 w ↦ begun_first g.R.Row.text c.loop-i.yielded c.in-Some.entry n w.if-i-gt0.false c.loop-i.invariant.2 w.self-is c.write.ensures
      ],
    )

pub returns : goal.returns
returns g c =
    let e = all_numbered
    (YieldsList-at c.enumerate-i-items.ensures.source (YieldsList-from_first (λ n. n) (entries_left g.R.Entry.SIZE g.R.Entry.decode) _ c.entries.ensures))
    c.enumerate-i-items.ensures.count c.into_iter-i-iterator.ensures.into_iter_gives c.loop-i.yielded _ c.loop-i.yielded_by _ c.next.new.self c.in-None.is c.next.ensures.steps g.R.Row.text in
    begun_all g.R.Row.text c.loop-i.yielded _ c.put.ensures c.loop-i.invariant.2 c.put-2.ensures e
