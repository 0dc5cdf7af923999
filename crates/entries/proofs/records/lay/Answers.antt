-- One record more is one step of `front`; past the end it is the whole table.
use Rattle.std.proofs.Common.{sym, arith, ◌∙◌, length, ◌≤◌}
use Rattle.std.proofs.Math.Numerals.{add-one}
use Rattle.tables.specs.Tables.{diagnostic_at}
use Rattle.entries.proofs.Front.{front_start, front_next, front_all}
use Rattle.entries.proofs.records.lay.Goals as goal

pub loop-i-init : goal.loop-i-init
loop-i-init c = sym (front_start (diagnostic_at c.args.table.now) c.args.list.now)

pub loop-i-preserved : goal.loop-i-preserved
loop-i-preserved c = let next = front_next (diagnostic_at c.args.table.now) c.loop-i.i c.args.list.now in let one = add-one c.loop-i.i in cc

pub returns : goal.returns
returns c =
    let all : length c.args.list.now ≤ c.loop-i.i = omega arith in
    c.loop-i.invariant ∙ front_all (diagnostic_at c.args.table.now) c.loop-i.i c.args.list.now all
