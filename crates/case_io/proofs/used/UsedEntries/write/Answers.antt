use Rattle.std.proofs.Common.{rules, ◌++◌, sym, ◌∙◌, subst}
use Rattle.std.specs.List.{flat_map}
use Rattle.std.specs.Io.KnownBytes.{Appends}
use Rattle.std.proofs.lemmas.List.{map-id}
use Rattle.std.proofs.lemmas.Iterator.Consumers.{YieldsList-from_first, YieldsList-end}
use Rattle.tables.specs.Left.{entries_of, entries_left}
use Rattle.case_io.specs.Used.{first}
use Rattle.case_io.proofs.used.UsedEntries.write.Goals as goal

pub returns : goal.returns
returns g c =
    let used = entries_of g.E.Entry.SIZE g.E.Entry.decode (first g.E.Entry.SIZE c.args.self.now.count c.args.self.now.table.now) in
    let all = YieldsList-from_first (λ e. e) (entries_left g.E.Entry.SIZE g.E.Entry.decode) {s = c.into_iter-entry-iterator.result} used (search rules) in
    let t = YieldsList-end all c.loop-entry.yielded c.loop-entry.entry-iterator c.loop-entry.yielded_by _ c.next.new.self c.in-None.is c.next.ensures.steps in
    subst (λ l. Appends (g.W.Write.contents c.args.out.now) (g.W.Write.contents c.loop-entry.out) (flat_map (λ e. c.args.mark.now ++ g.E.Spelled.spelling e) l)) (sym (map-id _) ∙ t.0) c.loop-entry.invariant
