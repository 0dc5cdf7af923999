use Rattle.std.proofs.Common.{◌≤◌, length, arith}
use Rattle.tables.proofs.Entries.{zeros_part}
use Rattle.json_text.proofs.Finishing.{finishes}
use Rattle.json_text.proofs.writer.Writer.finish.Goals as goal

pub returns : goal.returns
returns c =
    let e : c.unwrap_or.result ≤ length c.args.self.out.now = omega (arith, c.args.self.within, c.unwrap_or.ensures) in
    finishes c.args.self c.unwrap_or.ensures (zeros_part c.unwrap_or.result _ _ e (c.fill.ensures.after (λ y e. e)))
