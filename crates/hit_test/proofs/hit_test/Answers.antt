use Rattle.std.proofs.Common.{sym, arith, rules}
use Rattle.hit_test.specs.Hits.{refused}
use Rattle.hit_test.proofs.Seen.{begun, shorter, missed, ended}
use Rattle.hit_test.proofs.hit_test.Goals.{then-start-offset+then-offset-end+then-end-start, else-start-offset, else-start-offset-via-then-start-offset+then-offset-end+else-end-start, else-start-offset-via-then-start-offset+else-offset-end, else-start-offset-via-else-start-offset}
use Rattle.hit_test.proofs.hit_test.Goals as goal

pub returns-then-offset-length : goal.returns-then-offset-length
returns-then-offset-length c = refused (omega (arith, c.if-offset-length.true))

pub loop-i-init : goal.loop-i-init
loop-i-init c = begun (omega arith)

pub loop-i-preserved : goal.loop-i-preserved
loop-i-preserved c =
    elim c.if-start-offset.branch [
      | then-start-offset+then-offset-end+then-end-start w ↦ rw (w.hit-is, w.shortest-is) (shorter (sym c.at-node.ensures) c.loop-i.invariant (omega (arith, w.if-start-offset.true), omega (arith, w.if-offset-end.true)) (omega (arith, w.if-end-start.true)))
      | else-start-offset w ↦
          rw (w.hit-is, w.shortest-is)
          (missed (sym c.at-node.ensures) c.loop-i.invariant (search rules) (λ d. elim w.else-start-offset.branch [
            | else-start-offset-via-then-start-offset+then-offset-end+else-end-start w' ↦ omega (arith, w'.if-end-start.false)
            | else-start-offset-via-then-start-offset+else-offset-end w' ↦ absurd (omega (arith, d.1, w'.if-offset-end.false))
            | else-start-offset-via-else-start-offset w' ↦ absurd (omega (arith, d.0, w'.if-start-offset.false))
          ]))
    ]

pub returns : goal.returns
returns c = ended (omega (arith, c.room-i-end.ensures, c.loop-i.auto.i-end)) (omega (arith, c.if-offset-length.false)) c.loop-i.invariant
