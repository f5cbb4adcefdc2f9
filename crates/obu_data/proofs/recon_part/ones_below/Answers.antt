use Rattle.std.proofs.Common.{refl, arith}
use Rattle.obu_data.proofs.Counts.{ones_next, half_more}
use Rattle.obu_data.proofs.recon_part.ones_below.Goals as goal

pub loop-preserved : goal.loop-preserved
loop-preserved c =
    let inv = c.loop.invariant in (
      rw (ones_next c.loop.counter c.args.bits, inv.0, inv.1) refl,
      rw inv.1 (half_more c.loop.counter c.args.bits),
      omega (arith, inv.2),
    )
