use Rattle.std.proofs.Common.{arith, ◌≡◌, ap, ◌∙◌}
use Rattle.mix_fixed.specs.Kernel.{target_of}
use Rattle.mix_fixed.specs.Origins.{origins_after, origins_of}
use Rattle.mix_fixed.proofs.KeptOrigins.{origins_next}
use Rattle.mix_fixed.proofs.origins.origins_of.Goals as goal

pub loop-i-preserved : goal.loop-i-preserved
loop-i-preserved c =
    c.origins_after-all.ensures
    ∙ ap (λ all. origins_after c.kind-before.result c.kind-now.result all c.sent_next-next.result) c.loop-i.invariant
    ∙ origins_next c.args.layers.now c.loop-i.i _ _ _ _ c.kind-before.ensures.value c.kind-now.ensures.value c.channel_count.ensures c.sent_next-next.ensures

pub returns : goal.returns
returns c =
    let e : c.loop-i.i ≡ target_of c.args.layers.now = omega arith in
    c.loop-i.invariant ∙ ap (origins_of c.args.layers.now) e
