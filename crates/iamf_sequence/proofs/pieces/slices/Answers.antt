use Rattle.std.proofs.Common.{refl, arith}
use Rattle.iamf_sequence.proofs.PartsJoined.{slices_put}
use Rattle.iamf_sequence.proofs.pieces.slices.Goals as goal

pub loop-part-preserved : goal.loop-part-preserved
loop-part-preserved c =
    slices_put c.args.parts.now c.loop-part.part-index c.part-item.result c.loop-part.pieces.items c.push.new.self.items _ _ _ (omega (arith, c.loop-part-test.true, c.loop-part.auto.part-index-end)) c.part-item.is c.loop-part.invariant
    c.in_ok-push.ensures.items c.in_ok-push-2.ensures.items refl c.as_slice.ensures.value
