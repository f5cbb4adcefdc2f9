use Rattle.std.proofs.Common.{◌++◌, ℕ, List, ap, ◌∙◌, arith}
use Rattle.iamf_sequence.proofs.PartsJoined.{part_put}
use Rattle.iamf_sequence.proofs.pieces.joined.Goals as goal

pub loop-part-preserved : goal.loop-part-preserved
loop-part-preserved c =
    part_put c.args.parts.now c.loop-part.part-index c.part-item.result c.loop-part.bytes.items c.extend_from_slice.new.self.items _ (omega (arith, c.loop-part-test.true, c.loop-part.auto.part-index-end)) c.part-item.is c.loop-part.invariant
    c.in_ok-extend_from_slice.ensures.items (c.in_ok-extend_from_slice-2.ensures.items ∙ ap (λ (t : List ℕ). c.extend_from_slice.new.self.items ++ t) c.as_slice.ensures.value)
