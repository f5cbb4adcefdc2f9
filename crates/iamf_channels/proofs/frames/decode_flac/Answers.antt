use Rattle.std.proofs.Common.{arith, ◌<◌, ◌≤◌, ◌^◌, pos, unsigned_abs, [], get_or, sym, ap, subst, ◌∙◌, ℤ}
use Rattle.spec_flac.specs.Frame.{IsFrame}
use Rattle.spec_flac.proofs.Framing.{exact_frame}
use Rattle.spec_play.proofs.FrameRows.{rows_are_of_frame}
use Rattle.flac_sub.specs.FrameRows.{rows_of}
use Rattle.iamf_channels.proofs.FlacSizes.{frame_small}
use Rattle.iamf_channels.proofs.FrameRows.{rows_sample}
use Rattle.iamf_channels.proofs.SampleSizes.{low_depth, high_depth}
use Rattle.iamf_channels.proofs.frames.decode_flac.Goals as goal

pub unreachable-requires : goal.unreachable-requires
unreachable-requires c = (exact_frame c.args.shape).not_both c.args.bytes.now c.requires.frame.0 c.in-Err.field-0 c.requires.frame.1 c.in-Err.ensures.decoded

pub returns-clause-samples : goal.returns-clause-samples
returns-clause-samples c = λ k n there within.
    let rows = c.decode_frame.new.into in
    let shape = c.args.shape in
    let is : IsFrame shape c.args.bytes.now (rows_of shape rows) = c.in-Ok.ensures.decoded in
    let below : n < shape.length = omega arith in
    let inside : n < rows.length = omega arith in
    let one : k < shape.channels = omega arith in
    sym (ap (λ rs. get_or (get_or rs k []) n (pos 0)) (rows_are_of_frame shape c.args.bytes.now (rows_of shape rows) is) ∙ rows_sample shape rows k n c.requires.channels one below inside)

pub returns-clause-small : goal.returns-clause-small
returns-clause-small c = λ k n there within.
    let rows = c.decode_frame.new.into in
    let shape = c.args.shape in
    let is : IsFrame shape c.args.bytes.now (rows_of shape rows) = c.in-Ok.ensures.decoded in
    let below : n < shape.length = omega arith in
    let inside : n < rows.length = omega arith in
    let one : k < shape.channels = omega arith in
    subst (λ (z : ℤ). unsigned_abs z ≤ 2 ^ 31) (rows_sample shape rows k n c.requires.channels one below inside) (frame_small shape c.args.bytes.now (rows_of shape rows) k n (low_depth shape.depth c.requires.depth) (high_depth shape.depth c.requires.depth) is)
