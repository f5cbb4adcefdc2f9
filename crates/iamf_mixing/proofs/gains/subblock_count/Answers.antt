use Rattle.std.proofs.Common.{arith, ◌∙◌, sym}
use Rattle.obu_data.proofs.Counts.{subblocks_rounded}
use Rattle.obu_timing.specs.TimingView.{view_fixed}
use Rattle.iamf_mixing.proofs.Subblocks.{count_alike}
use Rattle.iamf_mixing.proofs.gains.subblock_count.Goals as goal

pub returns-else-fixed-eq0 : goal.returns-else-fixed-eq0
returns-else-fixed-eq0 c =
    let fixed = c.args.fixed.now in
    c.div_ceil.ensures ∙ subblocks_rounded fixed.duration fixed.constant (omega (arith, c.if-fixed-eq0.false)) ∙ sym (count_alike (view_fixed fixed) c.if-fixed-eq0.false)
