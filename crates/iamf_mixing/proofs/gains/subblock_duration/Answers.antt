use Rattle.std.proofs.Common.{arith, rules, ◌∙◌, sym}
use Rattle.obu_timing.specs.TimingView.{view_fixed}
use Rattle.iamf_mixing.proofs.Subblocks.{number_alike, number_below, starts_alike, duration_alike}
use Rattle.iamf_mixing.proofs.gains.subblock_duration.Goals as goal

pub overflow_cast-i : goal.overflow_cast-i
overflow_cast-i c =
    let fixed = c.args.fixed.now in
    let below = number_below fixed.duration fixed.constant c.args.i (omega (arith, c.if-fixed-eq0.false)) (number_alike (view_fixed fixed) c.args.i c.if-fixed-eq0.false c.requires) in
    search (rules, below)

pub overflow_mul-i : goal.overflow_mul-i
overflow_mul-i c = let before = starts_alike (view_fixed c.args.fixed.now) c.args.i c.if-fixed-eq0.false c.requires in search (rules, before)

pub overflow_sub-fixed : goal.overflow_sub-fixed
overflow_sub-fixed c = omega (arith, starts_alike (view_fixed c.args.fixed.now) c.args.i c.if-fixed-eq0.false c.requires)

pub returns-else-fixed-eq0 : goal.returns-else-fixed-eq0
returns-else-fixed-eq0 c = c.min.ensures ∙ sym (duration_alike (view_fixed c.args.fixed.now) c.args.i c.if-fixed-eq0.false c.requires)
