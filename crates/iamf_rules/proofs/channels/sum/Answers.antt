use Rattle.std.proofs.Common.{◌∙◌}
use Rattle.iamf_rules.proofs.Totals.{total-step}
use Rattle.iamf_rules.proofs.channels.sum.Goals as goal

pub loop-count-preserved : goal.loop-count-preserved
loop-count-preserved c = c.saturating_add-total.ensures ∙ total-step c.loop-count.total c.args.channels.now c.loop-count.count-index c.loop-count-test.true c.loop-count.invariant
