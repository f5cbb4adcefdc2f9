use Rattle.iamf_report.specs.LinesView.{view_mix}
use Rattle.iamf_report.specs.Text.{mix_texts}
use Rattle.iamf_report.proofs.TextLaws.{push_item}
use Rattle.iamf_report.proofs.print.push_mixes.Goals as goal

pub loop-mix-preserved : goal.loop-mix-preserved
loop-mix-preserved c = push_item (λ m. mix_texts (view_mix m)) c.args.mixes.now c.loop-mix.mix-index c.mix-item.result _ _ _ c.loop-mix-test.true c.mix-item.is c.loop-mix.invariant c.in_ok-push_mix.ensures
