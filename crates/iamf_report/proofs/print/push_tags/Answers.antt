use Rattle.iamf_report.specs.LinesView.{view_tag}
use Rattle.spec_report.specs.Report.{tag_line}
use Rattle.iamf_report.proofs.TextLaws.{push_item}
use Rattle.iamf_report.proofs.print.push_tags.Goals as goal

pub loop-tag-preserved : goal.loop-tag-preserved
loop-tag-preserved c = push_item (λ t. tag_line (view_tag t)) c.args.tags.now c.loop-tag.tag-index c.tag-item.result _ _ _ c.loop-tag-test.true c.tag-item.is c.loop-tag.invariant c.in_ok-push_tag.ensures
