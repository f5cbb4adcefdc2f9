use Rattle.iamf_report.specs.Text.{element_text}
use Rattle.iamf_report.proofs.TextLaws.{push_more}
use Rattle.iamf_report.proofs.print.push_elements.Goals as goal

pub loop-element-preserved : goal.loop-element-preserved
loop-element-preserved c = push_more element_text c.args.elements.now c.loop-element.element-index _ _ _ _ c.loop-element-test.true c.loop-element.invariant c.in_ok-push_element.ensures
