use Rattle.spec_play.specs.Selection.{some_part, is_bezier}
use Rattle.iamf_select.specs.CandidateView.{heard}
use Rattle.iamf_select.proofs.MixedGains.{element_decides, output_decides}
use Rattle.iamf_select.proofs.selection.some_bezier.Goals as goal

pub returns-then-some_element : goal.returns-then-some_element
returns-then-some_element c =
    let r = heard c.args.candidate.now in
    element_decides (some_part is_bezier r) r.elements r.output c.some_element.ensures c.if-some_element.true

pub returns-else-some_element : goal.returns-else-some_element
returns-else-some_element c =
    let r = heard c.args.candidate.now in
    output_decides (some_part is_bezier r) r.elements r.output c.some_element.ensures c.if-some_element.false c.is_animated.ensures
