use Rattle.spec_play.specs.Selection.{is_gain_above}
use Rattle.iamf_select.specs.CandidateView.{heard}
use Rattle.iamf_select.proofs.MixedGains.{element_decides, output_decides}
use Rattle.iamf_select.proofs.selection.some_high_gain.Goals as goal

pub returns-then-some_element : goal.returns-then-some_element
returns-then-some_element c =
    let r = heard c.args.candidate.now in
    element_decides (is_gain_above r) r.elements r.output c.some_element.ensures c.if-some_element.true

pub returns-else-some_element : goal.returns-else-some_element
returns-else-some_element c =
    let r = heard c.args.candidate.now in
    output_decides (is_gain_above r) r.elements r.output c.some_element.ensures c.if-some_element.false c.is_gain_high.ensures
