use Rattle.std.proofs.Common.{◌≡◌, true, false, sym, ap, ◌∙◌}
use Rattle.spec_play.specs.UsedLayers.{need_parameters}
use Rattle.spec_play.specs.Selection.{needs_parameters}
use Rattle.spec_play.proofs.Tests.{second_false}
use Rattle.obu_descriptors.specs.ElementView.{view_element}
use Rattle.iamf_channels.proofs.ParameterSteps.{not_needed, needed_by, all_unreserved}
use Rattle.iamf_channels.proofs.parameters.definition_of.Goals as goal

pub returns-then-need_parameters-clause-by : goal.returns-then-need_parameters-clause-by
returns-then-need_parameters-clause-by c = λ r e.
    let element = view_element c.args.element.now in
    let needs : needs_parameters r.target element ≡ true = ap (λ t. needs_parameters t element) e ∙ ap need_parameters (sym c.used_layers.ensures) ∙ sym c.need_parameters.ensures ∙ c.if-need_parameters.true in
    needed_by r element c.demixing_of.result needs c.demixing_of.ensures

pub returns-else-need_parameters-clause-by : goal.returns-else-need_parameters-clause-by
returns-else-need_parameters-clause-by c = λ r e u.
    let element = view_element c.args.element.now in
    let needs : needs_parameters r.target element ≡ false = ap (λ t. needs_parameters t element) e ∙ ap need_parameters (sym c.used_layers.ensures) ∙ sym c.need_parameters.ensures ∙ c.if-need_parameters.false in
    not_needed r element u needs

pub returns-then-need_parameters-clause-unreserved : goal.returns-then-need_parameters-clause-unreserved
returns-then-need_parameters-clause-unreserved c = λ r e passed.
    let element = view_element c.args.element.now in
    let needs : needs_parameters r.target element ≡ true = ap (λ t. needs_parameters t element) e ∙ ap need_parameters (sym c.used_layers.ensures) ∙ sym c.need_parameters.ensures ∙ c.if-need_parameters.true in
    all_unreserved element c.demixing_of.result r.units c.demixing_of.ensures (second_false _ _ passed needs)
