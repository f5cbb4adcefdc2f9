use Rattle.std.proofs.Common.{rules, arith, ◌≡◌, sym, ap, ◌∙◌, take}
use Rattle.std.specs.List.{flat_map}
use Rattle.obu_descriptors.specs.declared.parameter.Param.{Param}
use Rattle.obu_descriptors.specs.ParameterView.{view_param}
use Rattle.spec_play.specs.DemixingOverTime.{demixing_in}
use Rattle.iamf_elements.specs.DemixingView.{view_demixing}
use Rattle.iamf_elements.proofs.Walks.{flat_map-map, first_found, found_in_none}
use Rattle.iamf_elements.proofs.demixing.demixing_of.Goals as goal

pub returns-in-Some : goal.returns-in-Some
returns-in-Some c =
    let s = c.as_slice-param-items.result.now in
    let e : s ≡ c.args.element.now.params.items = search rules in
    first_found (λ (p : Param). demixing_in (view_param p)) s c.loop-param.param-index c.param-item.result (view_demixing c.in-Some.definition) (omega arith) c.param-item.is c.loop-param.invariant (sym c.in-Some.ensures)
    ∙ ap (take 1) (ap (flat_map (λ (p : Param). demixing_in (view_param p))) e ∙ sym (flat_map-map demixing_in view_param c.args.element.now.params.items))

pub returns : goal.returns
returns c =
    let s = c.as_slice-param-items.result.now in
    let e : s ≡ c.args.element.now.params.items = search rules in
    found_in_none (λ (p : Param). demixing_in (view_param p)) s c.loop-param.param-index (omega arith) c.loop-param.invariant
    ∙ ap (take 1) (ap (flat_map (λ (p : Param). demixing_in (view_param p))) e ∙ sym (flat_map-map demixing_in view_param c.args.element.now.params.items))
