use Rattle.std.proofs.Common.{rules, arith, ◌≡◌, true, refl, sym, ap, ◌∙◌}
use Rattle.std.specs.List.{list_any, flat_map}
use Rattle.obu_descriptors.specs.declared.parameter.Param.{Param}
use Rattle.obu_descriptors.specs.ParameterView.{view_param}
use Rattle.spec_play.specs.DemixingOverTime.{demixing_in}
use Rattle.spec_play.specs.Selection.{has_reserved}
use Rattle.iamf_elements.specs.DemixingView.{view_demixing}
use Rattle.iamf_select.specs.CandidateView.{heard}
use Rattle.iamf_elements.proofs.Searches.{got, any_of_here, any_of_end}
use Rattle.iamf_elements.proofs.Walks.{flat_map-map}
use Rattle.iamf_select.proofs.asking.any_reserved.Goals as goal

pub returns-then-has_reserved : goal.returns-then-has_reserved
returns-then-has_reserved c =
    let s = c.as_slice-param-items.result.now in
    let e : s ≡ c.args.element.now.params.items = search rules in
    let units = (heard c.args.candidate.now).units in
    let own : has_reserved units (view_demixing c.in-Some.definition) ≡ true = sym c.has_reserved.ensures ∙ c.if-has_reserved.true in
    let here : list_any (has_reserved units) (demixing_in (view_param c.param-item.result)) ≡ true = ap (list_any (has_reserved units)) (sym c.in-Some.ensures) ∙ rw own refl in
    any_of_here (has_reserved units) (λ (p : Param). demixing_in (view_param p)) s c.loop-param.param-index c.param-item.result (got s c.loop-param.param-index c.param-item.result (omega arith) c.param-item.is) here
    ∙ ap (list_any (has_reserved units)) (ap (flat_map (λ (p : Param). demixing_in (view_param p))) e ∙ sym (flat_map-map demixing_in view_param c.args.element.now.params.items))

pub returns : goal.returns
returns c =
    let s = c.as_slice-param-items.result.now in
    let e : s ≡ c.args.element.now.params.items = search rules in
    let units = (heard c.args.candidate.now).units in
    any_of_end (has_reserved units) (λ (p : Param). demixing_in (view_param p)) s c.loop-param.param-index (omega arith) c.loop-param.invariant
    ∙ ap (list_any (has_reserved units)) (ap (flat_map (λ (p : Param). demixing_in (view_param p))) e ∙ sym (flat_map-map demixing_in view_param c.args.element.now.params.items))
