use Rattle.std.proofs.Common.{arith, ◌≡◌, take, sym, ap, ◌∙◌}
use Rattle.std.specs.Option.{option_to_list}
use Rattle.spec_play.specs.DemixingOverTime.{unit_modes}
use Rattle.iamf_elements.specs.DemixingView.{view_demixing}
use Rattle.iamf_elements.proofs.UnitCounts.{count_of_units}
use Rattle.iamf_channels.specs.Heard.{units_in, unit_in}
use Rattle.iamf_channels.proofs.ParameterSteps.{mode_found, mode_below, index_first, some_unreserved, none_unreserved, some_parameters, none_parameters}
use Rattle.iamf_channels.proofs.parameters.taken_on.Goals as goal
use Rattle.iamf_channels.proofs.parameters.taken_on.Goals.{After-unit_mode-mode}

-- the mode that is found is the first of the unit's modes
first_mode : (c : After-unit_mode-mode) → option_to_list c.unit_mode-mode.result ≡ take 1 (unit_modes c.args.definition.id (unit_in c.args.sequence.now c.args.u))
first_mode c =
    let found = c.unit.ensures.is in
    mode_found (units_in c.args.sequence.now) c.args.definition.id c.args.u found.0 c.unit_mode-mode.result found.1 (c.unit_mode-mode.ensures found.0 found.2)

pub unit-requires : goal.unit-requires
unit-requires c = omega (arith, count_of_units c.args.sequence.now.entries)

pub index_after-index-requires-clause-mode : goal.index_after-index-requires-clause-mode
index_after-index-requires-clause-mode c =
    let modes = unit_modes c.args.definition.id (unit_in c.args.sequence.now c.args.u) in
    let is = first_mode (goal.at.index_after-index-requires-clause-mode c).After-unit_mode-mode in
    mode_below (view_demixing c.args.definition) modes c.unit_mode-mode.result is c.requires.unreserved

pub params_of-params-requires : goal.params_of-params-requires
params_of-params-requires c =
    let modes = unit_modes c.args.definition.id (unit_in c.args.sequence.now c.args.u) in
    let is = first_mode (goal.at.params_of-params-requires c).After-unit_mode-mode in
    some_unreserved (view_demixing c.args.definition) modes c.in-Some.code (ap option_to_list (sym c.in-Some.is) ∙ is) c.requires.unreserved

pub params_of-params-requires-in-None : goal.params_of-params-requires-in-None
params_of-params-requires-in-None c =
    let modes = unit_modes c.args.definition.id (unit_in c.args.sequence.now c.args.u) in
    let is = first_mode (goal.at.params_of-params-requires-in-None c).After-unit_mode-mode in
    none_unreserved (view_demixing c.args.definition) modes (ap option_to_list (sym c.in-None.is) ∙ is) c.requires.unreserved

pub returns-in-Some-clause-index : goal.returns-in-Some-clause-index
returns-in-Some-clause-index c =
    let modes = unit_modes c.args.definition.id (unit_in c.args.sequence.now c.args.u) in
    let is = first_mode (goal.at.returns-in-Some-clause-index c).After-unit_mode-mode in
    c.index_after-index.ensures.value ∙ index_first modes c.unit_mode-mode.result c.args.index is

pub returns-in-Some-clause-params : goal.returns-in-Some-clause-params
returns-in-Some-clause-params c =
    let unit = unit_in c.args.sequence.now c.args.u in
    let is = first_mode (goal.at.returns-in-Some-clause-params c).After-unit_mode-mode in
    some_parameters c.args.definition unit c.index_after-index.result c.in-Some.code c.params_of-params.result (ap option_to_list (sym c.in-Some.is) ∙ is) c.params_of-params.ensures.mode c.params_of-params.ensures.weight

pub returns-in-None-clause-index : goal.returns-in-None-clause-index
returns-in-None-clause-index c =
    let modes = unit_modes c.args.definition.id (unit_in c.args.sequence.now c.args.u) in
    let is = first_mode (goal.at.returns-in-None-clause-index c).After-unit_mode-mode in
    c.index_after-index.ensures.value ∙ index_first modes c.unit_mode-mode.result c.args.index is

pub returns-in-None-clause-params : goal.returns-in-None-clause-params
returns-in-None-clause-params c =
    let unit = unit_in c.args.sequence.now c.args.u in
    let is = first_mode (goal.at.returns-in-None-clause-params c).After-unit_mode-mode in
    none_parameters c.args.definition unit c.index_after-index.result c.params_of-params-in-None.result (ap option_to_list (sym c.in-None.is) ∙ is)
    (record { mode = c.params_of-params-in-None.ensures.mode; weight = c.params_of-params-in-None.ensures.weight })
