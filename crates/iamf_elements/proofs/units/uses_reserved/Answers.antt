use Rattle.std.proofs.Common.{◌∙◌}
use Rattle.spec_play.specs.DemixingOverTime.{unit_modes}
use Rattle.iamf_elements.specs.DemixingView.{view_demixing}
use Rattle.iamf_elements.proofs.UnitCounts.{first_reserved, none_reserved}
use Rattle.iamf_elements.proofs.units.uses_reserved.Goals as goal

pub returns-in-Some : goal.returns-in-Some
returns-in-Some c = λ v is. c.is_reserved.ensures ∙ first_reserved (view_demixing c.args.definition) (unit_modes c.args.definition.id v) c.in-Some.mode (c.in-Some.ensures v is)

pub returns-in-None : goal.returns-in-None
returns-in-None c = λ v is. c.is_reserved-in-None.ensures ∙ none_reserved (view_demixing c.args.definition) (unit_modes c.args.definition.id v) (c.in-None.ensures v is)
