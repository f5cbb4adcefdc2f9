use Rattle.std.proofs.Common.{arith, sym, ◌∙◌}
use Rattle.spec_sequence.specs.Parts.{UnitValue, temporal_units}
use Rattle.spec_sequence.specs.Reading.{values_of}
use Rattle.spec_play.specs.DemixingOverTime.{unit_modes}
use Rattle.spec_play.specs.Selection.{uses_reserved}
use Rattle.iamf_elements.specs.DemixingView.{view_demixing}
use Rattle.iamf_elements.proofs.Searches.{any_next, any_here, any_end}
use Rattle.iamf_elements.proofs.UnitCounts.{count_of_units}
use Rattle.iamf_elements.proofs.units.has_reserved.Goals as goal

pub loop-u-preserved : goal.loop-u-preserved
loop-u-preserved c =
    let unit = c.unit.ensures.is in
    any_next (λ (v : UnitValue). uses_reserved (view_demixing c.args.definition) (unit_modes c.args.definition.id v)) (temporal_units (values_of c.args.sequence.now.entries)) c.loop-u.u unit.0 c.loop-u.invariant unit.1
    (sym (c.uses_reserved.ensures unit.0 unit.2) ∙ c.if-uses_reserved.false)

pub returns-then-uses_reserved : goal.returns-then-uses_reserved
returns-then-uses_reserved c =
    let unit = c.unit.ensures.is in
    any_here (λ (v : UnitValue). uses_reserved (view_demixing c.args.definition) (unit_modes c.args.definition.id v)) (temporal_units (values_of c.args.sequence.now.entries)) c.loop-u.u unit.0 unit.1
    (sym (c.uses_reserved.ensures unit.0 unit.2) ∙ c.if-uses_reserved.true)

pub returns : goal.returns
returns c =
    any_end (λ (v : UnitValue). uses_reserved (view_demixing c.args.definition) (unit_modes c.args.definition.id v)) (temporal_units (values_of c.args.sequence.now.entries)) c.loop-u.u
    (omega (arith, count_of_units c.args.sequence.now.entries)) c.loop-u.invariant
