use Rattle.std.proofs.Common.{arith, sym, ◌∙◌}
use Rattle.spec_sequence.specs.Parts.{temporal_units}
use Rattle.spec_sequence.specs.Reading.{values_of}
use Rattle.iamf_elements.specs.BlockTests.{unit_passes}
use Rattle.iamf_elements.proofs.Searches.{any_next, any_here, any_end}
use Rattle.iamf_elements.proofs.UnitCounts.{count_of_units}
use Rattle.iamf_elements.proofs.units.some_block.Goals as goal

pub loop-u-preserved : goal.loop-u-preserved
loop-u-preserved c =
    let unit = c.unit.ensures.is in
    any_next (unit_passes c.args.test c.args.id) (temporal_units (values_of c.args.sequence.now.entries)) c.loop-u.u unit.0 c.loop-u.invariant unit.1 (sym (c.unit_passes.ensures unit.0 unit.2) ∙ c.if-unit_passes.false)

pub returns-then-unit_passes : goal.returns-then-unit_passes
returns-then-unit_passes c =
    let unit = c.unit.ensures.is in
    any_here (unit_passes c.args.test c.args.id) (temporal_units (values_of c.args.sequence.now.entries)) c.loop-u.u unit.0 unit.1 (sym (c.unit_passes.ensures unit.0 unit.2) ∙ c.if-unit_passes.true)

pub returns : goal.returns
returns c = any_end (unit_passes c.args.test c.args.id) (temporal_units (values_of c.args.sequence.now.entries)) c.loop-u.u (omega (arith, count_of_units c.args.sequence.now.entries)) c.loop-u.invariant
