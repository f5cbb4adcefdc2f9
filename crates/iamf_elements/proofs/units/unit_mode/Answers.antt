use Rattle.std.proofs.Common.{arith, sym, [], if◌then◌else◌}
use Rattle.std.specs.Prelude.{◌==◌}
use Rattle.spec_sequence.specs.Parts.{BlockValue}
use Rattle.spec_play.specs.DemixingOverTime.{mode_in}
use Rattle.iamf_sequence.specs.UnitView.{view_block_value}
use Rattle.iamf_elements.proofs.Walks.{first_found, found_in_none}
use Rattle.iamf_elements.proofs.units.unit_mode.Goals as goal

pub returns-in-Some : goal.returns-in-Some
returns-in-Some c = λ v is.
    first_found (λ (block : BlockValue). if block.fields.parameter_id == c.args.id then mode_in block.fields.content else []) v.blocks c.loop-i.i (view_block_value c.block.result.now) c.in-Some.mode
    (omega (arith, c.block_count-i-end.ensures.counts v is)) (c.block.ensures.says v is) (c.loop-i.invariant v is) (sym c.in-Some.ensures)

pub returns : goal.returns
returns c = λ v is.
    found_in_none (λ (block : BlockValue). if block.fields.parameter_id == c.args.id then mode_in block.fields.content else []) v.blocks c.loop-i.i (omega (arith, c.block_count-i-end.ensures.counts v is)) (c.loop-i.invariant v is)
