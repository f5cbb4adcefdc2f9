use Rattle.std.proofs.Common.{arith, sym, ◌∙◌}
use Rattle.iamf_sequence.specs.UnitView.{view_block_value}
use Rattle.iamf_elements.specs.BlockTests.{passes}
use Rattle.iamf_elements.proofs.Searches.{got, any_next, any_here, any_end}
use Rattle.iamf_elements.proofs.units.unit_passes.Goals as goal

pub loop-i-preserved : goal.loop-i-preserved
loop-i-preserved c = λ v is.
    any_next (passes c.args.test c.args.id) v.blocks c.loop-i.i (view_block_value c.block.result.now) (c.loop-i.invariant v is)
    (got v.blocks c.loop-i.i (view_block_value c.block.result.now) (omega (arith, c.block_count-i-end.ensures.counts v is)) (c.block.ensures.says v is)) (sym c.passes.ensures ∙ c.if-passes.false)

pub returns-then-passes : goal.returns-then-passes
returns-then-passes c = λ v is.
    any_here (passes c.args.test c.args.id) v.blocks c.loop-i.i (view_block_value c.block.result.now)
    (got v.blocks c.loop-i.i (view_block_value c.block.result.now) (omega (arith, c.block_count-i-end.ensures.counts v is)) (c.block.ensures.says v is)) (sym c.passes.ensures ∙ c.if-passes.true)

pub returns : goal.returns
returns c = λ v is. any_end (passes c.args.test c.args.id) v.blocks c.loop-i.i (omega (arith, c.block_count-i-end.ensures.counts v is)) (c.loop-i.invariant v is)
