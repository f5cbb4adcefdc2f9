-- The last unit has one block more.
use Rattle.std.proofs.Common.{ap, length}
use Rattle.iamf_sequence.specs.UnitView.{HasNoOpaqueTail, with_block}
use Rattle.iamf_sequence.proofs.Changing.{change_at, consistent_at}
use Rattle.iamf_sequence.proofs.contents.keep_block.Goals as goal

pub returns-clause-is : goal.returns-clause-is
returns-clause-is c =
    change_at c.push_block.result (with_block c.args.block) c.open.new.units.items (length c.as_slice.result.now) c.index_mut.result.now c.push_block.new.self _ (ap length c.as_slice.ensures.value) c.in_ok-open.ensures.some c.index_mut.ensures.value
    c.in_ok-open.ensures.is c.push_block.ensures.is

pub returns-clause-consistent : goal.returns-clause-consistent
returns-clause-consistent c =
    consistent_at (HasNoOpaqueTail c.args.block) c.push_block.result c.open.new.units.items _ (length c.as_slice.result.now) c.index_mut.result.now c.push_block.new.self (ap length c.as_slice.ensures.value) c.in_ok-open.ensures.some c.index_mut.ensures.value
    c.in_ok-open.ensures.consistent c.push_block.ensures.consistent
