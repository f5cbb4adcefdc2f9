-- The last unit has one frame more.
use Rattle.std.proofs.Common.{ap, length}
use Rattle.iamf_sequence.specs.UnitView.{with_frame}
use Rattle.iamf_sequence.proofs.Changing.{change_at, consistent_always}
use Rattle.iamf_sequence.proofs.contents.keep_frame.Goals as goal

pub returns-clause-is : goal.returns-clause-is
returns-clause-is c =
    change_at c.push_frame.result (with_frame c.args.frame) c.open.new.units.items (length c.as_slice.result.now) c.index_mut.result.now c.push_frame.new.self _ (ap length c.as_slice.ensures.value) c.in_ok-open.ensures.some c.index_mut.ensures.value
    c.in_ok-open.ensures.is c.push_frame.ensures.is

pub returns-clause-consistent : goal.returns-clause-consistent
returns-clause-consistent c =
    consistent_always c.push_frame.result c.open.new.units.items _ (length c.as_slice.result.now) c.index_mut.result.now c.push_frame.new.self (ap length c.as_slice.ensures.value) c.in_ok-open.ensures.some c.index_mut.ensures.value
    c.in_ok-open.ensures.consistent c.push_frame.ensures.consistent
