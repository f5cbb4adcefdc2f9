use Rattle.std.proofs.Common.{arith}
use Rattle.iamf_elements.proofs.UnitCounts.{count_of_units}
use Rattle.iamf_channels.proofs.element_channels.after.Goals as goal

pub unreachable-requires : goal.unreachable-requires
unreachable-requires c = omega (arith, count_of_units c.args.sequence.now.entries)
