use Rattle.std.proofs.Common.{arith, ◌≡◌, ◌<◌, ◌≤◌, ◌^◌}
use Rattle.std.proofs.Math.Nat.{one-le-pow}
use Rattle.iamf_tables.proofs.gains.shift.Goals as goal

pub nonzero_div-result : goal.nonzero_div-result
nonzero_div-result c = rw c.pow-else-e-ge0.ensures (one-le-pow _ 10 (omega arith))
