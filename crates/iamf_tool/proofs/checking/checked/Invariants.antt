use Rattle.std.proofs.Common.{◌+◌, ◌-◌, ◌^◌}
use Rattle.iamf_tool.proofs.HalfChecked.{IsHalfChecked}
use Rattle.iamf_tool.proofs.checking.checked.Given as goal

abbrev pub invariant-reading : goal.invariant-reading
invariant-reading g l = IsHalfChecked (g.R.Source.left l.fn.source) (g.R.Source.left l.source) (g.R.Source.faults l.fn.source) (g.R.Source.faults l.source) l.checker l.read

abbrev pub decreases-reading : goal.decreases-reading
decreases-reading g l = 2 ^ 30 + 1 - l.read
