use Rattle.std.proofs.Common.{◌+◌, ◌-◌}
use Rattle.iamf_io.proofs.Calls.{IsHalfRead}
use Rattle.iamf_io.proofs.whole.read_all.Given as goal

abbrev pub invariant-reading : goal.invariant-reading
invariant-reading g l = IsHalfRead (g.S.Source.left l.fn.source) (g.S.Source.left l.source) (g.S.Source.faults l.fn.source) (g.S.Source.faults l.source) l.all.items l.read l.limit

abbrev pub decreases-reading : goal.decreases-reading
decreases-reading g l = l.limit + 1 - l.read
