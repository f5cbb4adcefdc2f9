use Rattle.std.proofs.Common.{◌≡◌, take}
use Rattle.iamf_rules.specs.Totals.{total_of}
use Rattle.iamf_rules.proofs.channels.sum.Given as goal

abbrev pub invariant-loop-count : goal.invariant-loop-count
invariant-loop-count l = l.total ≡ total_of (take l.count-index l.channels)
