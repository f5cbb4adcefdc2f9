use Rattle.std.proofs.Common.{◌-◌, length}
use Rattle.iamf_tool.proofs.Listed.{IsListed}
use Rattle.iamf_tool.proofs.listing.list_lines.Given as goal

abbrev pub invariant-loop-at : goal.invariant-loop-at
invariant-loop-at l = IsListed l.bytes l.text.items l.at

abbrev pub decreases-loop-at : goal.decreases-loop-at
decreases-loop-at l = length l.bytes - l.at
