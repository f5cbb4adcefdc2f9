use Rattle.std.proofs.Common.{◌≡◌, ◌≤◌, ◌-◌, length}
use Rattle.spec_boxes.specs.Groups.{entries_from}
use Rattle.mp4_boxes.proofs.sgpd.entries_fit.Given as goal

abbrev pub invariant-loop-i : goal.invariant-loop-i
invariant-loop-i l = record {
  within : l.at ≤ length l.bytes;
  so_far : entries_from (l.count - l.i) l.bytes l.at ≡ entries_from l.count l.bytes l.start;
}
