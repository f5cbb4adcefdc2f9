use Rattle.std.proofs.Common.{◌≡◌, ◌+◌, ◌-◌, ◌*◌}
use Rattle.spec_boxes.specs.Tables.{runs_of, all_first}
use Rattle.mp4_boxes.proofs.stsc.first_descriptions.Given as goal

abbrev pub invariant-loop-i : goal.invariant-loop-i
invariant-loop-i l = all_first (runs_of (l.count - l.i) l.bytes (8 + 12 * l.i)) ≡ all_first (runs_of l.count l.bytes 8)
