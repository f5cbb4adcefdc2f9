use Rattle.std.proofs.Common.{◌≡◌, ◌+◌, ◌-◌, ◌*◌, ◌≤◌, sum}
use Rattle.spec_boxes.specs.Tables.{words}
use Rattle.mp4_boxes.proofs.stts.sum_counts.Given as goal

abbrev pub invariant-loop-i : goal.invariant-loop-i
invariant-loop-i l = record {
  so_far : l.total + sum (words 8 (l.count - l.i) l.bytes (l.start + 8 * l.i)) ≡ sum (words 8 l.count l.bytes l.start);
  small : l.total ≤ 4294967295 * l.i;
}
