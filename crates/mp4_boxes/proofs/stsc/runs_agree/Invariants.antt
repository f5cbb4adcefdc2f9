use Rattle.std.proofs.Common.{◌≡◌, ◌+◌, ◌-◌, ◌*◌, ◌<◌, ◌≤◌}
use Rattle.spec_boxes.specs.Tables.{runs_of, agree}
use Rattle.spec_boxes.proofs.Rows.{rest_agrees}
use Rattle.mp4_boxes.proofs.stsc.runs_agree.Given as goal

abbrev pub invariant-loop-i : goal.invariant-loop-i
invariant-loop-i l = record {
  within : l.before ≤ l.chunks;
  each_small : l.each < 4294967296;
  small : l.total ≤ 4294967295 * l.before;
  verdict : rest_agrees l.total l.before l.each (runs_of (l.count - l.i) l.bytes (8 + 12 * l.i)) l.chunks l.samples ≡ agree (runs_of l.count l.bytes 8) l.chunks l.samples;
}
