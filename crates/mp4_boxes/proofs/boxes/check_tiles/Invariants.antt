use Rattle.std.proofs.Common.{◌-◌, ◌≤◌}
use Rattle.spec_boxes.specs.Boxes.{tiles}
use Rattle.spec_boxes.proofs.Tiles.{Decides}
use Rattle.mp4_boxes.proofs.boxes.check_tiles.Given as goal

abbrev pub invariant-loop-at : goal.invariant-loop-at
invariant-loop-at l = (l.at ≤ l.end) × Decides (tiles l.top l.file l.at l.end) (tiles l.fn.top l.fn.file l.fn.start l.fn.end)

abbrev pub decreases-loop-at : goal.decreases-loop-at
decreases-loop-at l = l.end - l.at
