use Rattle.std.proofs.Common.{length, ◌≡◌}
use Rattle.mp4_boxes.specs.Views.{file_of, boxes_of}
use Rattle.spec_boxes.specs.Groups.{groups_at}
use Rattle.mp4_boxes.proofs.groups.check_groups.Given as goal

abbrev pub invariant-loop-view : goal.invariant-loop-view
invariant-loop-view l = (file_of l.rest ≡ l.file) × (groups_at l.file l.samples (boxes_of l.rest) ≡ groups_at l.file l.samples (boxes_of l.in_stbl))

abbrev pub decreases-loop-view : goal.decreases-loop-view
decreases-loop-view l = length (boxes_of l.rest)
