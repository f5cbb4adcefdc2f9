use Rattle.std.proofs.Common.{length, ◌≡◌, find}
use Rattle.mp4_boxes.specs.Views.{file_of, boxes_of}
use Rattle.spec_boxes.specs.Parts.{kind_is}
use Rattle.mp4_boxes.proofs.boxes.Boxes.first.Given as goal

abbrev pub invariant-loop-view : goal.invariant-loop-view
invariant-loop-view l = (file_of l.rest ≡ file_of l.self) × (find (kind_is l.kind) (boxes_of l.rest) ≡ find (kind_is l.kind) (boxes_of l.self))

abbrev pub decreases-loop-view : goal.decreases-loop-view
decreases-loop-view l = length (boxes_of l.rest)
