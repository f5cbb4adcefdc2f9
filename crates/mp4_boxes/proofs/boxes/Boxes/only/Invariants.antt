use Rattle.std.proofs.Common.{length, ◌≡◌, ◌++◌, filter, IfSome}
use Rattle.std.specs.Option.{option_map, option_to_list}
use Rattle.mp4_boxes.specs.Views.{file_of, boxes_of, box_of, StandsIn}
use Rattle.spec_boxes.specs.Parts.{either_is}
use Rattle.mp4_boxes.proofs.boxes.Boxes.only.Given as goal

abbrev pub invariant-loop-view : goal.invariant-loop-view
invariant-loop-view l = record {
  same_file : file_of l.rest ≡ file_of l.self;
  stands : IfSome l.found (λ b. StandsIn (file_of l.self) b);
  found : option_to_list (option_map box_of l.found) ++ filter (either_is l.kind l.other) (boxes_of l.rest) ≡ filter (either_is l.kind l.other) (boxes_of l.self);
}

abbrev pub decreases-loop-view : goal.decreases-loop-view
decreases-loop-view l = length (boxes_of l.rest)
