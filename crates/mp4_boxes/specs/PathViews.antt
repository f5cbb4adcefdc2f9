-- What is seen of the way to a track.
use Rattle.std.specs.Prelude.{◌≡◌, ℕ, List, Option, Some, None, Result}
use Rattle.std.specs.Option.{option_map}
use Rattle.spec_boxes.specs.declared.fault.BoxRefusal.{BoxRefusal}
use Rattle.mp4_boxes.specs.declared.path.Walk.{Walk}
use Rattle.spec_boxes.specs.Boxes.{Gives}
use Rattle.mp4_boxes.specs.Views.{box_of, boxes_of, file_of, StandsIn}
use Rattle.spec_boxes.specs.Paths.{Way}

abbrev pub walk_of : Walk → Way
walk_of w = record { trak = box_of w.trak; in_trak = boxes_of w.in_trak; stbl = box_of w.stbl; in_stbl = boxes_of w.in_stbl; entry = box_of w.entry }

abbrev pub GivesWalk : Result (Option Walk) BoxRefusal → Result (Option Way) BoxRefusal → Type 0
GivesWalk r read = Gives (option_map walk_of) r read

-- the boxes are parts of the file
pub record WalkStands (f : List ℕ) (w : Walk) : Type 0 where
  pub trak_file : file_of w.in_trak ≡ f
  pub stbl_file : file_of w.in_stbl ≡ f
  pub trak : StandsIn f w.trak
  pub stbl : StandsIn f w.stbl
  pub entry : StandsIn f w.entry

abbrev pub FoundStands : List ℕ → Option Walk → Type 0
FoundStands f None = Unit {0}
FoundStands f (Some w) = WalkStands f w
