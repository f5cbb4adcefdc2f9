-- What the values of the program show.
use Rattle.std.specs.Prelude.{◌≡◌, ℕ, ◌+◌, ◌-◌, ◌≤◌, List, length, slice_range}
use Rattle.mp4_boxes.specs.declared.box_view.BoxView.{BoxView}
use Rattle.mp4_boxes.specs.declared.boxes.Boxes.{Boxes}
use Rattle.spec_boxes.specs.Boxes.{Box, boxes_in, tiles}

-- what is seen of a box
abbrev pub box_of : BoxView → Box
box_of v = record { at = v.at; start = v.end - length v.payload.now; end = v.end; kind = v.kind }

-- the box is a part of the file, and its payload is the last bytes before its end
pub record StandsIn (f : List ℕ) (v : BoxView) : Type 0 where
  pub header : v.at + 8 + length v.payload.now ≤ v.end
  pub within : v.end ≤ length f
  pub payload : v.payload.now ≡ slice_range f (v.end - length v.payload.now) v.end

-- the boxes that are left
abbrev pub boxes_of : Boxes → List Box
boxes_of b = boxes_in (tiles b.top b.file.now b.at b.end)

-- the file of which they are a part
abbrev pub file_of : Boxes → List ℕ
file_of b = b.file.now
