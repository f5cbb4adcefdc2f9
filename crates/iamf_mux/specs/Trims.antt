-- The trims at the starts of units, frame by frame.
use Rattle.std.specs.Prelude.{◌≡◌, ℕ, Bool, true, false, List, [], ◌∷◌, ◌++◌, Option, Some, None}
use Rattle.spec_sequence.specs.Parts.{FrameValue, UnitValue}

-- that of the first frame
abbrev pub first_start : List FrameValue → Option ℕ
first_start [] = None
first_start (f ∷ fs) = Some f.trim.start

-- the unit gets these frames after its own
abbrev pub AddsFrames : (UnitValue → UnitValue) → List FrameValue → Type 0
AddsFrames change fs = (v : UnitValue) → (change v).frames ≡ v.frames ++ fs

abbrev pub has_frame : List FrameValue → Bool
has_frame [] = false
has_frame (f ∷ fs) = true

-- whether the last unit has a frame
abbrev pub is_last_framed : List UnitValue → Bool
is_last_framed [] = false
is_last_framed (v ∷ []) = has_frame v.frames
is_last_framed (v ∷ w ∷ vs) = is_last_framed (w ∷ vs)
