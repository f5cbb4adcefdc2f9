-- What is kept of a temporal unit (IAMF 1.0.0, "Temporal Unit").
use Rattle.std.specs.Prelude.{◌≡◌, ℕ, true, ◌==◌, ◌<◌, nat_lt, if◌then◌else◌, List, [], ◌∷◌, ◌++◌, length, map, find, Option, Some, None}
use Rattle.std.specs.Borrow.{Bor}
use Rattle.std.specs.List.{All}
use Rattle.spec_rules.specs.Units.{are_apart}
use Rattle.spec_sequence.specs.Parts.{FrameValue, BlockValue, UnitValue, first_trim}
use Rattle.obu_data.specs.BlockView.{view_block, bytes_after, IsOpaque}
use Rattle.obu_data.specs.declared.frame.FrameView.{FrameView}
use Rattle.obu_data.specs.declared.parameter_block.ParameterBlock.{ParameterBlock}
use Rattle.iamf_sequence.specs.declared.unit.Unit as temporal

abbrev pub view_frame : FrameView → FrameValue
view_frame f = record { substream = f.substream; trim = f.trim; bytes = f.bytes.now }

abbrev pub view_block_value : ParameterBlock → BlockValue
view_block_value b = record { fields = view_block b; tail = bytes_after b }

-- all bytes of a block of no known parameter are in its content
abbrev pub HasNoOpaqueTail : ParameterBlock → Type 0
HasNoOpaqueTail b = IsOpaque b.content → b.tail.now ≡ []

-- ---- while it is read: its frames in the order in which they stand

abbrev pub view_unit : temporal.Unit → UnitValue
view_unit u = record { frames = map view_frame u.frames.items; blocks = map view_block_value u.blocks.items }

pub record IsConsistent (u : temporal.Unit) : Type 0 where
  pub trim : u.trim ≡ first_trim (map view_frame u.frames.items)
  pub opaque : All HasNoOpaqueTail u.blocks.items

-- the units with that of the number, which is the last one or the next
abbrev pub opened : ℕ → List UnitValue → List UnitValue
opened number units = if nat_lt number (length units) then units else units ++ record { frames = []; blocks = [] } ∷ []

abbrev pub with_frame : FrameView → UnitValue → UnitValue
with_frame f v = record { frames = v.frames ++ view_frame f ∷ []; blocks = v.blocks }

abbrev pub with_block : ParameterBlock → UnitValue → UnitValue
with_block b v = record { frames = v.frames; blocks = v.blocks ++ view_block_value b ∷ [] }

-- the last unit is changed
abbrev pub change_last : (UnitValue → UnitValue) → List UnitValue → List UnitValue
change_last change [] = []
change_last change (v ∷ []) = change v ∷ []
change_last change (v ∷ w ∷ units) = v ∷ change_last change (w ∷ units)

-- ---- once it is read

-- the first frame of the substream
abbrev pub frame_with : ℕ → List FrameValue → Option FrameValue
frame_with substream frames = find (λ f. f.substream == substream) frames

-- each frame is of a greater substream than those before it
abbrev pub AreIncreasing : List FrameValue → Type 0
AreIncreasing [] = Unit {0}
AreIncreasing (f ∷ fs) = All (λ g. f.substream < g.substream) fs × AreIncreasing fs

-- The unit holds these frames, each found by its substream, their trims, and these blocks in their order.
pub record IsUnit (u : temporal.Unit) (v : UnitValue) : Type 0 where
  pub trim : u.trim ≡ first_trim v.frames
  pub increasing : AreIncreasing (map view_frame u.frames.items)
  pub frames : (substream : ℕ) → frame_with substream (map view_frame u.frames.items) ≡ frame_with substream v.frames
  pub blocks : map view_block_value u.blocks.items ≡ v.blocks
  pub opaque : All HasNoOpaqueTail u.blocks.items

abbrev pub AreUnits : List temporal.Unit → List UnitValue → Type 0
AreUnits [] [] = Unit {0}
AreUnits (u ∷ us) (v ∷ vs) = IsUnit u v × AreUnits us vs
AreUnits _ _ = ⊥

-- a unit whose frames are of distinct substreams, and the same with its frames in order
abbrev pub SortsTo : temporal.Unit → temporal.Unit → Type 0
SortsTo old new = are_apart (map (λ f. f.substream) (view_unit old).frames) ≡ true → IsConsistent old → IsUnit new (view_unit old)

-- what was found is the frame
abbrev pub FindsFrame : Option (Bor FrameView) → Option FrameValue → Type 0
FindsFrame None found = found ≡ None
FindsFrame (Some f) found = found ≡ Some (view_frame f.now)
