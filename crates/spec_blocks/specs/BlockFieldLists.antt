-- The fields that a parameter block and an audio frame's id stand for, in the order of the payload.
use Rattle.std.specs.Prelude.{ℕ, List, [], ◌∷◌, length, Option, Some, None, ◌==◌, if◌then◌else◌}
use Rattle.std.specs.List.{zip}
use Rattle.spec_bits.specs.Form.{Number, Signed, Leb128, Bytes, Reserved}
use Rattle.spec_syntax.specs.Payload.{FieldValue, a_field}
use Rattle.spec_syntax.specs.Repetition.{joined}
use Rattle.spec_descriptors.specs.ParameterDefinition.{FixedFields}
use Rattle.spec_blocks.specs.ParameterBlock.{GainFields, Step, Linear, Bezier, ReconFields, ContentFields, Opaque, Gain, Demix, Recon, BlockFields, ones_below}

abbrev pub gain_fields : GainFields → List FieldValue
gain_fields (Step start_point_value) = a_field Leb128 0 ∷ a_field (Signed 16) start_point_value ∷ []
gain_fields (Linear start_point_value end_point_value) = a_field Leb128 1 ∷ a_field (Signed 16) start_point_value ∷ a_field (Signed 16) end_point_value ∷ []
gain_fields (Bezier start_point_value end_point_value control_point_value control_point_relative_time) =
    a_field Leb128 2
    ∷ a_field (Signed 16) start_point_value
    ∷ a_field (Signed 16) end_point_value
    ∷ a_field (Signed 16) control_point_value
    ∷ a_field (Number 8) control_point_relative_time
    ∷ []

-- a subblock with its own duration
abbrev pub timed_gain_fields : ℕ × GainFields → List FieldValue
timed_gain_fields t = a_field Leb128 t.0 ∷ gain_fields t.1

-- the subblocks of a block with its own timing
abbrev pub subblock_fields : FixedFields → List GainFields → List FieldValue
subblock_fields fixed gains = if fixed.constant_subblock_duration == 0 then a_field Leb128 (length gains) ∷ joined timed_gain_fields (zip fixed.durations gains) else joined gain_fields gains

abbrev pub gains_fields : Option FixedFields → List GainFields → List FieldValue
gains_fields None gains = joined gain_fields gains
gains_fields (Some fixed) gains = a_field Leb128 fixed.duration ∷ a_field Leb128 fixed.constant_subblock_duration ∷ subblock_fields fixed gains

-- a gain for each flag that is set
abbrev pub recon_fields : ReconFields → List FieldValue
recon_fields part = a_field Leb128 part.recon_gain_flags ∷ a_field (Bytes (ones_below 12 part.recon_gain_flags)) part.recon_gain ∷ []

abbrev pub content_fields : ContentFields → List FieldValue
content_fields Opaque = []
content_fields (Gain timing gains) = gains_fields timing gains
content_fields (Demix dmixp_mode) = a_field (Number 3) dmixp_mode ∷ a_field (Reserved 5) tt ∷ []
content_fields (Recon parts) = joined recon_fields parts

abbrev pub block_fields : BlockFields → List FieldValue
block_fields block = a_field Leb128 block.parameter_id ∷ content_fields block.content

-- the substream's id, where the type does not give it
abbrev pub frame_fields : ℕ → ℕ → List FieldValue
frame_fields obu_type substream = if obu_type == 5 then a_field Leb128 substream ∷ [] else []
