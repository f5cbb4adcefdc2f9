-- The fields that a parameter block stands for.
use Rattle.std.specs.Prelude.{ℕ, List, [], ◌++◌, map, option_map}
use Rattle.std.specs.List.{zip}
use Rattle.spec_blocks.specs.ParameterBlock as fields
use Rattle.obu_timing.specs.TimingView.{view_fixed}
use Rattle.obu_data.specs.declared.gain_part.GainPart.{GainPart}
use Rattle.obu_data.specs.declared.gain_part.GainPart.TheVariants.{Step, Linear, Bezier}
use Rattle.obu_data.specs.declared.recon_part.ReconPart.{ReconPart}
use Rattle.obu_data.specs.declared.parameter_block.BlockContent.{BlockContent}
use Rattle.obu_data.specs.declared.parameter_block.BlockContent.TheVariants.{Opaque, Gain, Demix, Recon}
use Rattle.obu_data.specs.declared.parameter_block.ParameterBlock.{ParameterBlock}
use Rattle.obu_data.specs.declared.gain_part.Timed.{Timed}

abbrev pub view_gain_part : GainPart → fields.GainFields
view_gain_part (Step start) = fields.Step start
view_gain_part (Linear start end) = fields.Linear start end
view_gain_part (Bezier start end control time) = fields.Bezier start end control time

-- each subblock with its duration
abbrev pub pairs : List ℕ → List GainPart → List (ℕ × fields.GainFields)
pairs durations parts = zip durations (map view_gain_part parts)

abbrev pub view_timed : Timed → List (ℕ × fields.GainFields)
view_timed timed = pairs timed.durations.items timed.parts.items

abbrev pub view_recon_part : ReconPart → fields.ReconFields
view_recon_part part = record { recon_gain_flags = part.flags; recon_gain = part.gains.items }

abbrev pub view_content : BlockContent → fields.ContentFields
view_content (Opaque bytes) = fields.Opaque
view_content (Gain timing parts) = fields.Gain (option_map view_fixed timing) (map view_gain_part parts.items)
view_content (Demix mode) = fields.Demix mode
view_content (Recon layers) = fields.Recon (map view_recon_part layers.items)

abbrev pub view_block : ParameterBlock → fields.BlockFields
view_block block = record { parameter_id = block.id; content = view_content block.content }

-- the bytes of a content that is no fields
abbrev pub opaque_bytes : BlockContent → List ℕ
opaque_bytes (Opaque bytes) = bytes.now
opaque_bytes _ = []

-- the bytes after the fields
abbrev pub bytes_after : ParameterBlock → List ℕ
bytes_after block = opaque_bytes block.content ++ block.tail.now

abbrev pub IsOpaque : BlockContent → Type 0
IsOpaque (Opaque bytes) = Unit {0}
IsOpaque _ = ⊥

abbrev pub IsKnown : BlockContent → Type 0
IsKnown (Opaque bytes) = ⊥
IsKnown _ = Unit {0}
