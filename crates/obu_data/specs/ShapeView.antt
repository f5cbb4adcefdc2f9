-- The shape and the definition that a record stands for.
use Rattle.std.specs.Prelude.{◌≡◌, ◌^◌, ◌<◌, ◌≤◌, [], Option, Some, None, option_map}
use Rattle.spec_descriptors.specs.ParameterDefinition.{FixedFields}
use Rattle.spec_blocks.specs.Shape as fields
use Rattle.obu_timing.specs.TimingView.{view_fixed}
use Rattle.obu_data.specs.declared.definition.Shape.{Shape}
use Rattle.obu_data.specs.declared.definition.Shape.TheVariants.{Gain, Demix, Recon}

-- Demixing and recon gains have a timing in every definition; without one nothing lasts.
abbrev pub fixed_or_none : Option FixedFields → FixedFields
fixed_or_none None = record { duration = 0; constant_subblock_duration = 0; durations = [] }
fixed_or_none (Some fixed) = fixed

abbrev pub view_shape : Shape → fields.Shape
view_shape (Gain cadence) = fields.MixGain cadence.rate (option_map view_fixed cadence.fixed)
view_shape (Demix cadence) = fields.Demixing cadence.rate (fixed_or_none (option_map view_fixed cadence.fixed))
view_shape (Recon cadence layers recon_flags) = fields.ReconGain cadence.rate (fixed_or_none (option_map view_fixed cadence.fixed)) layers recon_flags

-- blocks of a frame each, and not of nothing
abbrev pub LastsAFrame : Option FixedFields → Type 0
LastsAFrame None = ⊥
LastsAFrame (Some fixed) = (0 < fixed.duration) × (fixed.constant_subblock_duration ≡ fixed.duration)

-- A shape as it stands in an admitted descriptor: demixing and recon gains come once a frame, and there are 1 to 6 layers
-- with a flag each.
abbrev pub MayDefine : Shape → Type 0
MayDefine (Gain cadence) = Unit {0}
MayDefine (Demix cadence) = LastsAFrame (option_map view_fixed cadence.fixed)
MayDefine (Recon cadence layers recon_flags) = LastsAFrame (option_map view_fixed cadence.fixed) × (1 ≤ layers) × (layers ≤ 6) × (recon_flags < 2 ^ layers)
