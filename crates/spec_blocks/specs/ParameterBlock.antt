-- IAMF 1.0.0, "Parameter Block OBU Syntax and Semantics", "Mix Gain Parameter Data", "Demixing Info Parameter Data" and
-- "Recon Gain Info Parameter Data".
use Rattle.std.specs.Prelude.{ℕ, ℤ, ◌+◌, ◌-◌, ◌/◌, ◌%◌, ◌^◌, not, List, [], ◌∷◌, map, sum, length, Option, Some, None, nat_le, nat_lt, ◌==◌, if◌then◌else◌, zero, suc}
use Rattle.spec_bits.specs.Form.{Number, Signed, Leb128, Bytes, Reserved}
use Rattle.spec_syntax.specs.Syntax.{Syntax, End, Choice, field, refuse, check, each, ◌>>=◌, ◌>>◌}
use Rattle.spec_descriptors.specs.ParameterDefinition.{FixedFields}
use Rattle.spec_descriptors.specs.MixGain.{is_zero}
use Rattle.spec_blocks.specs.declared.fault.BlockFault.{BlockFault}
use Rattle.spec_blocks.specs.declared.fault.BlockFault.TheVariants as fault
use Rattle.spec_blocks.specs.Shape.{Shape, MixGain, Demixing, ReconGain, Definition, shape_of}

-- one subblock of a mix gain
pub data GainFields : Type 0 where
  Step : (start_point_value : ℤ) → GainFields
  Linear : (start_point_value end_point_value : ℤ) → GainFields
  Bezier : (start_point_value end_point_value control_point_value : ℤ) → (control_point_relative_time : ℕ) → GainFields

-- the gains of one layer: its flags, and a gain for each that is set
pub record ReconFields : Type 0 where
  pub recon_gain_flags : ℕ
  pub recon_gain : List ℕ

-- `Gain` has the block's own timing where it has one
pub data ContentFields : Type 0 where
  Opaque : ContentFields
  Gain : Option FixedFields → List GainFields → ContentFields
  Demix : (dmixp_mode : ℕ) → ContentFields
  Recon : List ReconFields → ContentFields

pub record BlockFields : Type 0 where
  pub parameter_id : ℕ
  pub content : ContentFields

-- ---- mix gains

unfoldable pub gain_part : Syntax BlockFault GainFields
gain_part = do
  animation_type ← field Leb128 (refuse fault.Animation (λ n. nat_lt 2 n) ∷ [])
  start_point_value ← field (Signed 16) []
  Choice (animation_type == 0) (End (Step start_point_value)) (do
    end_point_value ← field (Signed 16) []
    Choice (animation_type == 1) (End (Linear start_point_value end_point_value)) (do
      control_point_value ← field (Signed 16) []
      control_point_relative_time ← field (Number 8) []
      End (Bezier start_point_value end_point_value control_point_value control_point_relative_time)))

abbrev pub gain_in : ℕ → List GainFields → Syntax BlockFault GainFields
gain_in after before = gain_part

-- how many subblocks of a constant duration last so long; the last may be shorter
abbrev pub subblocks_in : ℕ → ℕ → ℕ
subblocks_in duration constant_subblock_duration = (duration + (constant_subblock_duration - 1)) / constant_subblock_duration

-- how many subblocks a definition's timing has
abbrev pub subblocks_of : FixedFields → ℕ
subblocks_of fixed = if fixed.constant_subblock_duration == 0 then length fixed.durations else subblocks_in fixed.duration fixed.constant_subblock_duration

-- a subblock with its own duration
unfoldable pub timed_gain : Syntax BlockFault (ℕ × GainFields)
timed_gain = do
  subblock_duration ← field Leb128 (refuse fault.Subblocks is_zero ∷ [])
  gain ← gain_part
  End (subblock_duration, gain)

abbrev pub timed_gain_in : ℕ → List (ℕ × GainFields) → Syntax BlockFault (ℕ × GainFields)
timed_gain_in after before = timed_gain

abbrev pub durations_of : List (ℕ × GainFields) → List ℕ
durations_of timed = map (λ t. t.0) timed

abbrev pub gains_of : List (ℕ × GainFields) → List GainFields
gains_of timed = map (λ t. t.1) timed

-- The sum of the durations is compared after the content of the last subblock.
unfoldable pub timed_gains : ℕ → Syntax BlockFault ContentFields
timed_gains duration = do
  num_subblocks ← field Leb128 (refuse fault.Subblocks is_zero ∷ [])
  timed ← each num_subblocks timed_gain_in []
  check fault.Subblocks (not (sum (durations_of timed) == duration))
  End (Gain (Some (record { duration = duration; constant_subblock_duration = 0; durations = durations_of timed })) (gains_of timed))

unfoldable pub constant_gains : ℕ → ℕ → Syntax BlockFault ContentFields
constant_gains duration constant_subblock_duration = do
  gains ← each (subblocks_in duration constant_subblock_duration) gain_in []
  End (Gain (Some (record { duration = duration; constant_subblock_duration = constant_subblock_duration; durations = [] })) gains)

-- a block with its own timing
unfoldable pub own_gains : Syntax BlockFault ContentFields
own_gains = do
  duration ← field Leb128 (refuse fault.Subblocks is_zero ∷ [])
  constant_subblock_duration ← field Leb128 []
  Choice (constant_subblock_duration == 0) (timed_gains duration) (constant_gains duration constant_subblock_duration)

-- a block with the timing of its definition
unfoldable pub defined_gains : FixedFields → Syntax BlockFault ContentFields
defined_gains fixed = do
  gains ← each (subblocks_of fixed) gain_in []
  End (Gain None gains)

abbrev pub gains : Option FixedFields → Syntax BlockFault ContentFields
gains None = own_gains
gains (Some fixed) = defined_gains fixed

-- ---- demixing and recon gains: one subblock

unfoldable pub demixing : Syntax BlockFault ContentFields
demixing = do
  dmixp_mode ← field (Number 3) []
  field (Reserved 5) []
  End (Demix dmixp_mode)

-- bit k of the number
abbrev pub bit : ℕ → ℕ → ℕ
bit k n = n / 2 ^ k % 2

-- how many of the lowest bits are 1
abbrev pub ones_below : ℕ → ℕ → ℕ
ones_below zero n = 0
ones_below (suc k) n = ones_below k n + bit k n

unfoldable pub recon_part : Syntax BlockFault ReconFields
recon_part = do
  recon_gain_flags ← field Leb128 (refuse fault.ReconFlags (λ n. nat_le 4096 n) ∷ [])
  recon_gain ← field (Bytes (ones_below 12 recon_gain_flags)) []
  End (record { recon_gain_flags = recon_gain_flags; recon_gain = recon_gain })

abbrev pub recon_in : ℕ → List ReconFields → Syntax BlockFault ReconFields
recon_in after before = recon_part

-- for each layer whose flag is set
unfoldable pub recon_gains : ℕ → ℕ → Syntax BlockFault ContentFields
recon_gains layers recon_flags = do
  parts ← each (ones_below layers recon_flags) recon_in []
  End (Recon parts)

-- ---- the whole

-- Where no definition has the id, what follows is opaque: it is the payload's tail here.
abbrev pub content_of : Option Shape → Syntax BlockFault ContentFields
content_of None = End Opaque
content_of (Some (MixGain parameter_rate fixed)) = gains fixed
content_of (Some (Demixing parameter_rate fixed)) = demixing
content_of (Some (ReconGain parameter_rate fixed layers recon_flags)) = recon_gains layers recon_flags

unfoldable pub parameter_block : List Definition → Syntax BlockFault BlockFields
parameter_block definitions = do
  parameter_id ← field Leb128 []
  content ← content_of (shape_of definitions parameter_id)
  End (record { parameter_id = parameter_id; content = content })
