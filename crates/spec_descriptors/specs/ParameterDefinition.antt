-- IAMF 1.0.0, "Parameter Definition Syntax and Semantics".
use Rattle.std.specs.Prelude.{ℕ, not, List, [], ◌∷◌, Option, Some, ◌==◌}
use Rattle.spec_bits.specs.Form.{Number, Leb128, Reserved}
use Rattle.spec_syntax.specs.Syntax.{Syntax, End, Choice, field, refuse, each, ◌>>=◌, ◌>>◌}
use Rattle.spec_descriptors.specs.declared.fault.DescriptorFault.{DescriptorFault}
use Rattle.spec_descriptors.specs.declared.fault.DescriptorFault.TheVariants as fault

-- `durations` are those of the subblocks where `constant_subblock_duration` is 0, and else none
pub record FixedFields : Type 0 where
  pub duration : ℕ
  pub constant_subblock_duration : ℕ
  pub durations : List ℕ

-- `fixed` is there where `param_definition_mode` is 0
pub record DefinitionFields : Type 0 where
  pub parameter_id : ℕ
  pub parameter_rate : ℕ
  pub fixed : Option FixedFields

-- The definitions of demixing and of recon gains, whose blocks last a frame each. `frame_length` is that of the codec
-- config before the element, or 0 where there is none.

abbrev pub any_duration : ℕ → List ℕ → Syntax DescriptorFault ℕ
any_duration after before = field Leb128 []

unfoldable pub frame_timing : ℕ → Syntax DescriptorFault FixedFields
frame_timing frame_length = do
  duration ← field Leb128 (refuse fault.ParamShape (λ n. not (n == frame_length)) ∷ [])
  constant_subblock_duration ← field Leb128 (refuse fault.ParamShape (λ n. not (n == frame_length)) ∷ [])
  durations ← Choice (constant_subblock_duration == 0) (do
    num_subblocks ← field Leb128 []
    each num_subblocks any_duration [])
      (End [])
  End (record { duration = duration; constant_subblock_duration = constant_subblock_duration; durations = durations })

unfoldable pub frame_definition : ℕ → Syntax DescriptorFault DefinitionFields
frame_definition frame_length = do
  parameter_id ← field Leb128 []
  parameter_rate ← field Leb128 []
  _ ← field (Number 1) (refuse fault.ParamShape (λ param_definition_mode. param_definition_mode == 1) ∷ [])
  field (Reserved 7) []
  fixed ← frame_timing frame_length
  End (record { parameter_id = parameter_id; parameter_rate = parameter_rate; fixed = Some fixed })
