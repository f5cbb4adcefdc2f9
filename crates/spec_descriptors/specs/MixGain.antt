-- IAMF 1.0.0, "Parameter Definition Syntax and Semantics" and "Mix Gain Parameter Definition".
use Rattle.std.specs.Prelude.{ℕ, ℤ, Bool, not, List, [], ◌∷◌, Option, Some, None, ◌==◌, sum}
use Rattle.spec_bits.specs.Form.{Number, Signed, Leb128, Reserved}
use Rattle.spec_syntax.specs.Syntax.{Syntax, End, Choice, field, refuse, check, each, ◌>>=◌, ◌>>◌}
use Rattle.spec_descriptors.specs.declared.fault.MixFault.{MixFault}
use Rattle.spec_descriptors.specs.declared.fault.MixFault.TheVariants as fault
use Rattle.spec_descriptors.specs.ParameterDefinition.{FixedFields, DefinitionFields}

abbrev pub is_zero : ℕ → Bool
is_zero n = n == 0

-- a duration that is not 0
abbrev pub some_duration : ℕ → List ℕ → Syntax MixFault ℕ
some_duration after before = field Leb128 (refuse fault.ParamShape is_zero ∷ [])

-- durations that are not 0 and add up to the whole
unfoldable pub durations_of : ℕ → ℕ → Syntax MixFault (List ℕ)
durations_of num_subblocks whole = do
  durations ← each num_subblocks some_duration []
  check fault.ParamShape (not (sum durations == whole))
  End durations

-- the timing of blocks that do not have their own
unfoldable pub own_timing : Syntax MixFault FixedFields
own_timing = do
  duration ← field Leb128 (refuse fault.ParamShape is_zero ∷ [])
  constant_subblock_duration ← field Leb128 []
  durations ← Choice (constant_subblock_duration == 0) (do
    num_subblocks ← field Leb128 (refuse fault.ParamShape is_zero ∷ [])
    durations_of num_subblocks duration)
      (End [])
  End (record { duration = duration; constant_subblock_duration = constant_subblock_duration; durations = durations })

abbrev pub maybe_fixed : Bool → Syntax MixFault FixedFields → Syntax MixFault (Option FixedFields)
maybe_fixed there fixed = Choice there (fixed >>= λ f. End (Some f)) (End None)

unfoldable pub gain_definition : Syntax MixFault DefinitionFields
gain_definition = do
  parameter_id ← field Leb128 []
  parameter_rate ← field Leb128 []
  param_definition_mode ← field (Number 1) []
  field (Reserved 7) []
  fixed ← maybe_fixed (param_definition_mode == 0) (own_timing)
  End (record { parameter_id = parameter_id; parameter_rate = parameter_rate; fixed = fixed })

pub record MixGainFields : Type 0 where
  pub definition : DefinitionFields
  pub default_mix_gain : ℤ

unfoldable pub mix_gain : Syntax MixFault MixGainFields
mix_gain = do
  definition ← gain_definition
  default_mix_gain ← field (Signed 16) []
  End (record { definition = definition; default_mix_gain = default_mix_gain })
