-- The fields that a parameter definition stands for, which elements and mix gains have alike.
use Rattle.std.specs.Prelude.{ℕ, Bool, List, [], ◌∷◌, Option, Some, None, length, ◌==◌, if◌then◌else◌}
use Rattle.spec_bits.specs.Form.{Number, Leb128, Reserved}
use Rattle.spec_syntax.specs.Payload.{FieldValue, a_field}
use Rattle.spec_syntax.specs.Repetition.{joined}
use Rattle.spec_descriptors.specs.ParameterDefinition.{FixedFields, DefinitionFields}

abbrev pub leb_fields : ℕ → List FieldValue
leb_fields n = a_field Leb128 n ∷ []

abbrev pub duration_fields : Bool → List ℕ → List FieldValue
duration_fields are_there durations = if are_there then a_field Leb128 (length durations) ∷ joined leb_fields durations else []

abbrev pub fixed_fields : FixedFields → List FieldValue
fixed_fields f =
    a_field Leb128 f.duration ∷ a_field Leb128 f.constant_subblock_duration ∷ duration_fields (f.constant_subblock_duration == 0) f.durations

-- from `param_definition_mode` on
abbrev pub mode_fields : Option FixedFields → List FieldValue
mode_fields None = a_field (Number 1) 1 ∷ a_field (Reserved 7) tt ∷ []
mode_fields (Some fixed) = a_field (Number 1) 0 ∷ a_field (Reserved 7) tt ∷ fixed_fields fixed

abbrev pub definition_fields : DefinitionFields → List FieldValue
definition_fields d = a_field Leb128 d.parameter_id ∷ a_field Leb128 d.parameter_rate ∷ mode_fields d.fixed
