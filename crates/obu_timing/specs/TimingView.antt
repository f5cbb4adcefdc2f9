-- The fields that a timing stands for.
use Rattle.std.specs.Prelude.{option_map}
use Rattle.spec_descriptors.specs.ParameterDefinition.{FixedFields, DefinitionFields}
use Rattle.obu_timing.specs.declared.timing.Fixed.{Fixed}
use Rattle.obu_timing.specs.declared.timing.Timing.{Timing}

abbrev pub view_fixed : Fixed → FixedFields
view_fixed fixed = record {
  duration = fixed.duration;
  constant_subblock_duration = fixed.constant;
  durations = fixed.durations.items;
}

abbrev pub view_timing : Timing → DefinitionFields
view_timing timing = record {
  parameter_id = timing.id;
  parameter_rate = timing.rate;
  fixed = option_map view_fixed timing.fixed;
}
