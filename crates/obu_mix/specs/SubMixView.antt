-- The fields that a sub-mix stands for.
use Rattle.std.specs.Prelude.{map}
use Rattle.spec_descriptors.specs.MixPresentation.{SubMixFields}
use Rattle.obu_mix.specs.declared.sub_mix.SubMix.{SubMix}
use Rattle.obu_mix_elements.specs.MixGainView.{view_mix_gain}
use Rattle.obu_mix_elements.specs.MixElementView.{view_mix_element}
use Rattle.obu_loudness.specs.LoudnessView.{view_loudness}

abbrev pub view_sub_mix : SubMix → SubMixFields
view_sub_mix s = record {
  elements = map view_mix_element s.elements.items;
  output_mix_gain = view_mix_gain s.output;
  layouts = map view_loudness s.layouts.items;
}
