-- The fields that an element of a sub-mix stands for.
use Rattle.std.specs.Prelude.{map}
use Rattle.spec_descriptors.specs.MixPresentation.{MixElementFields}
use Rattle.obu_mix_elements.specs.declared.mix_element.MixElement.{MixElement}
use Rattle.obu_mix_elements.specs.MixGainView.{view_mix_gain}

abbrev pub view_mix_element : MixElement → MixElementFields
view_mix_element e = record {
  audio_element_id = e.element;
  localized_element_annotations = map (λ t. t.now) e.labels.items;
  headphones_rendering_mode = e.mode;
  rendering_config_extension = e.rendering.now;
  element_mix_gain = view_mix_gain e.gain;
}
