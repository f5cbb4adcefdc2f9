-- The fields that an audio element stands for.
use Rattle.std.specs.Prelude.{length, map}
use Rattle.spec_descriptors.specs.AudioElement.{FrontFields, AudioElementFields}
use Rattle.obu_descriptors.specs.declared.audio_element.AudioElement.{AudioElement}
use Rattle.obu_descriptors.specs.declared.audio_element.Front.{Front}
use Rattle.obu_descriptors.specs.ParameterView.{view_param}
use Rattle.obu_element_config.specs.ConfigView.{view_config}

abbrev pub view_front : Front → FrontFields
view_front front = record {
  audio_element_id = front.id;
  audio_element_type = front.kind;
  codec_config_id = front.codec;
  audio_substream_ids = front.substreams.items;
}

abbrev pub view_element : AudioElement → AudioElementFields
view_element element = record {
  audio_element_id = element.id;
  codec_config_id = element.codec;
  audio_substream_ids = element.substreams.items;
  parameters = map view_param element.params.items;
  config = view_config (length element.substreams.items) element.config;
}
