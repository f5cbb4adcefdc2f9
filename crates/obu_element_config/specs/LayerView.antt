-- The fields that a layer stands for.
use Rattle.std.specs.Prelude.{option_map}
use Rattle.spec_descriptors.specs.Layers.{OutputGainFields, LayerFields}
use Rattle.obu_element_config.specs.declared.layer.OutputGain.{OutputGain}
use Rattle.obu_element_config.specs.declared.layer.Layer.{Layer}

abbrev pub view_gain : OutputGain → OutputGainFields
view_gain gain = record { output_gain_flags = gain.flags; output_gain = gain.gain }

abbrev pub view_layer : Layer → LayerFields
view_layer layer = record {
  loudspeaker_layout = layer.layout;
  gain = option_map view_gain layer.gain;
  recon_gain_is_present = layer.recon;
  substream_count = layer.substreams;
  coupled_substream_count = layer.coupled;
}
