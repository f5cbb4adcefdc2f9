-- The layers of a scalable element as demixing sees them: IAMF 1.0.0, "Scalable Channel Layout Config Syntax and Semantics".
use Rattle.std.specs.Prelude.{List, map, Option, Some, None}
use Rattle.spec_layouts.specs.declared.Layout.{Layout}
use Rattle.spec_gains.specs.Gains.{gain_of}
use Rattle.spec_descriptors.specs.Layers.{OutputGainFields, LayerFields}
use Rattle.spec_demix.specs.declared.DemixLayer.{DemixLayer}

-- a layer of a layout with its output gain, if it has one
abbrev pub layer_of : Layout → Option OutputGainFields → DemixLayer
layer_of layout None = record { layout = layout; flags = 0; factor = 1000000000000 }
layer_of layout (Some gain) = record { layout = layout; flags = gain.output_gain_flags; factor = gain_of gain.output_gain }

abbrev pub demix_layer_of : LayerFields → DemixLayer
demix_layer_of layer = layer_of layer.loudspeaker_layout layer.gain

abbrev pub demix_layers_of : List LayerFields → List DemixLayer
demix_layers_of layers = map demix_layer_of layers
