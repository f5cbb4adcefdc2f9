-- Which layers of a scalable element are played, and when the demixing parameters matter (IAMF 1.0.0, "Scalable Channel Layout
-- Config Syntax and Semantics" and "Demixing Info Parameter Data").
use Rattle.std.specs.Prelude.{ℕ, ◌-◌, ◌==◌, Bool, false, ◌||◌, List, [], ◌∷◌, length, if◌then◌else◌, slice_index_or}
use Rattle.spec_layouts.specs.declared.Layout.{Layout}
use Rattle.spec_layouts.specs.declared.Channel.{Channel}
use Rattle.spec_layouts.specs.declared.Channel.TheVariants as channel
use Rattle.spec_layouts.specs.Layouts.{code_of, channels}
use Rattle.spec_descriptors.specs.Layers.{LayerFields}
use Rattle.spec_descriptors.specs.AudioElement.{ConfigFields, Scalable}
use Rattle.spec_demix.specs.Kinds.{kind_of, reaches, splits_two}
use Rattle.spec_play.specs.declared.target.Target.{Target}
use Rattle.spec_play.specs.declared.target.Target.TheVariants as target

abbrev pub is_of : Layout → LayerFields → Bool
is_of layout layer = code_of layer.loudspeaker_layout == code_of layout

-- the layers up to that of a layout; each layer of an element has another layout
abbrev pub layers_up_to : Layout → List LayerFields → List LayerFields
layers_up_to layout [] = []
layers_up_to layout (layer ∷ layers) = layer ∷ (if is_of layout layer then [] else layers_up_to layout layers)

abbrev pub used_layers : Target → ConfigFields → List LayerFields
used_layers (target.Layer layout) (Scalable layers) = layers_up_to layout layers
used_layers _ _ = []

-- the last of the used layers, from 0
abbrev pub last_of : {A : Type 0} → List A → ℕ
last_of layers = length layers - 1

-- Channels of the higher layout come from those of the lower one by the demixing parameters: the surrounds of 5.1 from three
-- front channels or fewer, the rear ones of 7.1 from 5.1, and the back ones of four height channels from two.
abbrev pub is_mixed_down : Layout → Layout → Bool
is_mixed_down before now =
    reaches 5 (kind_of before).surround (kind_of now).surround
    || (reaches 7 (kind_of before).surround (kind_of now).surround || splits_two (kind_of before) (kind_of now))

abbrev pub need_parameters : List LayerFields → Bool
need_parameters [] = false
need_parameters (layer ∷ []) = false
need_parameters (before ∷ now ∷ layers) = is_mixed_down before.loudspeaker_layout now.loudspeaker_layout || need_parameters (now ∷ layers)

-- channel c of a layout, in the order of a WAV file
abbrev pub channel_of_layout : Layout → ℕ → Channel
channel_of_layout layout c = slice_index_or (channels layout) c channel.M
