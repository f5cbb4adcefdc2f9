-- The shape of the WAV file of a rendition: a channel for each loudspeaker of the layout, or for each output of the scene; the
-- rate and the depth of the codec.
use Rattle.std.specs.Prelude.{ℕ, List, [], ◌∷◌, length}
use Rattle.std.specs.List.{flat_map}
use Rattle.spec_layouts.specs.Layouts.{channels}
use Rattle.spec_layouts.specs.Speakers.{mask_of}
use Rattle.spec_descriptors.specs.AudioElement.{ConfigFields, Ambisonics}
use Rattle.spec_demix.specs.Scenes.{outputs_of}
use Rattle.spec_waves.specs.Wave.{Shape}
use Rattle.spec_play.specs.declared.target.Target.{Target}
use Rattle.spec_play.specs.declared.target.Target.TheVariants as target
use Rattle.spec_play.specs.Mixes.{MixedElement, Rendition, codec_of}

-- the numbers of outputs of the ambisonics elements
abbrev pub outputs_in : ConfigFields → List ℕ
outputs_in (Ambisonics config) = outputs_of config ∷ []
outputs_in _ = []

abbrev pub output_counts : List MixedElement → List ℕ
output_counts elements = flat_map (λ (m : MixedElement). outputs_in m.element.config) elements

abbrev pub first_count : List ℕ → ℕ
first_count [] = 0
first_count (n ∷ ns) = n

abbrev pub channel_count : Target → List MixedElement → ℕ
channel_count (target.Layer layout) elements = length (channels layout)
channel_count target.Scene elements = first_count (output_counts elements)

-- the outputs of a scene are for no loudspeakers
abbrev pub mask_for : Target → ℕ
mask_for (target.Layer layout) = mask_of layout
mask_for target.Scene = 0

abbrev pub wave_shape : Rendition → Shape
wave_shape r = record {
  channels = channel_count r.target r.elements;
  mask = mask_for r.target;
  rate = (codec_of r).rate;
  depth = (codec_of r).depth;
  frames = r.kept;
}
