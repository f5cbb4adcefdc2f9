-- The same mix in whole units of 1/2^28: each channel, each product with a gain and the last product are rounded down.
use Rattle.std.specs.Prelude.{ℕ, ℤ, pos, ◌+ℤ◌, ◌*ℤ◌, List, [], ◌∷◌}
use Rattle.spec_gains.specs.Gains.{one}
use Rattle.spec_descriptors.specs.AudioElement.{ConfigFields, Scalable, Ambisonics, AudioElementFields}
use Rattle.spec_demix.specs.Floor.{floor_of, unit}
use Rattle.spec_demix.specs.Elements.{demix_layers_of}
use Rattle.spec_demix.specs.FixedWalk.{fixed_value}
use Rattle.spec_demix.specs.Scenes.{scene_top, scene_bottom}
use Rattle.spec_demix.specs.Rounding.{rounded, clipped}
use Rattle.spec_play.specs.declared.target.Target.{Target}
use Rattle.spec_play.specs.declared.target.Target.TheVariants as target
use Rattle.spec_play.specs.Mixes.{MixedElement, Rendition, codec_of, unit_of}
use Rattle.spec_play.specs.UsedLayers.{layers_up_to, last_of, channel_of_layout}
use Rattle.spec_play.specs.CodedSamples.{coded_samples}
use Rattle.spec_play.specs.GainsOverTime.{gain_at}
use Rattle.spec_play.specs.DemixingOverTime.{Parameters, parameters_in}
use Rattle.spec_play.specs.Exact.{Place, tick_of, coefficients_or_none}

-- times a gain in parts of 10^12
abbrev pub gained : ℤ → ℕ → ℤ
gained z gain = floor_of (z *ℤ pos gain) one

abbrev pub fixed_channel_in : Target → ConfigFields → Parameters → List ℤ → ℕ → ℤ
fixed_channel_in (target.Layer layout) (Scalable layers) parameters coded c =
    let used = layers_up_to layout layers in
    fixed_value (demix_layers_of used) (last_of used) (coefficients_or_none parameters.mode) parameters.weight coded (channel_of_layout layout c)
fixed_channel_in target.Scene (Ambisonics config) parameters coded c = floor_of (pos unit *ℤ scene_top config coded c) (scene_bottom config)
fixed_channel_in _ _ parameters coded c = pos 0

-- the channel of an element
abbrev pub fixed_channel : Rendition → Place → AudioElementFields → ℤ
fixed_channel r place element =
    fixed_channel_in r.target element.config (parameters_in r element place.unit) (coded_samples r.codec (unit_of r place.unit) element place.sample) place.channel

-- the sum over the elements
abbrev pub fixed_sum : Rendition → Place → List MixedElement → ℤ
fixed_sum r place [] = pos 0
fixed_sum r place (m ∷ ms) = gained (fixed_channel r place m.element) (gain_at r m.gain (tick_of r place)) +ℤ fixed_sum r place ms

unfoldable pub fixed_mix : Rendition → Place → ℤ
fixed_mix r place = gained (fixed_sum r place r.elements) (gain_at r r.output (tick_of r place))

-- rounded once and clipped once
abbrev pub fixed_sample : Rendition → Place → ℤ
fixed_sample r place = clipped (codec_of r).depth (rounded (fixed_mix r place))
