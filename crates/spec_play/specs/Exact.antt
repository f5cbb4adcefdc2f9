-- The exact value of a sample: the sum over the elements of the channel times the element's gain, times the output gain. All
-- values are fractions, and gains are parts of 10^12.
use Rattle.std.specs.Prelude.{ℕ, ◌+◌, ◌*◌, ◌≡◌, ℤ, pos, ◌+ℤ◌, ◌*ℤ◌, List, [], ◌∷◌, Option, Some, None}
use Rattle.spec_layouts.specs.declared.Layout.{Layout}
use Rattle.spec_gains.specs.declared.DemixMode.{DemixMode}
use Rattle.spec_gains.specs.Gains.{one}
use Rattle.spec_gains.specs.Modes.{Coefficients, coefficients_of}
use Rattle.spec_descriptors.specs.Layers.{LayerFields}
use Rattle.spec_descriptors.specs.AudioElement.{ConfigFields, Scalable, Ambisonics, AudioElementFields}
use Rattle.spec_demix.specs.Downmix.{Channels}
use Rattle.spec_demix.specs.Values.{channel_of}
use Rattle.spec_demix.specs.Elements.{demix_layers_of}
use Rattle.spec_demix.specs.Fits.{FitsOver}
use Rattle.spec_demix.specs.Scenes.{scene_top, scene_bottom}
use Rattle.spec_demix.specs.ExactWalk.{Quotient, over}
use Rattle.spec_play.specs.declared.target.Target.{Target}
use Rattle.spec_play.specs.declared.target.Target.TheVariants as target
use Rattle.spec_play.specs.Mixes.{MixedElement, Rendition, unit_length, unit_of}
use Rattle.spec_play.specs.UsedLayers.{layers_up_to, last_of, channel_of_layout}
use Rattle.spec_play.specs.CodedSamples.{coded_samples}
use Rattle.spec_play.specs.GainsOverTime.{gain_at}
use Rattle.spec_play.specs.DemixingOverTime.{Parameters, parameters_in}

-- where a sample of the WAV file comes from: sample n of a unit's frames, in a channel
pub record Place : Type 0 where
  pub unit : ℕ
  pub sample : ℕ
  pub channel : ℕ

-- counted from the start of the first unit, before trims
abbrev pub tick_of : Rendition → Place → ℕ
tick_of r place = place.unit * unit_length r + place.sample

-- ---- fractions

abbrev pub nothing : Quotient
nothing = over (pos 0) 1

abbrev pub plus : Quotient → Quotient → Quotient
plus a b = over (a.top *ℤ pos b.bottom +ℤ b.top *ℤ pos a.bottom) (a.bottom * b.bottom)

-- times a gain
abbrev pub times : Quotient → ℕ → Quotient
times a gain = over (a.top *ℤ pos gain) (a.bottom * one)

-- ---- the channel of an element

-- reserved modes have no coefficients; a mix that needs them is not played
abbrev pub coefficients_or_none : Option DemixMode → Coefficients
coefficients_or_none None = record { alpha = 0; beta = 0; gamma = 0; delta = 0 }
coefficients_or_none (Some mode) = coefficients_of mode

-- the channel of a list of channels that fits the used layers
abbrev pub IsDemixed : List LayerFields → Layout → Parameters → List ℤ → ℕ → Quotient → Type 0
IsDemixed used layout parameters coded c q =
    (x : Channels) × FitsOver (demix_layers_of used) (last_of used) (coefficients_or_none parameters.mode) parameters.weight coded q.bottom x
    × (q.top ≡ channel_of x (channel_of_layout layout c))

-- a scalable element is demixed, and an ambisonics element gives its outputs
abbrev pub IsChannelIn : Target → ConfigFields → Parameters → List ℤ → ℕ → Quotient → Type 0
IsChannelIn (target.Layer layout) (Scalable layers) parameters coded c q = IsDemixed (layers_up_to layout layers) layout parameters coded c q
IsChannelIn target.Scene (Ambisonics config) parameters coded c q = q ≡ over (scene_top config coded c) (scene_bottom config)
IsChannelIn _ _ parameters coded c q = ⊥

abbrev pub IsChannelOf : Rendition → Place → AudioElementFields → Quotient → Type 0
IsChannelOf r place element q =
    IsChannelIn r.target element.config (parameters_in r element place.unit) (coded_samples r.codec (unit_of r place.unit) element place.sample) place.channel q

-- ---- the mix

-- q is the sum over the elements
abbrev pub IsSum : Rendition → Place → List MixedElement → Quotient → Type 0
IsSum r place [] q = q ≡ nothing
IsSum r place (m ∷ ms) q =
    (part : Quotient) × (rest : Quotient) × IsChannelOf r place m.element part × IsSum r place ms rest
    × (q ≡ plus (times part (gain_at r m.gain (tick_of r place))) rest)

-- q is the exact value of a sample
pub record IsExact (r : Rendition) (place : Place) (q : Quotient) : Type 0 where
  pub total : Quotient
  pub sum_is : IsSum r place r.elements total
  pub value_is : q ≡ times total (gain_at r r.output (tick_of r place))
