-- Which mixes are not played for a target, and why. The rules, their order and their numbers are this project's own; each is
-- tested over all elements, layers and units before the next.
use Rattle.std.specs.Prelude.{ℕ, ◌^◌, ◌==◌, nat_lt, nat_le, Bool, true, false, not, ◌&&◌, ◌||◌, if◌then◌else◌, ℤ, pos, negsuc, List, [], ◌∷◌, length, sum_by, drop, Option, Some, None, is_none, unwrap_or}
use Rattle.std.specs.List.{list_any}
use Rattle.spec_gains.specs.Modes.{mode_of}
use Rattle.spec_descriptors.specs.Layers.{OutputGainFields, LayerFields}
use Rattle.spec_descriptors.specs.AudioElement.{ConfigFields, Scalable, Ambisonics, Other, AudioElementFields, coded_channels_of}
use Rattle.spec_descriptors.specs.MixGain.{MixGainFields}
use Rattle.spec_descriptors.specs.MixPresentation.{SubMixFields, MixPresentationFields}
use Rattle.spec_blocks.specs.ParameterBlock.{GainFields, Step, Linear, Bezier, ContentFields, Gain}
use Rattle.spec_values.specs.Value.{ObuValue}
use Rattle.spec_rules.specs.Units.{is_none_of}
use Rattle.spec_sequence.specs.Parts.{BlockValue, UnitValue}
use Rattle.spec_waves.specs.Wave.{riff_size}
use Rattle.spec_play.specs.declared.target.Target.{Target}
use Rattle.spec_play.specs.declared.target.Target.TheVariants as target
use Rattle.spec_play.specs.declared.fault.PlayFault.{PlayFault}
use Rattle.spec_play.specs.declared.fault.PlayFault.TheVariants.{NoMix, MixShape, NoLayer, SceneTarget, UnknownElement, Recon, NoDemix, DemixReserved, ParamRate, WavTooLong, GainRange}
use Rattle.spec_play.specs.declared.fault.PlayFault.TheVariants as fault
use Rattle.spec_play.specs.Mixes.{MixedElement, Rendition, rendition, mix_of, codec_of, mix_gains}
use Rattle.spec_play.specs.UsedLayers.{is_of, used_layers, need_parameters}
use Rattle.spec_play.specs.DemixingOverTime.{DemixingDefinition, demixing_of, unit_modes}
use Rattle.spec_play.specs.Waves.{output_counts, wave_shape}

abbrev pub when : Bool → PlayFault → Option PlayFault
when test fault = if test then Some fault else None

-- the first fault of a table
abbrev pub first_of : List (Option PlayFault) → Option PlayFault
first_of [] = None
first_of (None ∷ rows) = first_of rows
first_of (Some fault ∷ rows) = Some fault

abbrev pub some_element : (AudioElementFields → Bool) → Rendition → Bool
some_element test r = list_any (λ m. test m.element) r.elements

-- ---- the mix

-- of an element whose channels are not known there are none
abbrev pub coded_channels : List MixedElement → ℕ
coded_channels elements = sum_by (λ m. unwrap_or (coded_channels_of m.element.config) 0) elements

-- no element, more than 28, or more than 28 coded channels; one that is named twice counts twice
abbrev pub has_other_shape : Rendition → Bool
has_other_shape r = is_none_of r.elements || (nat_lt 28 (length r.elements) || nat_lt 28 (coded_channels r.elements))

-- ---- the target

abbrev pub lacks_layer : Target → ConfigFields → Bool
lacks_layer (target.Layer layout) (Scalable layers) = not (list_any (is_of layout) layers)
lacks_layer _ _ = false

abbrev pub is_for_other : Target → ConfigFields → Bool
is_for_other (target.Layer layout) (Ambisonics config) = true
is_for_other target.Scene (Scalable layers) = true
is_for_other _ _ = false

-- two of the numbers differ
abbrev pub are_different : List ℕ → Bool
are_different [] = false
are_different (n ∷ ns) = list_any (λ m. not (m == n)) ns

abbrev pub is_unknown : ConfigFields → Bool
is_unknown (Other audio_element_type bytes) = true
is_unknown _ = false

-- ---- layers and demixing

-- a first layer is played as it is coded
abbrev pub has_recon : List LayerFields → Bool
has_recon layers = list_any (λ layer. layer.recon_gain_is_present) (drop 1 layers)

abbrev pub needs_parameters : Target → AudioElementFields → Bool
needs_parameters target element = need_parameters (used_layers target element.config)

abbrev pub is_reserved : ℕ → Bool
is_reserved mode = is_none (mode_of mode)

-- a unit uses the modes of its blocks, or the default where it has none
abbrev pub uses_reserved : DemixingDefinition → List ℕ → Bool
uses_reserved definition [] = is_reserved definition.mode
uses_reserved definition (mode ∷ modes) = is_reserved mode

abbrev pub has_reserved : List UnitValue → DemixingDefinition → Bool
has_reserved units definition = list_any (λ unit. uses_reserved definition (unit_modes definition.id unit)) units

-- ---- mix gains

-- the parts of all blocks of a mix gain
abbrev pub parts_in : ContentFields → List GainFields
parts_in (Gain timing gains) = gains
parts_in _ = []

abbrev pub has_id : MixGainFields → BlockValue → Bool
has_id gain block = block.fields.parameter_id == gain.definition.parameter_id

abbrev pub some_block : (BlockValue → Bool) → List UnitValue → Bool
some_block test units = list_any (λ unit. list_any test unit.blocks) units

-- some part of some block of the mix gain
abbrev pub some_part : (GainFields → Bool) → Rendition → MixGainFields → Bool
some_part test r gain = some_block (λ block. has_id gain block && list_any test (parts_in block.fields.content)) r.units

abbrev pub has_other_rate : Rendition → MixGainFields → Bool
has_other_rate r gain = not (gain.definition.parameter_rate == (codec_of r).rate) && some_block (has_id gain) r.units

abbrev pub is_bezier : GainFields → Bool
is_bezier (Bezier start end control time) = true
is_bezier _ = false

-- above 32 dB
abbrev pub is_above : ℤ → Bool
is_above (pos n) = nat_lt 8192 n
is_above (negsuc n) = false

-- the value at the start or at the end of a part
abbrev pub goes_above : GainFields → Bool
goes_above (Step start) = is_above start
goes_above (Linear start end) = is_above start || is_above end
goes_above (Bezier start end control time) = is_above start || is_above end

abbrev pub is_gain_above : Rendition → MixGainFields → Bool
is_gain_above r gain = is_above gain.default_mix_gain || some_part goes_above r gain

-- an output gain counts whatever its flags are
abbrev pub is_output_gain_above : Option OutputGainFields → Bool
is_output_gain_above None = false
is_output_gain_above (Some gain) = is_above gain.output_gain

abbrev pub has_layer_above : Target → AudioElementFields → Bool
has_layer_above target element = list_any (λ layer. is_output_gain_above layer.gain) (used_layers target element.config)

abbrev pub some_gain : (MixGainFields → Bool) → Rendition → Bool
some_gain test r = list_any test (mix_gains r)

-- ---- the table

abbrev pub tests : Rendition → List (Option PlayFault)
tests r =
    when (has_other_shape r) MixShape
    ∷ when (some_element (λ e. lacks_layer r.target e.config) r) NoLayer
    ∷ when (some_element (λ e. is_for_other r.target e.config) r || are_different (output_counts r.elements)) SceneTarget
    ∷ when (some_element (λ e. is_unknown e.config) r) UnknownElement
    ∷ when (some_element (λ e. has_recon (used_layers r.target e.config)) r) Recon
    ∷ when (some_element (λ e. needs_parameters r.target e && is_none_of (demixing_of e)) r) NoDemix
    ∷ when (some_element (λ e. needs_parameters r.target e && list_any (has_reserved r.units) (demixing_of e)) r) DemixReserved
    ∷ when (some_gain (has_other_rate r) r) ParamRate
    ∷ when (some_gain (some_part is_bezier r) r) fault.Bezier
    ∷ when (some_gain (is_gain_above r) r || some_element (has_layer_above r.target) r) GainRange
    ∷ when (nat_le (2 ^ 32) (riff_size (wave_shape r))) WavTooLong
    ∷ []

-- the first fault of a rendition
unfoldable pub rendition_fault : Rendition → Option PlayFault
rendition_fault r = first_of (tests r)

-- a mix has exactly one sub-mix
abbrev pub sub_mixes_fault : List ObuValue → Target → List SubMixFields → Option PlayFault
sub_mixes_fault s target (sub_mix ∷ []) = rendition_fault (rendition s target sub_mix)
sub_mixes_fault s target _ = Some MixShape

abbrev pub mix_fault : List ObuValue → Target → Option MixPresentationFields → Option PlayFault
mix_fault s target None = Some NoMix
mix_fault s target (Some m) = sub_mixes_fault s target m.sub_mixes

-- why the mix is not played for the target, if it is not
unfoldable pub play_fault : List ObuValue → ℕ → Target → Option PlayFault
play_fault s mix target = mix_fault s target (mix_of s mix)
