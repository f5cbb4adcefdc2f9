-- The fields of mix presentations fill whole bytes.
use Rattle.std.proofs.Common.{ℕ, [], refl}
use Rattle.spec_syntax.specs.Syntax.{each}
use Rattle.spec_descriptors.specs.MixGain.{some_duration, durations_of, own_timing, maybe_fixed, gain_definition, mix_gain}
use Rattle.spec_descriptors.specs.MixPresentation.{text_in, texts, mix_element, mix_element_in, loudness_layout, anchor, anchor_in, anchored_loudness, info_type_extension, maybe_true_peak, maybe_anchors, maybe_extension, loudness, loudness_in, sub_mix, sub_mix_in, mix_presentation}
use Rattle.std.specs.Prelude.{◌==◌}
use Rattle.spec_values.proofs.WholeBytes.{FillsBytes, fills_at, fills_bind, fills_each}

-- ---- mix gains

durations_fills : (count whole : ℕ) → FillsBytes 0 (durations_of count whole)
unfolding durations_of
durations_fills count whole = fills_bind 0 (each count some_duration []) _ refl (fills_each some_duration (λ m before v. refl) count []) (λ durations. refl)

timing_fills : FillsBytes 0 own_timing
unfolding own_timing
timing_fills = λ duration constant. (λ count. fills_bind 0 (durations_of count duration) _ refl (durations_fills count duration) (λ durations. refl), refl)

definition_fills : FillsBytes 0 gain_definition
unfolding gain_definition
definition_fills = λ id rate mode reserved. fills_bind 8 (maybe_fixed (mode == 0) own_timing) _ refl (fills_bind 0 own_timing _ refl timing_fills (λ fixed. refl), refl) (λ fixed. refl)

mix_gain_fills : FillsBytes 0 mix_gain
unfolding mix_gain
mix_gain_fills = fills_bind 0 gain_definition _ refl definition_fills (λ definition level. refl)

-- ---- elements

texts_fills : (labels : ℕ) → FillsBytes 0 (texts labels)
unfolding texts
texts_fills labels = fills_each text_in (λ m before v. refl) labels []

mix_element_fills : (labels : ℕ) → FillsBytes 0 (mix_element labels)
unfolding mix_element
mix_element_fills labels = λ id. fills_bind 0 (texts labels) _ refl (texts_fills labels) (λ names mode reserved size bytes. fills_bind 8 mix_gain _ refl mix_gain_fills (λ gain. refl))

-- ---- loudness

layout_fills : FillsBytes 0 loudness_layout
unfolding loudness_layout
layout_fills = λ kind. (λ system reserved. refl, λ reserved. refl)

true_peak_fills : (info : ℕ) → FillsBytes 0 (maybe_true_peak info)
unfolding maybe_true_peak
true_peak_fills info = (λ peak. refl, refl)

anchors_fills : (info : ℕ) → FillsBytes 0 (maybe_anchors info)
unfolding maybe_anchors anchored_loudness anchor
anchors_fills info = (λ count. fills_at 0 8 (each count anchor_in []) refl (fills_each anchor_in (λ m before kind level. refl) count []), refl)

extension_fills : (info : ℕ) → FillsBytes 0 (maybe_extension info)
unfolding maybe_extension info_type_extension
extension_fills info = (λ size bytes. refl, refl)

loudness_fills : FillsBytes 0 loudness
unfolding loudness
loudness_fills =
    fills_bind 0 loudness_layout _ refl layout_fills (λ system info level peak.
    fills_bind 40 (maybe_true_peak info) _ refl (true_peak_fills info) (λ true_peak.
    fills_bind 0 (maybe_anchors info) _ refl (anchors_fills info) (λ anchors.
    fills_bind 0 (maybe_extension info) _ refl (extension_fills info) (λ bytes. refl))))

-- ---- the whole

sub_mix_fills : (labels : ℕ) → FillsBytes 0 (sub_mix labels)
unfolding sub_mix
sub_mix_fills labels = λ count.
    fills_bind 0 (each count (mix_element_in labels) []) _ refl (fills_each (mix_element_in labels) (λ m before. mix_element_fills labels) count []) (λ elements.
    fills_bind 0 mix_gain _ refl mix_gain_fills (λ output layout_count.
    fills_bind 0 (each layout_count loudness_in []) _ refl (fills_each loudness_in (λ m before. loudness_fills) layout_count []) (λ layouts. refl)))

pub mix_presentation_fills : FillsBytes 0 mix_presentation
unfolding mix_presentation
mix_presentation_fills = λ id labels.
    fills_bind 0 (texts labels) _ refl (texts_fills labels) (λ languages.
    fills_bind 0 (texts labels) _ refl (texts_fills labels) (λ names count.
    fills_bind 0 (each count (sub_mix_in labels) []) _ refl (fills_each (sub_mix_in labels) (λ m before. sub_mix_fills labels) count []) (λ sub_mixes. refl)))
