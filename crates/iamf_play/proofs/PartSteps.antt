-- One element of a mix, from unit to unit and at a tick.
use Rattle.std.proofs.Common.{arith, ◌≡◌, ◌<◌, ◌≤◌, ◌+◌, ◌-◌, ◌*◌, ℕ, sym, ap, subst, ◌∙◌, length, get_or}
use Rattle.spec_descriptors.specs.AudioElement.{AudioElementFields}
use Rattle.spec_descriptors.specs.MixGain.{MixGainFields}
use Rattle.spec_rules.specs.Units.{unit_count}
use Rattle.spec_sequence.specs.Parts.{temporal_units}
use Rattle.spec_sequence.specs.Reading.{values_of, roles}
use Rattle.obu_mix_elements.specs.MixGainView.{view_mix_gain}
use Rattle.spec_play.specs.Mixes.{MixedElement, Rendition, unit_length}
use Rattle.spec_play.specs.GainsOverTime.{gain_at}
use Rattle.spec_play.specs.FixedMix.{gained, fixed_channel}
use Rattle.spec_play.proofs.GainsBounded.{gain_bounded}
use Rattle.iamf_sequence.specs.SequenceValue.{SequenceValue}
use Rattle.iamf_channels.specs.Heard.{ChannelsValue, Hears, units_in}
use Rattle.iamf_mixing.specs.Tracks.{HasGains}
use Rattle.iamf_play.specs.declared.element.PlayedElement.{PlayedElement}
use Rattle.iamf_play.specs.Gains.{IsReady}
use Rattle.iamf_play.specs.PlayedElements.{IsPart, IsBegun}
use Rattle.iamf_play.specs.Mixing.{place}
use Rattle.iamf_play.proofs.Renditions.{units_are, unit_count_is}

pub units_of : (s : SequenceValue) (r : Rendition) (m : MixedElement) (u : ℕ) (p : PlayedElement) → IsPart s r m u p → r.units ≡ temporal_units (values_of s.entries)
units_of s r m u p is = units_are (values_of s.entries) is.heard.mix r.target r is.heard.heard_is

pub unit_in : (s : SequenceValue) (r : Rendition) (m : MixedElement) (u n : ℕ) (p : PlayedElement) → IsPart s r m u p → n < length r.units → n < length (units_in p.channels.sequence)
unit_in s r m u n p is h =
    let same : length r.units ≡ length (units_in p.channels.sequence) = ap length (units_of s r m u p is) ∙ ap (λ (v : ChannelsValue). length (units_in v.sequence)) (sym is.channels) in
    subst (λ k. n < k) same h

pub unit_among : (s : SequenceValue) (r : Rendition) (m : MixedElement) (u n : ℕ) (p : PlayedElement) → IsPart s r m u p → n < length r.units → n < unit_count (roles s.entries)
unit_among s r m u n p is h = subst (λ k. n < k) (unit_count_is s.entries is.heard.mix r.target r is.heard.heard_is) h

pub begun_is : (s : SequenceValue) (r : Rendition) (m : MixedElement) (u : ℕ) (p : PlayedElement) → IsPart s r m u p → p.channels.begun ≡ u
begun_is s r m u p is = ap (λ (v : ChannelsValue). v.begun) is.channels

pub begun_part : (s : SequenceValue) (r : Rendition) (m : MixedElement) (u : ℕ) (old new : PlayedElement) → IsPart s r m u old → new.channels ≡ record old.channels { begun = u + 1 } → new.gains.gain.now ≡ old.gains.gain.now
    → IsReady r new.gains (u + 1) × HasGains r (view_mix_gain old.gains.gain.now) u new.gains.row.items → IsBegun s r m u new
begun_part s r m u old new is channels gain filled = record {
  part = record {
    heard = is.heard;
    channels = channels ∙ ap (λ (v : ChannelsValue). record v { begun = u + 1 }) is.channels;
    gain = ap view_mix_gain gain ∙ is.gain;
    ready = filled.0;
    low = is.low;
    short = is.short;
  };
  gains = subst (λ (g : MixGainFields). HasGains r g u new.gains.row.items) is.gain filled.1;
}

-- ---- at a tick

pub hears : (s : SequenceValue) (r : Rendition) (m : MixedElement) (u : ℕ) (p : PlayedElement) → IsPart s r m u p → Hears p.channels r
hears s r m u p is = subst (λ (v : ChannelsValue). Hears v r) (sym is.channels) is.heard

pub gain_here : (s : SequenceValue) (r : Rendition) (m : MixedElement) (u n : ℕ) (p : PlayedElement) → IsBegun s r m u p → n < unit_length r → get_or p.gains.row.items n 0 ≡ gain_at r m.gain (u * unit_length r + n)
gain_here s r m u n p is h = is.gains n (let long = is.part.ready.long in omega (arith, long))

pub gain_low : (s : SequenceValue) (r : Rendition) (m : MixedElement) (u n : ℕ) (p : PlayedElement) → IsBegun s r m u p → n < unit_length r → get_or p.gains.row.items n 0 ≤ 39810717055340
gain_low s r m u n p is h = subst (λ g. g ≤ 39810717055340) (sym (gain_here s r m u n p is h)) (gain_bounded r m.gain (u * unit_length r + n) is.part.low)

pub value_here : (s : SequenceValue) (r : Rendition) (m : MixedElement) (u n c gain : ℕ) (p : PlayedElement) → IsBegun s r m u p → n < unit_length r → gain ≡ get_or p.gains.row.items n 0
    → gained (fixed_channel r (place (p.channels.begun - 1) n c) p.channels.element) gain ≡ gained (fixed_channel r (place u n c) m.element) (gain_at r m.gain (u * unit_length r + n))
value_here s r m u n c gain p is h gain_is =
    let begun = begun_is s r m (u + 1) p is.part in
    let unit_is : p.channels.begun - 1 ≡ u = omega (arith, begun) in
    let element_is = ap (λ (v : ChannelsValue). v.element) is.part.channels in
    ap (λ (v : ℕ). gained (fixed_channel r (place v n c) p.channels.element) gain) unit_is
    ∙ ap (λ (e : AudioElementFields). gained (fixed_channel r (place u n c) e) gain) element_is
    ∙ ap (λ (g : ℕ). gained (fixed_channel r (place u n c) m.element) g) (gain_is ∙ gain_here s r m u n p is h)
