-- A substream has one channel or two.
use Rattle.std.proofs.Common.{arith, ◌≡◌, ◌<◌, ◌≤◌, ◌-◌, ℕ, false, zero, suc, List, [], ◌∷◌, Option, Some, None, length, get_or, slice_get, refl, subst}
use Rattle.std.specs.Prelude.{sum, replicate, option_and_then, option_map, unwrap_or, IsSome}
use Rattle.spec_descriptors.specs.Layers.{LayerFields}
use Rattle.spec_descriptors.specs.Ambisonics.{Mono, Projection}
use Rattle.spec_descriptors.specs.AudioElement.{ConfigFields, Scalable, Ambisonics, Other, AudioElementFields, audio_element, coupled_first, layer_channels, substream_channels_of, coded_channels_of}
use Rattle.spec_syntax.specs.Payload.{IsValid}
use Rattle.spec_descriptors.specs.ElementFields.{audio_element_fields}
use Rattle.spec_descriptors.proofs.ElementCounts.{valid_counts, channels_fit}
use Rattle.iamf_channels.specs.Needed.{stream_channels}
use Rattle.std.proofs.lemmas.Option.{slice_get-get_or, get_or_from_slice_get}
use Rattle.spec_play.specs.Selection.{is_unknown}
use Rattle.spec_play.proofs.Tests.{Each, each_both}

abbrev AreFew : List ℕ → Type 0
AreFew ns = Each (λ n. n ≤ 2) ns

same_few : (k n : ℕ) → n ≤ 2 → AreFew (replicate k n)
same_few zero n h = tt
same_few (suc k) n h = (h, same_few k n h)

coupled_few : (substreams coupled : ℕ) → AreFew (coupled_first substreams coupled)
coupled_few substreams coupled = each_both (λ n. n ≤ 2) (replicate coupled 2) (replicate (substreams - coupled) 1) (same_few coupled 2 (omega arith)) (same_few (substreams - coupled) 1 (omega arith))

layers_few : (layers : List LayerFields) → AreFew (layer_channels layers)
layers_few [] = tt
layers_few (layer ∷ layers) = each_both (λ n. n ≤ 2) (coupled_first layer.substream_count layer.coupled_substream_count) (layer_channels layers) (coupled_few layer.substream_count layer.coupled_substream_count) (layers_few layers)

few_of : (config : ConfigFields) (channels : List ℕ) → substream_channels_of config ≡ Some channels → AreFew channels
few_of (Scalable layers) channels e = let same : layer_channels layers ≡ channels = cc in subst AreFew same (layers_few layers)
few_of (Ambisonics (Mono outputs substreams mapping)) channels e = let same : coupled_first substreams 0 ≡ channels = cc in subst AreFew same (coupled_few substreams 0)
few_of (Ambisonics (Projection outputs substreams coupled matrix)) channels e = let same : coupled_first substreams coupled ≡ channels = cc in subst AreFew same (coupled_few substreams coupled)
few_of (Other kind bytes) channels e = absurd (cc)

few_at : (ns : List ℕ) (i n : ℕ) → AreFew ns → slice_get ns i ≡ Some n → n ≤ 2
few_at [] i n all e = absurd (cc)
few_at (m ∷ ns) zero n all e = let same : m ≡ n = cc in subst (λ (k : ℕ). k ≤ 2) same all.0
few_at (m ∷ ns) (suc i) n all e = few_at ns i n all.1 e

by_option : (o : Option (List ℕ)) (i n : ℕ) → ((channels : List ℕ) → o ≡ Some channels → AreFew channels) → option_and_then (λ channels. slice_get channels i) o ≡ Some n → n ≤ 2
by_option None i n few e = absurd (cc)
by_option (Some channels) i n few e = few_at channels i n (few channels refl) e

pub few_channels : (config : ConfigFields) (i n : ℕ) → option_and_then (λ channels. slice_get channels i) (substream_channels_of config) ≡ Some n → n ≤ 2
few_channels config i n e = by_option (substream_channels_of config) i n (few_of config) e

-- ---- all substreams

pub known_list : (o : Option (List ℕ)) → IsSome o → o ≡ Some (unwrap_or o [])
known_list None h = absurd (cc)
known_list (Some channels) h = refl

pub none_there : (o : Option (List ℕ)) (i : ℕ) → IsSome o → i < length (unwrap_or o []) → option_and_then (λ channels. slice_get channels i) o ≡ None → ⊥
none_there None i h below e = absurd (cc)
none_there (Some channels) i h below e = let there = slice_get-get_or channels i 0 below in cc

pub some_there : (o : Option (List ℕ)) (i n : ℕ) → option_and_then (λ channels. slice_get channels i) o ≡ Some n → get_or (unwrap_or o []) i 0 ≡ n
some_there None i n e = absurd (cc)
some_there (Some channels) i n e = get_or_from_slice_get channels i n 0 e

pub list_count : (frame_length : ℕ) (element : AudioElementFields) → IsValid (audio_element frame_length) audio_element_fields element → IsSome (substream_channels_of element.config)
    → length (unwrap_or (substream_channels_of element.config) []) ≡ length element.audio_substream_ids
list_count frame_length element valid known =
    channels_fit (length element.audio_substream_ids) element.config (unwrap_or (substream_channels_of element.config) []) (valid_counts frame_length element valid) (known_list (substream_channels_of element.config) known)

pub is_known : (config : ConfigFields) → is_unknown config ≡ false → IsSome (substream_channels_of config)
is_known (Scalable layers) e = refl
is_known (Ambisonics (Mono outputs substreams mapping)) e = refl
is_known (Ambisonics (Projection outputs substreams coupled matrix)) e = refl
is_known (Other kind bytes) e = absurd (cc)

-- all channels of the substreams are the coded channels
pub total_is : (config : ConfigFields) → unwrap_or (coded_channels_of config) 0 ≡ sum (stream_channels config)
total_is config = elim (substream_channels_of config) as (λ o. unwrap_or (option_map (λ (cs : List ℕ). sum cs) o) 0 ≡ sum (unwrap_or o [])) [ Some cs ↦ refl | None ↦ refl ]
