-- The layers up to one transmit as many channels as its layout has, so all layers transmit no fewer.
use Rattle.std.proofs.Common.{arith, ◌≡◌, ◌≤◌, ◌+◌, ◌*◌, ℕ, refl, ap, subst, Bool, true, false, ◌||◌, List, [], ◌∷◌, length, Option, Some, None}
use Rattle.std.specs.Prelude.{sum, sum_by}
use Rattle.std.specs.List.{list_any}
use Rattle.spec_syntax.specs.Payload.{IsValid, canon}
use Rattle.spec_layouts.specs.declared.Layout.{Layout}
use Rattle.spec_layouts.specs.Layouts.{channels}
use Rattle.spec_layouts.specs.Steps.{IsAllowed}
use Rattle.spec_layouts.specs.Transmitted.{pairs_of, singles_of}
use Rattle.spec_layouts.proofs.Counts.{first_count, next_count}
use Rattle.spec_descriptors.specs.Layers.{LayerFields}
use Rattle.spec_descriptors.specs.AudioElement.{ConfigFields, Scalable, AudioElementFields, audio_element, layer_channels}
use Rattle.spec_descriptors.specs.ElementFields.{audio_element_fields}
use Rattle.spec_descriptors.proofs.ElementCounts.{CountsHold, valid_counts, both_counts, sum-layer_channels, sum_by-first}
use Rattle.spec_descriptors.proofs.ReadLayers.{IsLayer, AreLayers, layers_read}
use Rattle.spec_descriptors.proofs.ElementConfigs.{OfKinds, element_holds}

-- channels of the layout below
abbrev below : Option Layout → ℕ
below None = 0
below (Some before) = length (channels before)

-- with those of the layer below, a layer transmits as many channels as its layout has
abbrev IsCounted : Option Layout → LayerFields → Type 0
IsCounted before layer = both_counts layer + below before ≡ length (channels layer.loudspeaker_layout)

abbrev pub AreCounted : Option Layout → List LayerFields → Type 0
AreCounted before [] = Unit {0}
AreCounted before (layer ∷ layers) = IsCounted before layer × AreCounted (Some layer.loudspeaker_layout) layers

-- ---- one layer

all_counted : (before : Option Layout) (now : Layout) → IsAllowed before now → 2 * length (pairs_of before now) + length (singles_of before now) + below before ≡ length (channels now)
all_counted None now allowed = let e = first_count now in omega arith
all_counted (Some before) now allowed = next_count before now allowed

layer_counted : (before : Option Layout) (layer : LayerFields) → IsLayer before layer → IsCounted before layer
layer_counted before layer is = omega (arith, is.substreams, is.coupled, all_counted before layer.loudspeaker_layout is.allowed)

layers_counted : (before : Option Layout) (layers : List LayerFields) → AreLayers before layers → AreCounted before layers
layers_counted before [] all = tt
layers_counted before (layer ∷ layers) all = (layer_counted before layer all.0, layers_counted (Some layer.loudspeaker_layout) layers all.1)

-- ---- all layers

abbrev HasCounted : ℕ → ConfigFields → Type 0
HasCounted count (Scalable layers) = AreCounted None layers
HasCounted count _ = Unit {0}

counted_kinds : OfKinds HasCounted
counted_kinds = record {
  scalable = λ count xs list h is. layers_counted None list (layers_read xs list h);
  scene = λ count xs config h is. tt;
  other = λ count type bytes. tt;
}

-- ---- sums

sum_by_test : (layout : Layout) (test : LayerFields → Bool) → ((layer : LayerFields) → test layer ≡ true → layer.loudspeaker_layout ≡ layout) → (before : Option Layout) (layer : LayerFields) (layers : List LayerFields) (b : Bool)
    → test layer ≡ b → IsCounted before layer → (test layer || list_any test layers) ≡ true
    → (list_any test layers ≡ true → length (channels layout) ≤ length (channels layer.loudspeaker_layout) + sum_by both_counts layers) → length (channels layout) ≤ below before + sum_by both_counts (layer ∷ layers)
sum_by_test layout test its before layer layers true is one some rest =
    let same : length (channels layer.loudspeaker_layout) ≡ length (channels layout) = ap (λ l. length (channels l)) (its layer is) in
    let first = sum_by-first both_counts layer layers in
    omega arith
sum_by_test layout test its before layer layers false is one some rest =
    let more : list_any test layers ≡ true = rw is at some in
    let more_is = rest more in
    let first = sum_by-first both_counts layer layers in
    omega arith

sum_from : (layout : Layout) (test : LayerFields → Bool) → ((layer : LayerFields) → test layer ≡ true → layer.loudspeaker_layout ≡ layout) → (before : Option Layout) (layers : List LayerFields)
    → AreCounted before layers → list_any test layers ≡ true → length (channels layout) ≤ below before + sum_by both_counts layers
sum_from layout test its before [] all some = absurd (cc)
sum_from layout test its before (layer ∷ layers) all some =
    sum_by_test layout test its before layer layers (test layer) refl all.0 some (λ or. sum_from layout test its (Some layer.loudspeaker_layout) layers all.1 or)

-- the layers of a valid element transmit at least as many channels as the layout of any of them has
pub layers_suffice : (frame_length : ℕ) (element : AudioElementFields) (layers : List LayerFields) (layout : Layout) (test : LayerFields → Bool) → IsValid (audio_element frame_length) audio_element_fields element → element.config ≡ Scalable layers
    → ((layer : LayerFields) → test layer ≡ true → layer.loudspeaker_layout ≡ layout) → list_any test layers ≡ true → length (channels layout) ≤ sum (layer_channels layers)
layers_suffice frame_length element layers layout test valid is its some =
    let counted : AreCounted None layers = subst (HasCounted (length element.audio_substream_ids)) is
    (element_holds HasCounted frame_length (audio_element_fields element) element counted_kinds (record { before = []; bits = canon (audio_element_fields element); stands = valid })) in
    let coupled = (subst (λ (c : ConfigFields). CountsHold (length element.audio_substream_ids) c) is (valid_counts frame_length element valid)).1 in
    let sums = sum-layer_channels layers coupled in
    omega (arith, sum_from layout test its None layers counted some)
