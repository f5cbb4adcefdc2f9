-- The layers of an element, as demixing sees them.
use Rattle.std.proofs.Common.{arith, ◌≡◌, ◌<◌, ◌≤◌, ℕ, zero, suc, List, [], ◌∷◌, length, map, get_or, refl, ◌∙◌, ap, Some, None, Option, false}
use Rattle.std.specs.Prelude.{slice_get, option_map}
use Rattle.std.proofs.lemmas.List.{length-map, get_or-map, get_or_default}
use Rattle.spec_layouts.specs.declared.Layout.{Layout}
use Rattle.spec_gains.proofs.GainLemmas.{gain_most}
use Rattle.spec_descriptors.specs.Layers.{OutputGainFields}
use Rattle.spec_demix.specs.declared.DemixLayer.{DemixLayer}
use Rattle.spec_demix.specs.Sent.{layer_at}
use Rattle.spec_demix.specs.Sizes.{AreModest}
use Rattle.spec_demix.specs.Elements.{layer_of, demix_layer_of, demix_layers_of}
use Rattle.obu_element_config.specs.declared.layer.OutputGain.{OutputGain}
use Rattle.obu_element_config.specs.declared.layer.Layer.{Layer}
use Rattle.obu_element_config.specs.LayerView.{view_gain, view_layer}
use Rattle.demix_channels.specs.Gains.{IsModestGain, IsModestLayer, HaveModestGains}

-- the layers of an element as demixing sees them
abbrev pub seen : List Layer → List DemixLayer
seen layers = demix_layers_of (map view_layer layers)

pub length-seen : (layers : List Layer) → length (seen layers) ≡ length layers
length-seen layers = length-map (map view_layer layers) demix_layer_of ∙ length-map layers view_layer

gain_small : (layout : Layout) (gain : Option OutputGain) → IsModestGain gain → (layer_of layout (option_map view_gain gain)).factor ≤ 39810717055340
gain_small layout None m = omega arith
gain_small layout (Some gain) m = gain_most gain.gain m

pub modest_at : (layers : List Layer) (j : ℕ) → IsModestLayer (slice_get layers j) → (layer_at (seen layers) j).factor ≤ 39810717055340
modest_at [] j m = omega arith
modest_at (x ∷ xs) zero m = gain_small x.layout x.gain m
modest_at (x ∷ xs) (suc j) m = modest_at xs j m

pub are_modest : (layers : List Layer) (target : ℕ) → HaveModestGains layers target → AreModest (seen layers) target
are_modest layers target m j h = modest_at layers j (m j h)

pub seen_at : (layers : List Layer) (i : ℕ) (d : Layer) → i < length layers → layer_at (seen layers) i ≡ demix_layer_of (view_layer (get_or layers i d))
seen_at layers i d h =
    let long : i < length (seen layers) = omega (arith, length-seen layers) in
    let two : i < length (map view_layer layers) = omega (arith, length-map layers view_layer) in
    get_or_default (seen layers) i _ (demix_layer_of (view_layer d)) long
    ∙ get_or-map demix_layer_of (map view_layer layers) i (view_layer d) (demix_layer_of (view_layer d)) two
    ∙ ap demix_layer_of (get_or-map view_layer layers i d (view_layer d) h)

-- what a slice of layers has past its end
abbrev pub no_layer : Layer
no_layer = record { layout = Layout.Mono; gain = None; recon = false; substreams = 0; coupled = 0 }

layout-layer_of : (layout : Layout) (gain : Option OutputGainFields) → (layer_of layout gain).layout ≡ layout
layout-layer_of layout None = refl
layout-layer_of layout (Some gain) = refl

pub layout_at : (layers : List Layer) (i : ℕ) → i < length layers → (layer_at (seen layers) i).layout ≡ (get_or layers i no_layer).layout
layout_at layers i h =
    let layer = get_or layers i no_layer in
    ap (λ (layer : DemixLayer). layer.layout) (seen_at layers i no_layer h) ∙ layout-layer_of layer.layout (option_map view_gain layer.gain)
