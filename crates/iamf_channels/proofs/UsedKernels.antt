-- The layers that a kernel demixes, and its channels.
use Rattle.std.proofs.Common.{arith, ◌≡◌, ◌<◌, ◌≤ℤ◌, negsuc, ◌-◌, ℕ, zero, suc, ℤ, pos, ap, ◌∙◌, true, false, List, [], ◌∷◌, map, length, Option, Some, None, get_or, slice_get, option_map}
use Rattle.std.specs.List.{list_any}
use Rattle.std.proofs.lemmas.Int.{ints}
use Rattle.std.proofs.lemmas.Bool.{not-false, ltb-false}
use Rattle.std.proofs.lemmas.List.{length-map, get_or-map}
use Rattle.spec_layouts.specs.declared.Channel.TheVariants as channel
use Rattle.spec_layouts.specs.declared.Layout.{Layout}
use Rattle.spec_layouts.specs.Layouts.{channels}
use Rattle.spec_descriptors.specs.Layers.{LayerFields}
use Rattle.spec_descriptors.specs.AudioElement.{ConfigFields, Scalable, Ambisonics, Other}
use Rattle.spec_gains.specs.Modes.{Coefficients}
use Rattle.spec_demix.specs.declared.DemixLayer.{DemixLayer}
use Rattle.spec_demix.specs.Elements.{demix_layer_of, demix_layers_of}
use Rattle.spec_demix.specs.Sent.{IsLayers}
use Rattle.spec_demix.specs.Fits.{target_channels}
use Rattle.spec_demix.specs.FixedWalk.{fixed_row, fixed_value}
use Rattle.mix_fixed.specs.Kernel.{target_of}
use Rattle.obu_element_config.specs.declared.layer.Layer.{Layer}
use Rattle.obu_element_config.specs.declared.layer.OutputGain.{OutputGain}
use Rattle.obu_element_config.specs.LayerView.{view_gain, view_layer}
use Rattle.demix_channels.specs.Gains.{IsModestGain, IsModestLayer}
use Rattle.spec_play.specs.declared.target.Target.{Target}
use Rattle.spec_play.specs.declared.target.Target.TheVariants as target
use Rattle.spec_play.specs.UsedLayers.{is_of, layers_up_to, used_layers, last_of, channel_of_layout}
use Rattle.spec_play.specs.Selection.{lacks_layer, is_above, is_output_gain_above}
use Rattle.spec_play.specs.Laws.{IsHearable, HasChain}
use Rattle.spec_play.proofs.Tests.{neither}
use Rattle.spec_play.proofs.ChainsUpTo.{last_has, layers_allowed}

-- ---- gains

pub not_above : (gain : ℤ) → is_above gain ≡ false → gain ≤ℤ pos 8192
not_above (pos n) e = let low = ltb-false 8192 n e in omega (arith, ints)
not_above (negsuc n) e = omega (arith, ints)

modest_gain : (gain : Option OutputGain) → is_output_gain_above (option_map view_gain gain) ≡ false → IsModestGain gain
modest_gain None e = tt
modest_gain (Some output) e = not_above output.gain e

pub modest_layers : (layers : List Layer) → list_any (λ (layer : LayerFields). is_output_gain_above layer.gain) (map view_layer layers) ≡ false → (j : ℕ) → IsModestLayer (slice_get layers j)
modest_layers [] e j = tt
modest_layers (layer ∷ layers) e zero = modest_gain layer.gain (neither _ _ e).0
modest_layers (layer ∷ layers) e (suc j) = modest_layers layers (neither (is_output_gain_above (option_map view_gain layer.gain)) _ e).1 j

-- ---- the chain

pub used_chain : (played : Target) (config : ConfigFields) → IsHearable played → HasChain config → lacks_layer played config ≡ false → 0 < length (used_layers played config)
    → IsLayers (demix_layers_of (used_layers played config)) (length (used_layers played config) - 1)
used_chain (target.Layer layout) (Scalable layers) hearable chain there some = layers_allowed layout layers (λ e. hearable (ap (λ l. target.Layer l) e)) chain (not-false (list_any (is_of layout) layers) there)
used_chain (target.Layer layout) (Ambisonics config) hearable chain there some = absurd (omega arith)
used_chain (target.Layer layout) (Other kind bytes) hearable chain there some = absurd (omega arith)
used_chain target.Scene config hearable chain there some = absurd (omega arith)

-- ---- its channels

target_is : (layers : List LayerFields) → target_of (demix_layers_of layers) ≡ last_of layers
target_is layers = ap (λ n. n - 1) (length-map layers demix_layer_of)

pub kernel_channels : (layout : Layout) (layers : List LayerFields) (kernel : List DemixLayer) → list_any (is_of layout) layers ≡ true → kernel ≡ demix_layers_of (layers_up_to layout layers)
    → target_channels kernel (target_of kernel) ≡ channels layout
kernel_channels layout layers kernel some is =
    let up = layers_up_to layout layers in
    ap (λ k. target_channels k (target_of k)) is ∙ ap (λ t. target_channels (demix_layers_of up) t) (target_is up) ∙ ap channels (last_has layout layers some)

pub kernel_row : (layout : Layout) (layers : List LayerFields) (kernel : List DemixLayer) (mode : Coefficients) (w : ℕ) (coded : List ℤ) (c : ℕ) → list_any (is_of layout) layers ≡ true → kernel ≡ demix_layers_of (layers_up_to layout layers)
    → c < length (channels layout)
    → get_or (fixed_row kernel (target_of kernel) mode w coded) c (pos 0) ≡ fixed_value (demix_layers_of (layers_up_to layout layers)) (last_of (layers_up_to layout layers)) mode w coded (channel_of_layout layout c)
kernel_row layout layers kernel mode w coded c some is there =
    let up = layers_up_to layout layers in
    let row : fixed_row kernel (target_of kernel) mode w coded ≡ map (fixed_value (demix_layers_of up) (last_of up) mode w coded) (channels layout) =
    ap (λ k. map (fixed_value k (target_of k) mode w coded) (target_channels kernel (target_of kernel))) is
    ∙ ap (λ t. map (fixed_value (demix_layers_of up) t mode w coded) (target_channels kernel (target_of kernel))) (target_is up)
    ∙ ap (λ cs. map (fixed_value (demix_layers_of up) (last_of up) mode w coded) cs) (kernel_channels layout layers kernel some is) in
    ap (λ zs. get_or zs c (pos 0)) row ∙ get_or-map (fixed_value (demix_layers_of up) (last_of up) mode w coded) (channels layout) c channel.M (pos 0) there
