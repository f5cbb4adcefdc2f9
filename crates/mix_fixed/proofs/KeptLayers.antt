-- The layers that a kernel keeps.
use Rattle.std.proofs.Common.{arith, ◌≡◌, ◌<◌, ◌≤◌, ℕ, zero, suc, ◌+◌, List, [], ◌∷◌, ◌++◌, length, map, take, get_or, refl, ◌∙◌, ap}
use Rattle.std.proofs.Math.Seq.{take-suc}
use Rattle.std.proofs.lemmas.List.{length-map, length-take-le, get_or-take, get_or-map}
use Rattle.spec_layouts.specs.declared.Layout.{Layout}
use Rattle.spec_layouts.specs.Layouts.{channels}
use Rattle.spec_layouts.specs.Steps.{IsChain}
use Rattle.spec_layouts.proofs.Chains.{short_chain}
use Rattle.spec_demix.specs.declared.DemixLayer.{DemixLayer}
use Rattle.spec_demix.specs.Sent.{layer_at, IsLayers}
use Rattle.spec_demix.specs.Fits.{target_channels}
use Rattle.spec_demix.specs.Sizes.{AreModest}
use Rattle.spec_demix.specs.Elements.{demix_layer_of}
use Rattle.obu_element_config.specs.declared.layer.Layer.{Layer}
use Rattle.obu_element_config.specs.LayerView.{view_layer}
use Rattle.demix_channels.specs.Gains.{HaveModestGains}
use Rattle.demix_channels.proofs.SeenLayers.{seen, length-seen, modest_at}
use Rattle.mix_fixed.specs.Kernel.{target_of, IsKernel}
use Rattle.mix_fixed.specs.declared.origins.Origins.{Origins}
use Rattle.mix_fixed.specs.Origins.{origins_of}

-- ---- a chain has at most six layers

layouts_from : List DemixLayer → ℕ → ℕ → List Layout
layouts_from layers j zero = (layer_at layers j).layout ∷ []
layouts_from layers j (suc d) = (layer_at layers j).layout ∷ layouts_from layers (suc j) d

are_chain : (layers : List DemixLayer) (target : ℕ) → IsLayers layers target → (d j : ℕ) → j + d ≤ target → IsChain (layouts_from layers j d)
unfolding layouts_from
are_chain layers target chain zero j h = tt
are_chain layers target chain (suc zero) j h = (chain.steps j (omega arith), tt)
are_chain layers target chain (suc (suc d)) j h = (chain.steps j (omega arith), are_chain layers target chain (suc d) (suc j) (omega arith))

length-layouts_from : (layers : List DemixLayer) (d j : ℕ) → length (layouts_from layers j d) ≡ suc d
unfolding layouts_from
length-layouts_from layers zero j = refl
length-layouts_from layers (suc d) j = omega (arith, length-layouts_from layers d (suc j))

pub few : (layers : List DemixLayer) (target : ℕ) → IsLayers layers target → target < 6
few layers target chain = omega (arith, short_chain (layouts_from layers 0 target) (are_chain layers target chain target 0 (omega arith)), length-layouts_from layers target 0)

-- ---- the layers up to the target

pub layer_at-take : (layers : List DemixLayer) (n j : ℕ) → j < n → layer_at (take n layers) j ≡ layer_at layers j
layer_at-take layers n j h = get_or-take n layers j _ h

pub target_of-take : (layers : List DemixLayer) (target : ℕ) → target < length layers → target_of (take (target + 1) layers) ≡ target
target_of-take layers target h = let e = length-take-le (target + 1) layers (omega arith) in omega arith

kept_chain : (layers : List DemixLayer) (target : ℕ) → IsLayers layers target → IsLayers (take (target + 1) layers) target
kept_chain layers target chain = record {
  steps = λ j h. rw (layer_at-take layers (target + 1) j (omega arith), layer_at-take layers (target + 1) (suc j) (omega arith)) (chain.steps j h);
  speakers = λ j h. rw (layer_at-take layers (target + 1) j (omega arith)) (chain.speakers j h);
}

kept_modest : (layers : List Layer) (target : ℕ) → HaveModestGains layers target → AreModest (take (target + 1) (seen layers)) target
kept_modest layers target m j h = rw (layer_at-take (seen layers) (target + 1) j (omega arith)) (modest_at layers j (m j h))

pub kernel_is : (layers : List Layer) (target : ℕ) (origins : Origins) → target < length layers → IsLayers (seen layers) target → HaveModestGains layers target → origins ≡ origins_of (take (target + 1) (seen layers)) (target_of (take (target + 1) (seen layers)))
    → IsKernel (target + 1) (take (target + 1) (seen layers)) origins
kernel_is layers target origins h chain modest k =
    let long = length-seen layers in
    let e : target_of (take (target + 1) (seen layers)) ≡ target = target_of-take (seen layers) target (omega arith) in
    let l = length-take-le (target + 1) (seen layers) (omega arith) in
    record {
      some = omega arith;
      few = omega (arith, few (seen layers) target chain);
      all = omega (arith, l);
      chain = rw e (kept_chain (seen layers) target chain);
      modest = rw e (kept_modest layers target modest);
      kept = k;
    }

-- one layer more
pub one_more : (layers : List Layer) (i : ℕ) (d : Layer) → i < length layers → take (i + 1) (seen layers) ≡ take i (seen layers) ++ demix_layer_of (view_layer (get_or layers i d)) ∷ []
one_more layers i d h =
    let e : i + 1 ≡ suc i = omega arith in
    let long : i < length (seen layers) = omega (arith, length-seen layers) in
    let two : i < length (map view_layer layers) = omega (arith, length-map layers view_layer) in
    let t = take-suc (seen layers) i (demix_layer_of (view_layer d)) long in
    let g = get_or-map demix_layer_of (map view_layer layers) i (view_layer d) (demix_layer_of (view_layer d)) two in
    let k = get_or-map view_layer layers i d (view_layer d) h in
    rw e (t ∙ ap (λ x. take i (seen layers) ++ x ∷ []) (g ∙ ap demix_layer_of k))

-- the last of them is the target
pub target_kept : (layers : List Layer) (target : ℕ) → target < length layers → target_channels (take (target + 1) (seen layers)) (target_of (take (target + 1) (seen layers))) ≡ target_channels (seen layers) target
target_kept layers target h =
    let long = length-seen layers in
    let e : target_of (take (target + 1) (seen layers)) ≡ target = target_of-take (seen layers) target (omega arith) in
    rw e (ap (λ (layer : DemixLayer). channels layer.layout) (layer_at-take (seen layers) (target + 1) target (omega arith)))
