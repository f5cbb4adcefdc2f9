-- What the code adds of an element is its channel.
use Rattle.std.proofs.Common.{arith, ◌≡◌, ◌<◌, ◌≤◌, ◌+◌, ℕ, ℤ, false, List, map, length, Option, Some, None, refl, sym, ap, subst, ◌∙◌}
use Rattle.std.specs.Prelude.{sum, unwrap_or}
use Rattle.std.specs.List.{list_any}
use Rattle.std.proofs.lemmas.Bool.{not-false}
use Rattle.spec_layouts.specs.Layouts.{channels}
use Rattle.spec_gains.specs.Modes.{coefficients_of}
use Rattle.spec_descriptors.specs.Ambisonics.{AmbisonicsFields}
use Rattle.spec_descriptors.specs.Ambisonics as fields
use Rattle.spec_descriptors.specs.AudioElement.{ConfigFields, Ambisonics, coupled_first, coded_channels_of}
use Rattle.spec_descriptors.proofs.ElementCounts.{sum-coupled_first}
use Rattle.spec_demix.specs.declared.DemixLayer.{DemixLayer}
use Rattle.spec_demix.specs.Elements.{demix_layers_of}
use Rattle.spec_demix.specs.FixedWalk.{fixed_value}
use Rattle.spec_demix.specs.Scenes.{IsWhole}
use Rattle.obu_element_config.specs.declared.config.ElementConfig.{ElementConfig}
use Rattle.obu_element_config.specs.declared.config.ElementConfig.TheVariants as kept
use Rattle.obu_element_config.specs.LayerView.{view_layer}
use Rattle.obu_element_config.specs.ConfigView.{view_config}
use Rattle.demix_channels.specs.declared.params.DemixParams.{DemixParams}
use Rattle.spec_play.specs.declared.target.Target.{Target}
use Rattle.spec_play.specs.declared.target.Target.TheVariants as target
use Rattle.spec_play.specs.UsedLayers.{is_of, layers_up_to, last_of, channel_of_layout}
use Rattle.spec_play.specs.DemixingOverTime.{Parameters}
use Rattle.spec_play.specs.Selection.{lacks_layer}
use Rattle.spec_play.specs.Exact.{coefficients_or_none}
use Rattle.spec_play.specs.FixedMix.{fixed_channel_in}
use Rattle.iamf_channels.specs.Parameters.{AreParameters}
use Rattle.iamf_channels.specs.Playing.{IsKernelOf}
use Rattle.iamf_channels.specs.Adding.{CanAdd, added}
use Rattle.iamf_channels.specs.Needed.{needed}
use Rattle.iamf_channels.proofs.HeardRenditions.{own_count}
use Rattle.iamf_channels.proofs.UsedKernels.{kernel_channels, kernel_row}

-- what is known of the element's configuration, and of the numbers of its coded samples and its sums
pub record HasRoom (played : Target) (config : ConfigFields) (coded sums : ℕ) : Type 0 where
  pub there : lacks_layer played config ≡ false
  pub counted : sums ≡ own_count played config
  pub enough : needed played config ≤ coded
  pub whole : (scene : AmbisonicsFields) → config ≡ Ambisonics scene → IsWhole scene
  pub most : coded ≤ unwrap_or (coded_channels_of config) 0

pub can_add : (played : Target) (config : ElementConfig) (count : ℕ) (kernel : Option (List DemixLayer)) (coded sums : ℕ) → IsKernelOf played (view_config count config) kernel → HasRoom played (view_config count config) coded sums → CanAdd kernel config coded sums
can_add (target.Layer layout) (kept.Scalable layers) count (Some kernel) coded sums is room =
    let some = not-false (list_any (is_of layout) (map view_layer layers.items)) room.there in
    let enough : length (channels layout) ≤ coded = room.enough in
    let counted : sums ≡ length (channels layout) = room.counted in
    (counted ∙ ap length (sym (kernel_channels layout (map view_layer layers.items) kernel some is)), omega arith)
can_add target.Scene (kept.Mono outputs mapping) count None coded sums is room =
    let e = sum-coupled_first count 0 (omega arith) in
    let enough : sum (coupled_first count 0) ≤ coded = room.enough in
    let most : coded ≤ sum (coupled_first count 0) = room.most in
    let same : count ≡ coded = omega arith in
    let counted : sums ≡ outputs = room.counted in
    λ c h. record { whole = subst (λ (n : ℕ). IsWhole (fields.Mono outputs n mapping.now)) same (room.whole (fields.Mono outputs count mapping.now) refl); output = omega arith; counted = refl }
can_add target.Scene (kept.Projection outputs substreams coupled matrix) count None coded sums is room =
    let whole = room.whole (fields.Projection outputs substreams coupled matrix.now) refl in
    let total = sum-coupled_first substreams coupled whole.1 in
    let enough : sum (coupled_first substreams coupled) ≤ coded = room.enough in
    let most : coded ≤ sum (coupled_first substreams coupled) = room.most in
    let e : substreams + coupled ≡ coded = omega arith in
    let counted : sums ≡ outputs = room.counted in
    λ c h. record { whole = whole; output = omega arith; counted = sym e }
can_add (target.Layer layout) (kept.Scalable layers) count None coded sums is room = absurd is
can_add (target.Layer layout) (kept.Mono outputs mapping) count kernel coded sums is room = absurd is
can_add (target.Layer layout) (kept.Projection outputs substreams coupled matrix) count kernel coded sums is room = absurd is
can_add (target.Layer layout) (kept.Other kind bytes) count kernel coded sums is room = absurd is
can_add target.Scene (kept.Scalable layers) count kernel coded sums is room = absurd is
can_add target.Scene (kept.Mono outputs mapping) count (Some kernel) coded sums is room = absurd is
can_add target.Scene (kept.Projection outputs substreams coupled matrix) count (Some kernel) coded sums is room = absurd is
can_add target.Scene (kept.Other kind bytes) count kernel coded sums is room = absurd is

pub added_is : (played : Target) (config : ElementConfig) (count : ℕ) (kernel : Option (List DemixLayer)) (params : DemixParams) (p : Parameters) (coded : List ℤ) (c : ℕ) → IsKernelOf played (view_config count config) kernel
    → lacks_layer played (view_config count config) ≡ false → AreParameters p params → c < own_count played (view_config count config)
    → added kernel config params coded c ≡ fixed_channel_in played (view_config count config) p coded c
added_is (target.Layer layout) (kept.Scalable layers) count (Some kernel) params p coded c is there same below =
    let some = not-false (list_any (is_of layout) (map view_layer layers.items)) there in
    let up = layers_up_to layout (map view_layer layers.items) in
    let mode : coefficients_or_none p.mode ≡ coefficients_of params.mode = ap coefficients_or_none same.mode in
    kernel_row layout (map view_layer layers.items) kernel (coefficients_of params.mode) params.weight coded c some is below
    ∙ ap (λ k. fixed_value (demix_layers_of up) (last_of up) k params.weight coded (channel_of_layout layout c)) (sym mode)
    ∙ ap (λ w. fixed_value (demix_layers_of up) (last_of up) (coefficients_or_none p.mode) w coded (channel_of_layout layout c)) (sym same.weight)
added_is target.Scene (kept.Mono outputs mapping) count None params p coded c is there same below = refl
added_is target.Scene (kept.Projection outputs substreams coupled matrix) count None params p coded c is there same below = refl
added_is (target.Layer layout) (kept.Scalable layers) count None params p coded c is there same below = absurd is
added_is (target.Layer layout) (kept.Mono outputs mapping) count kernel params p coded c is there same below = absurd is
added_is (target.Layer layout) (kept.Projection outputs substreams coupled matrix) count kernel params p coded c is there same below = absurd is
added_is (target.Layer layout) (kept.Other kind bytes) count kernel params p coded c is there same below = absurd is
added_is target.Scene (kept.Scalable layers) count kernel params p coded c is there same below = absurd is
added_is target.Scene (kept.Mono outputs mapping) count (Some kernel) params p coded c is there same below = absurd is
added_is target.Scene (kept.Projection outputs substreams coupled matrix) count (Some kernel) params p coded c is there same below = absurd is
added_is target.Scene (kept.Other kind bytes) count kernel params p coded c is there same below = absurd is
