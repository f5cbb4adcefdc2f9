-- The mix in fixed point is near the exact one: at most 64 units for a channel, 2549 after an element's gain, and 2841392 for
-- 28 elements after the output gain.
use Rattle.std.proofs.Common.{arith, ◌≡◌, ◌≢◌, ◌<◌, ◌≤◌, ◌+◌, ◌*◌, ℕ, ℤ, pos, ◌+ℤ◌, ◌-ℤ◌, ◌*ℤ◌, sym, ap, subst, true, false, List, [], ◌∷◌, length}
use Rattle.std.specs.Prelude.{All}
use Rattle.std.specs.List.{list_any}
use Rattle.std.proofs.lemmas.Int.{ints}
use Rattle.std.proofs.lemmas.Bool.{not-false}
use Rattle.std.proofs.Math.Nat.{mul-le-mul}
use Rattle.spec_layouts.specs.declared.Layout.{Layout}
use Rattle.spec_layouts.specs.declared.Layout.TheVariants.{Binaural}
use Rattle.spec_layouts.specs.declared.Channel.TheVariants as channel
use Rattle.spec_layouts.specs.Layouts.{channels}
use Rattle.spec_layouts.specs.Steps.{IsChain}
use Rattle.spec_gains.specs.Gains.{one}
use Rattle.spec_gains.specs.Modes.{Coefficients, coefficients_of}
use Rattle.spec_descriptors.specs.Layers.{LayerFields}
use Rattle.spec_descriptors.specs.Ambisonics.{AmbisonicsFields, Mono, Projection}
use Rattle.spec_descriptors.specs.AudioElement.{ConfigFields, Scalable, Ambisonics, Other}
use Rattle.spec_demix.specs.Floor.{unit, floor_of}
use Rattle.spec_demix.specs.Downmix.{Channels}
use Rattle.spec_demix.specs.Elements.{demix_layers_of}
use Rattle.spec_demix.specs.Fits.{FitsOver, target_channels}
use Rattle.spec_demix.specs.FixedWalk.{fixed_value}
use Rattle.spec_demix.specs.Scenes.{scene_top, scene_bottom}
use Rattle.spec_demix.specs.Sizes.{IsNear}
use Rattle.spec_demix.specs.ExactWalk.{Quotient, over}
use Rattle.spec_demix.proofs.Near.{Near}
use Rattle.spec_demix.proofs.FloorLemmas.{floor-low, floor-high}
use Rattle.spec_demix.proofs.Layered.{walk_is_near}
use Rattle.spec_play.specs.declared.target.Target.{Target}
use Rattle.spec_play.specs.declared.target.Target.TheVariants as target
use Rattle.spec_play.specs.Mixes.{MixedElement, Rendition}
use Rattle.spec_play.specs.UsedLayers.{is_of, layers_up_to, last_of, channel_of_layout}
use Rattle.spec_play.specs.GainsOverTime.{gain_at}
use Rattle.spec_play.specs.DemixingOverTime.{Parameters, parameters_in}
use Rattle.spec_play.specs.Selection.{lacks_layer, is_for_other, is_unknown, is_gain_above}
use Rattle.spec_play.specs.Exact.{Place, tick_of, plus, times, coefficients_or_none, IsDemixed, IsChannelIn, IsSum, IsExact}
use Rattle.spec_play.specs.FixedMix.{gained, fixed_channel_in, fixed_channel, fixed_sum, fixed_mix}
use Rattle.spec_play.specs.Laws.{IsHearable, HasChain}
use Rattle.spec_play.proofs.ErrorsOfMixing.{gained_near, plus_near}
use Rattle.spec_play.proofs.ChainsUpTo.{layouts_of, last_has, layers_allowed}
use Rattle.spec_play.proofs.GainsBounded.{most, gain_bounded}
use Rattle.spec_play.proofs.SelectedMixes.{AreDemixing}

-- z, in units, is at most k units from q, whose bottom is above 0
pub record IsAbout (k : ℕ) (z : ℤ) (q : Quotient) : Type 0 where
  pub some : 0 < q.bottom
  pub near : Near k q.bottom (z *ℤ pos q.bottom -ℤ pos unit *ℤ q.top)

-- ---- a channel

abbrev IsWalkNear : List LayerFields → Coefficients → ℕ → List ℤ → ℕ → Channels → Type 0
IsWalkNear used k w coded bottom x =
    FitsOver (demix_layers_of used) (last_of used) k w coded bottom x
    → All (λ c. IsNear bottom x c (fixed_value (demix_layers_of used) (last_of used) k w coded c)) (target_channels (demix_layers_of used) (last_of used))

demixed_about : (layers : List LayerFields) (layout : Layout) (p : Parameters) (coded : List ℤ) (c : ℕ) (q : Quotient) → layout ≢ Binaural → IsChain (layouts_of layers) → list_any (is_of layout) layers ≡ true
    → AreDemixing p → c < length (channels layout) → IsDemixed (layers_up_to layout layers) layout p coded c q
    → IsAbout 64 (fixed_value (demix_layers_of (layers_up_to layout layers)) (last_of (layers_up_to layout layers)) (coefficients_or_none p.mode) p.weight coded (channel_of_layout layout c)) q
demixed_about layers layout p coded c q hearable chain some good h (x, fits, top_is) =
    let used = layers_up_to layout layers in
    let mode_is : coefficients_or_none p.mode ≡ coefficients_of good.mode = ap coefficients_or_none good.mode_is in
    let walk : IsWalkNear used (coefficients_of good.mode) p.weight coded q.bottom x = walk_is_near (demix_layers_of used) (last_of used) good.mode p.weight coded q.bottom x (layers_allowed layout layers hearable chain some) good.listed good.small in
    let all = subst (λ k. IsWalkNear used k p.weight coded q.bottom x) (sym mode_is) walk fits in
    let of_layout : All (λ c. IsNear q.bottom x c (fixed_value (demix_layers_of used) (last_of used) (coefficients_or_none p.mode) p.weight coded c)) (channels layout) =
    subst (λ l. All (λ c. IsNear q.bottom x c (fixed_value (demix_layers_of used) (last_of used) (coefficients_or_none p.mode) p.weight coded c)) (channels l)) (last_has layout layers some) all in
    let near = of_layout c channel.M h in
    record {
      some = fits.some;
      near = rw top_is (omega arith);
    }

some_bottom : (config : AmbisonicsFields) → 0 < scene_bottom config
some_bottom (Mono outputs substreams mapping) = omega arith
some_bottom (Projection outputs substreams coupled matrix) = omega arith

floor_about : (z : ℤ) (n : ℕ) → 0 < n → IsAbout 64 (floor_of (pos unit *ℤ z) n) (over z n)
floor_about z n h =
    let low = floor-low (pos unit *ℤ z) n h in
    let high = floor-high (pos unit *ℤ z) n h in
    record { some = h; near = omega (arith, ints) }

abbrev pub CountOf : Target → ℕ → Type 0
CountOf (target.Layer layout) c = c < length (channels layout)
CountOf target.Scene c = Unit {0}

channel_about : (t : Target) (config : ConfigFields) (p : Parameters) (coded : List ℤ) (c : ℕ) (q : Quotient) → IsHearable t → HasChain config → lacks_layer t config ≡ false → AreDemixing p → CountOf t c
    → IsChannelIn t config p coded c q → IsAbout 64 (fixed_channel_in t config p coded c) q
channel_about (target.Layer layout) (Scalable layers) p coded c q hearable chain there good h is =
    demixed_about layers layout p coded c q (λ e. hearable (ap (λ l. target.Layer l) e)) chain (not-false (list_any (is_of layout) layers) there) good h is
channel_about target.Scene (Ambisonics config) p coded c q hearable chain there good h is =
    subst (λ q. IsAbout 64 (floor_of (pos unit *ℤ scene_top config coded c) (scene_bottom config)) q) (sym is) (floor_about (scene_top config coded c) (scene_bottom config) (some_bottom config))
channel_about (target.Layer layout) (Ambisonics config) p coded c q hearable chain there good h is = absurd is
channel_about (target.Layer layout) (Other kind bytes) p coded c q hearable chain there good h is = absurd is
channel_about target.Scene (Scalable layers) p coded c q hearable chain there good h is = absurd is
channel_about target.Scene (Other kind bytes) p coded c q hearable chain there good h is = absurd is

-- ---- sums

-- what is asked of an element of a mix in unit u
pub record IsSound (r : Rendition) (u : ℕ) (m : MixedElement) : Type 0 where
  pub chain : HasChain m.element.config
  pub there : lacks_layer r.target m.element.config ≡ false
  pub suits : is_for_other r.target m.element.config ≡ false
  pub known : is_unknown m.element.config ≡ false
  pub good : AreDemixing (parameters_in r m.element u)
  pub low : is_gain_above r m.gain ≡ false

abbrev pub AreSound : Rendition → ℕ → List MixedElement → Type 0
AreSound r u [] = Unit {0}
AreSound r u (m ∷ ms) = IsSound r u m × AreSound r u ms

times_about : (k m : ℕ) (z : ℤ) (q : Quotient) (g : ℕ) → IsAbout k z q → k * g + one ≤ m * one → IsAbout m (gained z g) (times q g)
times_about k m z q g about fits = record { some = let h = about.some in omega arith; near = gained_near z q.top q.bottom g k m about.near fits }

plus_about : (k m : ℕ) (y z : ℤ) (a b : Quotient) → IsAbout k y a → IsAbout m z b → IsAbout (k + m) (y +ℤ z) (plus a b)
plus_about k m y z a b first second = record {
  some = mul-le-mul first.some second.some;
  near = plus_near y z a.top b.top a.bottom b.bottom k m first.near second.near;
}

more_about : (k m : ℕ) (z : ℤ) (q : Quotient) → k ≡ m → IsAbout k z q → IsAbout m z q
more_about k m z q e about = subst (λ n. IsAbout n z q) e about

sum_about : (r : Rendition) (place : Place) (ms : List MixedElement) (q : Quotient) → IsHearable r.target → CountOf r.target place.channel → AreSound r place.unit ms → IsSum r place ms q
    → IsAbout (2549 * length ms) (fixed_sum r place ms) q
sum_about r place [] q hearable h sound is = rw is (record { some = omega arith; near = omega (arith, ints) })
sum_about r place (m ∷ ms) q hearable h sound (part, rest, part_is, rest_is, is) =
    let g = gain_at r m.gain (tick_of r place) in
    let low : g ≤ most = gain_bounded r m.gain (tick_of r place) sound.0.low in
    let of_part = channel_about r.target m.element.config (parameters_in r m.element place.unit) _ place.channel part hearable sound.0.chain sound.0.there sound.0.good h part_is in
    let first : IsAbout 2549 (gained (fixed_channel r place m.element) g) (times part g) = times_about 64 2549 (fixed_channel r place m.element) part g of_part (omega arith) in
    let second = sum_about r place ms rest hearable h sound.1 rest_is in
    let both = plus_about 2549 (2549 * length ms) (gained (fixed_channel r place m.element) g) (fixed_sum r place ms) (times part g) rest first second in
    let e : 2549 + 2549 * length ms ≡ 2549 * length (m ∷ ms) = omega arith in
    subst (λ v. IsAbout (2549 * length (m ∷ ms)) (fixed_sum r place (m ∷ ms)) v) (sym is) (more_about (2549 + 2549 * length ms) (2549 * length (m ∷ ms)) (fixed_sum r place (m ∷ ms)) (plus (times part g) rest) e both)

pub mix_about : (r : Rendition) (place : Place) (q : Quotient) → IsHearable r.target → CountOf r.target place.channel → AreSound r place.unit r.elements → length r.elements ≤ 28 → is_gain_above r r.output ≡ false
    → IsExact r place q → IsAbout 2841392 (fixed_mix r place) q
unfolding fixed_mix
mix_about r place q hearable h sound few low exact =
    let g = gain_at r r.output (tick_of r place) in
    let sum = sum_about r place r.elements exact.total hearable h sound exact.sum_is in
    let bounded : g ≤ most = gain_bounded r r.output (tick_of r place) low in
    let all : 2549 * length r.elements ≤ 71372 = omega arith in
    let product : 2549 * length r.elements * g ≤ 71372 * most = mul-le-mul all bounded in
    subst (λ v. IsAbout 2841392 (gained (fixed_sum r place r.elements) g) v) (sym exact.value_is)
    (times_about (2549 * length r.elements) 2841392 (fixed_sum r place r.elements) exact.total g sum (omega arith))
