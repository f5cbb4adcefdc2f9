-- What is known of a rendition that is played, at each place; and that its samples have an exact value.
use Rattle.std.proofs.Common.{arith, ◌≡◌, ◌<◌, ℕ, ℤ, refl, sym, ap, subst, false, ◌&&◌, List, [], ◌∷◌, map, length}
use Rattle.std.specs.List.{list_any}
use Rattle.std.proofs.lemmas.Bool.{not-false}
use Rattle.spec_gains.specs.Modes.{coefficients_of}
use Rattle.spec_descriptors.specs.AudioElement.{ConfigFields, Scalable, Ambisonics, Other}
use Rattle.spec_demix.specs.Values.{channel_of}
use Rattle.spec_demix.specs.Elements.{demix_layers_of}
use Rattle.spec_demix.specs.Fits.{FitsOver}
use Rattle.spec_demix.specs.Scenes.{scene_top, scene_bottom}
use Rattle.spec_demix.specs.ExactWalk.{Quotient, over}
use Rattle.spec_demix.specs.Laws.{exact_list, exact_bottom}
use Rattle.spec_demix.proofs.Layered.{some_list_fits}
use Rattle.spec_play.specs.declared.target.Target.{Target}
use Rattle.spec_play.specs.declared.target.Target.TheVariants as target
use Rattle.spec_play.specs.Mixes.{MixedElement, Rendition}
use Rattle.spec_play.specs.UsedLayers.{is_of, layers_up_to, last_of, channel_of_layout}
use Rattle.spec_play.specs.GainsOverTime.{gain_at}
use Rattle.spec_play.specs.DemixingOverTime.{Parameters, demixing_of, parameters_in}
use Rattle.spec_play.specs.Waves.{channel_count}
use Rattle.spec_play.specs.Selection.{is_unknown, is_for_other, lacks_layer, needs_parameters, has_reserved, is_gain_above}
use Rattle.spec_play.specs.Exact.{Place, tick_of, nothing, plus, times, coefficients_or_none, IsChannelIn, IsChannelOf, IsSum, IsExact}
use Rattle.spec_play.specs.FixedMix.{fixed_mix}
use Rattle.spec_play.specs.Laws.{IsHearable, HasChain, HaveChains, IsPlayable, IsPlace, FixedMixIsNear}
use Rattle.spec_play.proofs.Tests.{Each, each_front, each_back}
use Rattle.spec_play.proofs.ChainsUpTo.{layers_allowed}
use Rattle.spec_play.proofs.SelectedMixes.{is_selected, few_elements, AreDemixing, are_demixing}
use Rattle.spec_play.proofs.MixIsNear.{IsAbout, CountOf, AreSound, mix_about}

-- ---- the elements

sound_of : (r : Rendition) (u : ℕ) → u < length r.units → (ms : List MixedElement) → HaveChains ms
    → Each (λ m. lacks_layer r.target m.element.config ≡ false) ms → Each (λ m. is_for_other r.target m.element.config ≡ false) ms → Each (λ m. is_unknown m.element.config ≡ false) ms
    → Each (λ m. (needs_parameters r.target m.element && list_any (has_reserved r.units) (demixing_of m.element)) ≡ false) ms
    → Each (λ g. is_gain_above r g ≡ false) (map (λ m. m.gain) ms) → AreSound r u ms
sound_of r u h [] chains there suits known reserved low = tt
sound_of r u h (m ∷ ms) chains there suits known reserved low = (
  record { chain = chains.0; there = there.0; suits = suits.0; known = known.0; good = are_demixing r m.element u h reserved.0; low = low.0 },
  sound_of r u h ms chains.1 there.1 suits.1 known.1 reserved.1 low.1,
)

pub are_sound : (r : Rendition) (u : ℕ) → IsPlayable r → u < length r.units → AreSound r u r.elements
are_sound r u p h =
    let s = is_selected r p.selected in
    sound_of r u h r.elements p.chains s.layers s.others s.known s.reserved
    (each_front (λ g. is_gain_above r g ≡ false) (map (λ (m : MixedElement). m.gain) r.elements) (r.output ∷ []) s.gains)

count_of : (t : Target) (elements : List MixedElement) (c : ℕ) → c < channel_count t elements → CountOf t c
count_of (target.Layer layout) elements c h = h
count_of target.Scene elements c h = tt

pub fixed_about : (r : Rendition) (place : Place) (q : Quotient) → IsPlayable r → IsPlace r place → IsExact r place q → IsAbout 2841392 (fixed_mix r place) q
fixed_about r place q p there exact =
    let s = is_selected r p.selected in
    let low = each_back (λ g. is_gain_above r g ≡ false) (map (λ (m : MixedElement). m.gain) r.elements) (r.output ∷ []) s.gains in
    mix_about r place q p.hearable (count_of r.target r.elements place.channel there.in_wave) (are_sound r place.unit p there.in_unit) (few_elements r s.shape) low.0 exact

pub fixed_mix_is_near : FixedMixIsNear
fixed_mix_is_near r place q p there exact =
    let about = fixed_about r place q p there exact in
    let near = about.near in
    let some = about.some in
    omega arith

-- ---- exact values

some_channel : (t : Target) (config : ConfigFields) (p : Parameters) (coded : List ℤ) (c : ℕ) → IsHearable t → HasChain config → lacks_layer t config ≡ false → is_for_other t config ≡ false
    → is_unknown config ≡ false → AreDemixing p → (q : Quotient) × IsChannelIn t config p coded c q
some_channel (target.Layer layout) (Scalable layers) p coded c hearable chain there suits known good =
    let used = layers_up_to layout layers in
    let x = exact_list (demix_layers_of used) (last_of used) good.mode p.weight coded in
    let mode_is : coefficients_or_none p.mode ≡ coefficients_of good.mode = ap coefficients_or_none good.mode_is in
    let fits = some_list_fits (demix_layers_of used) (last_of used) good.mode p.weight coded (layers_allowed layout layers (λ e. hearable (ap (λ l. target.Layer l) e)) chain (not-false (list_any (is_of layout) layers) there)) good.listed good.small in
    (over (channel_of x (channel_of_layout layout c)) (exact_bottom good.mode), (x, subst (λ k. FitsOver (demix_layers_of used) (last_of used) k p.weight coded (exact_bottom good.mode) x) (sym mode_is) fits, refl))
some_channel target.Scene (Ambisonics config) p coded c hearable chain there suits known good = (over (scene_top config coded c) (scene_bottom config), refl)
some_channel (target.Layer layout) (Ambisonics config) p coded c hearable chain there suits known good = absurd (cc)
some_channel (target.Layer layout) (Other kind bytes) p coded c hearable chain there suits known good = absurd (cc)
some_channel target.Scene (Scalable layers) p coded c hearable chain there suits known good = absurd (cc)
some_channel target.Scene (Other kind bytes) p coded c hearable chain there suits known good = absurd (cc)

some_sum : (r : Rendition) (place : Place) (ms : List MixedElement) → IsHearable r.target → AreSound r place.unit ms → (q : Quotient) × IsSum r place ms q
some_sum r place [] hearable sound = (nothing, refl)
some_sum r place (m ∷ ms) hearable sound =
    let s = sound.0 in
    let part : (q : Quotient) × IsChannelOf r place m.element q = some_channel r.target m.element.config (parameters_in r m.element place.unit) _ place.channel hearable s.chain s.there s.suits s.known s.good in
    let rest = some_sum r place ms hearable sound.1 in
    (plus (times part.0 (gain_at r m.gain (tick_of r place))) rest.0, (part.0, rest.0, part.1, rest.1, refl))

pub some_exact : (r : Rendition) (place : Place) → IsPlayable r → IsPlace r place → (q : Quotient) × IsExact r place q
some_exact r place p there =
    let sum = some_sum r place r.elements p.hearable (are_sound r place.unit p there.in_unit) in
    (times sum.0 (gain_at r r.output (tick_of r place)), record { total = sum.0; sum_is = sum.1; value_is = refl })
