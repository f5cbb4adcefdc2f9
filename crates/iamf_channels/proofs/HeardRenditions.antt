-- What is known of an element of a rendition that is played.
use Rattle.std.proofs.Common.{arith, ◌≡◌, ◌≤◌, ℕ, zero, suc, refl, sym, ap, subst, ◌∙◌, false, not, ◌||◌, ◌&&◌, if◌then◌else◌, nat_lt, List, [], ◌∷◌, length, Option, Some, None, slice_get}
use Rattle.std.specs.Prelude.{◌==◌, unwrap_or}
use Rattle.std.specs.List.{list_any, flat_map}
use Rattle.std.proofs.lemmas.Bool.{eqb-true, not-false, ltb-false}
use Rattle.spec_layouts.specs.Layouts.{channels}
use Rattle.spec_descriptors.specs.AudioElement.{ConfigFields, Scalable, Ambisonics, Other, AudioElementFields, coded_channels_of}
use Rattle.spec_descriptors.specs.MixPresentation.{SubMixFields, MixPresentationFields}
use Rattle.spec_descriptors.proofs.ElementCounts.{sum_by-first}
use Rattle.spec_rules.specs.Units.{is_none_of}
use Rattle.spec_values.specs.Value.{ObuValue}
use Rattle.spec_play.specs.declared.fault.PlayFault.TheVariants.{GainRange}
use Rattle.spec_play.specs.declared.target.Target.{Target}
use Rattle.spec_play.specs.declared.target.Target.TheVariants as target
use Rattle.spec_play.specs.Mixes.{MixedElement, Rendition, rendition, rendition_of_sub_mixes, rendition_of_mix, rendition_of, mix_of, unit_of}
use Rattle.spec_play.specs.DemixingOverTime.{DemixingDefinition, demixing_of, any_parameters, parameters_by, parameters_in}
use Rattle.spec_play.specs.UsedLayers.{used_layers, need_parameters}
use Rattle.spec_play.specs.CodedSamples.{coded_samples}
use Rattle.spec_play.specs.Waves.{outputs_in, output_counts, first_count, channel_count}
use Rattle.spec_play.specs.Selection.{lacks_layer, is_for_other, is_unknown, needs_parameters, has_reserved, has_layer_above, is_gain_above, some_gain, some_element, coded_channels, are_different, tests, rendition_fault}
use Rattle.spec_play.specs.Exact.{Place}
use Rattle.spec_play.specs.FixedMix.{fixed_channel_in, fixed_channel}
use Rattle.spec_play.specs.Laws.{IsHearable, HasChain, HaveChains, IsPlayable}
use Rattle.spec_play.proofs.Tests.{passes, all_pass, neither, Each, each_false, each_front, each_back}
use Rattle.spec_play.proofs.SelectedMixes.{IsSelected, is_selected}

-- ---- of which sub-mix it is

pub record IsOfMix (s : List ObuValue) (played : Target) (r : Rendition) : Type 0 where
  pub sub_mix : SubMixFields
  pub is : r ≡ rendition s played sub_mix

of_sub_mixes : (s : List ObuValue) (played : Target) (sub_mixes : List SubMixFields) (r : Rendition) → rendition_of_sub_mixes s played sub_mixes ≡ Some r → IsOfMix s played r
of_sub_mixes s played [] r e = absurd (cc)
of_sub_mixes s played (m ∷ []) r e = record { sub_mix = m; is = cc }
of_sub_mixes s played (m ∷ n ∷ ms) r e = absurd (cc)

of_some_mix : (s : List ObuValue) (played : Target) (o : Option MixPresentationFields) (r : Rendition) → rendition_of_mix s played o ≡ Some r → IsOfMix s played r
of_some_mix s played None r e = absurd (cc)
of_some_mix s played (Some m) r e = of_sub_mixes s played m.sub_mixes r e

pub of_heard : (s : List ObuValue) (mix : ℕ) (played : Target) (r : Rendition) → rendition_of s mix played ≡ Some r → IsOfMix s played r
unfolding rendition_of
of_heard s mix played r e = of_some_mix s played (mix_of s mix) r e

same_by : (definitions : List DemixingDefinition) (s : List ObuValue) (played : Target) (a b : SubMixFields) (u : ℕ) → parameters_by definitions (rendition s played a) u ≡ parameters_by definitions (rendition s played b) u
same_by [] s played a b u = refl
same_by (d ∷ ds) s played a b u = refl

same_parameters : (s : List ObuValue) (played : Target) (a b : SubMixFields) (element : AudioElementFields) (u : ℕ) → parameters_in (rendition s played a) element u ≡ parameters_in (rendition s played b) element u
unfolding parameters_in
same_parameters s played a b element u = ap (λ p. if need_parameters (used_layers played element.config) then p else any_parameters) (same_by (demixing_of element) s played a b u)

-- the channels of an element are the same in each mix of a sequence
pub same_channel : (s : List ObuValue) (played : Target) (r q : Rendition) (place : Place) (element : AudioElementFields) → IsOfMix s played r → IsOfMix s played q → fixed_channel r place element ≡ fixed_channel q place element
same_channel s played r q place element h k =
    let middle : fixed_channel (rendition s played h.sub_mix) place element ≡ fixed_channel (rendition s played k.sub_mix) place element =
    ap (λ p. fixed_channel_in played element.config p (coded_samples (rendition s played h.sub_mix).codec (unit_of (rendition s played h.sub_mix) place.unit) element place.sample) place.channel) (same_parameters s played h.sub_mix k.sub_mix element place.unit) in
    ap (λ (x : Rendition). fixed_channel x place element) h.is ∙ middle ∙ sym (ap (λ (x : Rendition). fixed_channel x place element) k.is)

-- ---- what the selection says of one element

pub record IsSoundFor (r : Rendition) (element : AudioElementFields) : Type 0 where
  pub hearable : IsHearable r.target
  pub chain : HasChain element.config
  pub there : lacks_layer r.target element.config ≡ false
  pub suits : is_for_other r.target element.config ≡ false
  pub known : is_unknown element.config ≡ false
  pub reserved : (needs_parameters r.target element && list_any (has_reserved r.units) (demixing_of element)) ≡ false
  pub low : has_layer_above r.target element ≡ false

each_got : {A : Type 0} (P : A → Type 0) (xs : List A) (i : ℕ) (x : A) → Each P xs → slice_get xs i ≡ Some x → P x
each_got P [] i x p e = absurd (cc)
each_got P (y ∷ xs) zero x p e = let same : y ≡ x = cc in subst P same p.0
each_got P (y ∷ xs) (suc i) x p e = each_got P xs i x p.1 e

chain_got : (ms : List MixedElement) (i : ℕ) (m : MixedElement) → HaveChains ms → slice_get ms i ≡ Some m → HasChain m.element.config
chain_got [] i m p e = absurd (cc)
chain_got (n ∷ ms) zero m p e = let same : n ≡ m = cc in subst (λ (x : MixedElement). HasChain x.element.config) same p.0
chain_got (n ∷ ms) (suc i) m p e = chain_got ms i m p.1 e

low_layers : (r : Rendition) → rendition_fault r ≡ None → Each (λ m. has_layer_above r.target m.element ≡ false) r.elements
unfolding rendition_fault
low_layers r e =
    let row = all_pass (tests r) e in
    let high = neither (some_gain (is_gain_above r) r) (some_element (has_layer_above r.target) r) (passes (some_gain (is_gain_above r) r || some_element (has_layer_above r.target) r) GainRange row.1.1.1.1.1.1.1.1.1.0) in
    each_false (λ (m : MixedElement). has_layer_above r.target m.element) r.elements high.1

pub sound_at : (r : Rendition) (i : ℕ) (m : MixedElement) → IsPlayable r → slice_get r.elements i ≡ Some m → IsSoundFor r m.element
sound_at r i m p e =
    let s = is_selected r p.selected in
    record {
      hearable = p.hearable;
      chain = chain_got r.elements i m p.chains e;
      there = each_got (λ (x : MixedElement). lacks_layer r.target x.element.config ≡ false) r.elements i m s.layers e;
      suits = each_got (λ (x : MixedElement). is_for_other r.target x.element.config ≡ false) r.elements i m s.others e;
      known = each_got (λ (x : MixedElement). is_unknown x.element.config ≡ false) r.elements i m s.known e;
      reserved = each_got (λ (x : MixedElement). (needs_parameters r.target x.element && list_any (has_reserved r.units) (demixing_of x.element)) ≡ false) r.elements i m s.reserved e;
      low = each_got (λ (x : MixedElement). has_layer_above r.target x.element ≡ false) r.elements i m (low_layers r p.selected) e;
    }

-- ---- how many channels it has

-- those of the layout, or the outputs
abbrev pub own_count : Target → ConfigFields → ℕ
own_count (target.Layer layout) config = length (channels layout)
own_count target.Scene config = first_count (outputs_in config)

all_first : (n : ℕ) (ns : List ℕ) → list_any (λ m. not (m == n)) ns ≡ false → Each (λ m. m ≡ n) ns
all_first n [] e = tt
all_first n (m ∷ ns) e = let two = neither (not (m == n)) (list_any (λ k. not (k == n)) ns) e in (eqb-true m n (not-false (m == n) two.0), all_first n ns two.1)

all_same : (ns : List ℕ) → are_different ns ≡ false → Each (λ m. m ≡ first_count ns) ns
all_same [] e = tt
all_same (n ∷ ns) e = (refl, all_first n ns e)

each_parts : {A B : Type 0} (P : B → Type 0) (f : A → List B) (xs : List A) → Each P (flat_map f xs) → Each (λ x. Each P (f x)) xs
each_parts P f [] p = tt
each_parts P f (x ∷ xs) p = (each_front P (f x) (flat_map f xs) p, each_parts P f xs (each_back P (f x) (flat_map f xs) p))

scene_count : (n : ℕ) (config : ConfigFields) → is_for_other target.Scene config ≡ false → is_unknown config ≡ false → Each (λ m. m ≡ n) (outputs_in config) → n ≡ first_count (outputs_in config)
scene_count n (Scalable layers) suits known all = absurd (cc)
scene_count n (Ambisonics config) suits known all = sym all.0
scene_count n (Other kind bytes) suits known all = absurd (cc)

count_by : (played : Target) (elements : List MixedElement) (i : ℕ) (m : MixedElement) → slice_get elements i ≡ Some m → is_for_other played m.element.config ≡ false → is_unknown m.element.config ≡ false
    → are_different (output_counts elements) ≡ false → channel_count played elements ≡ own_count played m.element.config
count_by (target.Layer layout) elements i m e suits known same = refl
count_by target.Scene elements i m e suits known same =
    let all = each_parts (λ k. k ≡ first_count (output_counts elements)) (λ (x : MixedElement). outputs_in x.element.config) elements (all_same (output_counts elements) same) in
    scene_count (first_count (output_counts elements)) m.element.config suits known (each_got (λ (x : MixedElement). Each (λ k. k ≡ first_count (output_counts elements)) (outputs_in x.element.config)) elements i m all e)

pub count_at : (r : Rendition) (i : ℕ) (m : MixedElement) → IsPlayable r → slice_get r.elements i ≡ Some m → channel_count r.target r.elements ≡ own_count r.target m.element.config
count_at r i m p e = let own = sound_at r i m p e in count_by r.target r.elements i m e own.suits own.known (is_selected r p.selected).counts

part_of_sum : (elements : List MixedElement) (i : ℕ) (m : MixedElement) → slice_get elements i ≡ Some m → unwrap_or (coded_channels_of m.element.config) 0 ≤ coded_channels elements
part_of_sum [] i m e = absurd (cc)
part_of_sum (n ∷ ms) zero m e =
    let same : n ≡ m = cc in
    let own : unwrap_or (coded_channels_of n.element.config) 0 ≡ unwrap_or (coded_channels_of m.element.config) 0 = ap (λ (x : MixedElement). unwrap_or (coded_channels_of x.element.config) 0) same in
    omega (arith, sum_by-first (λ (x : MixedElement). unwrap_or (coded_channels_of x.element.config) 0) n ms)
part_of_sum (n ∷ ms) (suc i) m e =
    let rest = part_of_sum ms i m e in
    omega (arith, sum_by-first (λ (x : MixedElement). unwrap_or (coded_channels_of x.element.config) 0) n ms)

few_coded : (r : Rendition) → IsSelected r → coded_channels r.elements ≤ 28
few_coded r s =
    let large = (neither (is_none_of r.elements) (nat_lt 28 (length r.elements) || nat_lt 28 (coded_channels r.elements)) s.shape).1 in
    ltb-false 28 (coded_channels r.elements) (neither (nat_lt 28 (length r.elements)) (nat_lt 28 (coded_channels r.elements)) large).1

pub few_at : (r : Rendition) (i : ℕ) (m : MixedElement) → IsPlayable r → slice_get r.elements i ≡ Some m → unwrap_or (coded_channels_of m.element.config) 0 ≤ 28
few_at r i m p e = let part = part_of_sum r.elements i m e in let all = few_coded r (is_selected r p.selected) in omega arith
