-- What a rendition is like that the selection passes.
use Rattle.std.proofs.Common.{◌≡◌, ◌<◌, ◌≤◌, ◌+◌, ℕ, zero, suc, lit≤, refl, Bool, true, false, ◌&&◌, ◌||◌, if◌then◌else◌, List, [], ◌∷◌, length, take, Option, Some, None, is_none, nat_lt, min, slice_index}
use Rattle.std.specs.List.{list_any}
use Rattle.std.proofs.lemmas.Bool.{ltb-false}
use Rattle.spec_gains.specs.declared.DemixMode.{DemixMode}
use Rattle.spec_gains.specs.Modes.{mode_of, IsMode}
use Rattle.spec_gains.specs.Weights.{weights, weight_of}
use Rattle.spec_descriptors.specs.AudioElement.{AudioElementFields}
use Rattle.spec_rules.specs.Units.{is_none_of}
use Rattle.spec_play.specs.declared.fault.PlayFault.TheVariants.{MixShape, NoLayer, SceneTarget, UnknownElement, NoDemix, DemixReserved, GainRange}
use Rattle.spec_play.specs.Mixes.{MixedElement, Rendition, mix_gains, unit_of, no_unit}
use Rattle.spec_play.specs.DemixingOverTime.{DemixingDefinition, demixing_of, unit_modes, index_after, Parameters, defined_parameters, any_parameters, parameters_by, parameters_in}
use Rattle.spec_play.specs.Waves.{output_counts}
use Rattle.spec_play.specs.Selection.{is_unknown, is_for_other, lacks_layer, are_different, needs_parameters, is_reserved, uses_reserved, has_reserved, is_gain_above, has_layer_above, some_gain, some_element, coded_channels, has_other_shape, tests, rendition_fault}
use Rattle.spec_play.proofs.Tests.{passes, all_pass, neither, Each, each_false, each_at}

pub record IsSelected (r : Rendition) : Type 0 where
  pub shape : has_other_shape r ≡ false
  pub layers : Each (λ m. lacks_layer r.target m.element.config ≡ false) r.elements
  pub others : Each (λ m. is_for_other r.target m.element.config ≡ false) r.elements
  pub counts : are_different (output_counts r.elements) ≡ false
  pub known : Each (λ m. is_unknown m.element.config ≡ false) r.elements
  pub defined : Each (λ m. (needs_parameters r.target m.element && is_none_of (demixing_of m.element)) ≡ false) r.elements
  pub reserved : Each (λ m. (needs_parameters r.target m.element && list_any (has_reserved r.units) (demixing_of m.element)) ≡ false) r.elements
  pub gains : Each (λ g. is_gain_above r g ≡ false) (mix_gains r)

pub is_selected : (r : Rendition) → rendition_fault r ≡ None → IsSelected r
unfolding rendition_fault
is_selected r e =
    let row = all_pass (tests r) e in
    let scenes = neither (some_element (λ e. is_for_other r.target e.config) r) (are_different (output_counts r.elements)) (passes (some_element (λ e. is_for_other r.target e.config) r || are_different (output_counts r.elements)) SceneTarget row.1.1.0) in
    let high = neither (some_gain (is_gain_above r) r) (some_element (has_layer_above r.target) r) (passes (some_gain (is_gain_above r) r || some_element (has_layer_above r.target) r) GainRange row.1.1.1.1.1.1.1.1.1.0) in
    record {
      shape = passes (has_other_shape r) MixShape row.0;
      layers = each_false (λ (m : MixedElement). lacks_layer r.target m.element.config) r.elements (passes (some_element (λ e. lacks_layer r.target e.config) r) NoLayer row.1.0);
      others = each_false (λ (m : MixedElement). is_for_other r.target m.element.config) r.elements scenes.0;
      counts = scenes.1;
      known = each_false (λ (m : MixedElement). is_unknown m.element.config) r.elements (passes (some_element (λ e. is_unknown e.config) r) UnknownElement row.1.1.1.0);
      defined = each_false (λ (m : MixedElement). needs_parameters r.target m.element && is_none_of (demixing_of m.element)) r.elements (passes (some_element (λ e. needs_parameters r.target e && is_none_of (demixing_of e)) r) NoDemix row.1.1.1.1.1.0);
      reserved = each_false (λ (m : MixedElement). needs_parameters r.target m.element && list_any (has_reserved r.units) (demixing_of m.element)) r.elements (passes (some_element (λ e. needs_parameters r.target e && list_any (has_reserved r.units) (demixing_of e)) r) DemixReserved row.1.1.1.1.1.1.0);
      gains = each_false (is_gain_above r) (mix_gains r) high.0;
    }

pub few_elements : (r : Rendition) → has_other_shape r ≡ false → length r.elements ≤ 28
few_elements r e =
    let large = (neither (is_none_of r.elements) (nat_lt 28 (length r.elements) || nat_lt 28 (coded_channels r.elements)) e).1 in
    ltb-false 28 (length r.elements) (neither (nat_lt 28 (length r.elements)) (nat_lt 28 (coded_channels r.elements)) large).0

-- ---- demixing parameters

-- they have a mode and a weight of the tables
pub record AreDemixing (p : Parameters) : Type 0 where
  pub mode : DemixMode
  pub mode_is : p.mode ≡ Some mode
  pub listed : IsMode mode
  pub small : p.weight ≤ 5000

weight_at : (i : ℕ) → slice_index weights i ≤ 5000
weight_at zero = lit≤ tt
weight_at (suc zero) = lit≤ tt
weight_at (suc (suc zero)) = lit≤ tt
weight_at (suc (suc (suc zero))) = lit≤ tt
weight_at (suc (suc (suc (suc zero)))) = lit≤ tt
weight_at (suc (suc (suc (suc (suc zero))))) = lit≤ tt
weight_at (suc (suc (suc (suc (suc (suc zero)))))) = lit≤ tt
weight_at (suc (suc (suc (suc (suc (suc (suc zero))))))) = lit≤ tt
weight_at (suc (suc (suc (suc (suc (suc (suc (suc zero)))))))) = lit≤ tt
weight_at (suc (suc (suc (suc (suc (suc (suc (suc (suc zero))))))))) = lit≤ tt
weight_at (suc (suc (suc (suc (suc (suc (suc (suc (suc (suc zero)))))))))) = lit≤ tt
weight_at (suc (suc (suc (suc (suc (suc (suc (suc (suc (suc (suc i))))))))))) = lit≤ tt

small_weight : (index : ℕ) → weight_of index ≤ 5000
small_weight index = weight_at (min index 10)

with_mode : (code weight : ℕ) → is_reserved code ≡ false → weight ≤ 5000 → AreDemixing (record { mode = mode_of code; weight = weight })
with_mode code weight e small = by (mode_of code) refl e
  where
    by : (o : Option DemixMode) → mode_of code ≡ o → is_none o ≡ false → AreDemixing (record { mode = mode_of code; weight = weight })
    by None is none = absurd (cc)
    by (Some mode) is none = record { mode = mode; mode_is = is; listed = (code, is); small = small }

defined_good : (definition : DemixingDefinition) (modes : List ℕ) (index : ℕ) → uses_reserved definition modes ≡ false → AreDemixing (defined_parameters definition modes index)
defined_good definition [] index e = with_mode definition.mode (weight_of definition.weight_index) e (small_weight definition.weight_index)
defined_good definition (mode ∷ modes) index e = with_mode mode (weight_of index) e (small_weight index)

parameters_good : (definitions : List DemixingDefinition) (r : Rendition) (u : ℕ) → u < length r.units → list_any (has_reserved r.units) definitions ≡ false → AreDemixing (parameters_by definitions r u)
parameters_good [] r u h e = with_mode 0 (weight_of 0) refl (small_weight 0)
parameters_good (definition ∷ definitions) r u h e =
    let first = (neither (has_reserved r.units definition) (list_any (has_reserved r.units) definitions) e).0 in
    let here = each_at (λ unit. uses_reserved definition (unit_modes definition.id unit) ≡ false) r.units u no_unit h (each_false (λ unit. uses_reserved definition (unit_modes definition.id unit)) r.units first) in
    defined_good definition (unit_modes definition.id (unit_of r u)) (index_after definition.id (take (u + 1) r.units)) here

pub are_demixing : (r : Rendition) (element : AudioElementFields) (u : ℕ) → u < length r.units
    → (needs_parameters r.target element && list_any (has_reserved r.units) (demixing_of element)) ≡ false → AreDemixing (parameters_in r element u)
unfolding parameters_in
are_demixing r element u h e = by (needs_parameters r.target element) e
  where
    by : (b : Bool) → (b && list_any (has_reserved r.units) (demixing_of element)) ≡ false → AreDemixing (if b then parameters_by (demixing_of element) r u else any_parameters)
    by true e = parameters_good (demixing_of element) r u h e
    by false e = with_mode 0 (weight_of 0) refl (small_weight 0)
