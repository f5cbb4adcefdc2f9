-- What a sequence holds, by the OBUs that it is made of.
use Rattle.std.proofs.Common.{◌≡◌, ℕ, zero, suc, ◌<◌, List, [], ◌∷◌, length, get_or, map, refl, sym, ap, subst, ◌∙◌, arith}
use Rattle.std.specs.Prelude.{Some, slice_get, option_map}
use Rattle.std.proofs.lemmas.Option.{slice_get-map, slice_get-get_or}
use Rattle.std.specs.List.{All}
use Rattle.std.proofs.lemmas.List.{length-map}
use Rattle.std.proofs.lemmas.List.Elements.{All-get_or}
use Rattle.spec_rules.specs.Units.{unit_count}
use Rattle.spec_sequence.specs.Parts.{UnitValue, audio_elements, mix_presentations, temporal_units}
use Rattle.spec_sequence.specs.Reading.{Entry, values_of, roles}
use Rattle.spec_sequence.proofs.Roles.{roles_of_values}
use Rattle.obu_header.specs.declared.view.ObuView.{ObuView}
use Rattle.obu_descriptors.specs.ElementView.{view_element}
use Rattle.obu_descriptors.specs.declared.audio_element.AudioElement.{AudioElement}
use Rattle.iamf_sequence.specs.ContentsView.{IsElement}
use Rattle.obu_mix.specs.MixView.{view_mix}
use Rattle.iamf_sequence.specs.declared.unit.Unit as temporal
use Rattle.iamf_sequence.specs.declared.parts.Placed.{Placed}
use Rattle.iamf_sequence.specs.declared.parts.Parts.{Parts}
use Rattle.iamf_sequence.specs.UnitView.{IsUnit, AreUnits}
use Rattle.iamf_sequence.specs.SequenceValue.{SequenceValue}
use Rattle.iamf_sequence.specs.SequenceView.{AreViews, views_of, IsSequence}
use Rattle.spec_sequence.proofs.FramesOfUnits.{length-units}

-- ---- how many there are

views_length : (os : List ObuView) (es : List Entry) → AreViews os es → length os ≡ length es
views_length [] [] h = refl
views_length [] (e ∷ es) h = absurd h
views_length (o ∷ os) [] h = absurd h
views_length (o ∷ os) (e ∷ es) h = ap suc (views_length os es h.2)

pub same_length : (us : List temporal.Unit) (vs : List UnitValue) → AreUnits us vs → length us ≡ length vs
same_length [] [] h = refl
same_length [] (v ∷ vs) h = absurd h
same_length (u ∷ us) [] h = absurd h
same_length (u ∷ us) (v ∷ vs) h = ap suc (same_length us vs h.1)

pub obus_counted : (p : Parts) (v : SequenceValue) → IsSequence p v → length p.obus.items ≡ length v.entries
obus_counted p v s = sym (length-map p.obus.items (λ (o : Placed). o.view)) ∙ views_length (views_of p.obus.items) v.entries s.views

pub units_counted : (p : Parts) (v : SequenceValue) → IsSequence p v → length p.units.items ≡ unit_count (roles v.entries)
units_counted p v s = same_length p.units.items (temporal_units (values_of v.entries)) s.units ∙ length-units (values_of v.entries) ∙ ap unit_count (roles_of_values v.entries)

pub elements_counted : (p : Parts) (v : SequenceValue) → IsSequence p v → length p.elements.items ≡ length (audio_elements (values_of v.entries))
elements_counted p v s = sym (length-map p.elements.items view_element) ∙ ap length s.elements

pub mixes_counted : (p : Parts) (v : SequenceValue) → IsSequence p v → length p.mixes.items ≡ length (mix_presentations (values_of v.entries))
mixes_counted p v s = sym (length-map p.mixes.items view_mix) ∙ ap length s.mixes

-- ---- an element of a list by its number

pub found_at : {X Y : Type 0} (f : X → Y) (xs zs : List X) (ys : List Y) (i : ℕ) (x : X) → zs ≡ xs → x ≡ get_or zs i x → i < length xs → map f xs ≡ ys → slice_get ys i ≡ Some (f x)
found_at {X} {Y} f xs zs ys i x same is below are =
    ap (λ (l : List Y). slice_get l i) (sym are) ∙ slice_get-map f xs i
    ∙ ap (option_map f) (slice_get-get_or xs i x below ∙ ap Some (sym (is ∙ ap (λ (l : List X). get_or l i x) same)))

pub valid_at : (xs ys : List AudioElement) (i : ℕ) (x : AudioElement) → ys ≡ xs → x ≡ get_or ys i x → i < length xs → All IsElement xs → IsElement x
valid_at xs ys i x same is below valid = subst IsElement (sym (is ∙ ap (λ (zs : List AudioElement). get_or zs i x) same)) (All-get_or IsElement xs i x below valid)

-- ---- a unit by its number

unit_at : (us : List temporal.Unit) (vs : List UnitValue) (u : ℕ) (d : temporal.Unit) → AreUnits us vs → u < length us → (v : UnitValue) × (slice_get vs u ≡ Some v) × IsUnit (get_or us u d) v
unit_at [] vs u d h below = absurd (omega arith)
unit_at (x ∷ us) [] u d h below = absurd h
unit_at (x ∷ us) (v ∷ vs) zero d h below = (v, refl, h.0)
unit_at (x ∷ us) (v ∷ vs) (suc u) d h below = unit_at us vs u d h.1 (omega arith)

pub unit_found : (p : Parts) (v : SequenceValue) (us : List temporal.Unit) (u : ℕ) (x d : temporal.Unit) → us ≡ p.units.items → x ≡ get_or us u d → u < unit_count (roles v.entries) → IsSequence p v
    → (w : UnitValue) × (slice_get (temporal_units (values_of v.entries)) u ≡ Some w) × IsUnit x w
unit_found p v us u x d are is below s =
    subst (λ (y : temporal.Unit). (w : UnitValue) × (slice_get (temporal_units (values_of v.entries)) u ≡ Some w) × IsUnit y w) (sym (is ∙ ap (λ (ys : List temporal.Unit). get_or ys u d) are))
    (unit_at p.units.items (temporal_units (values_of v.entries)) u d s.units (subst (λ n. u < n) (sym (units_counted p v s)) below))
