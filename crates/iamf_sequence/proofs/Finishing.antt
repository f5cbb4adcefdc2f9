-- The end of the bytes of a sequence.
use Rattle.std.proofs.Common.{◌≡◌, ℕ, ◌+◌, ◌<◌, ◌≤◌, Bool, true, false, ◌||◌, inl, inr, List, [], ◌∷◌, ◌++◌, map, take, length, get_or, refl, sym, ap, subst, ◌∙◌, arith}
use Rattle.std.specs.Prelude.{None}
use Rattle.std.specs.List.{All}
use Rattle.std.proofs.Common.{get_or-set_same, get_or-set_other, set}
use Rattle.std.proofs.lemmas.Bool.{cases_eq}
use Rattle.std.proofs.Math.Seq.{take-append_seam}
use Rattle.std.proofs.lemmas.List.{get_or_default}
use Rattle.std.proofs.lemmas.List.Elements.{All-get_or}
use Rattle.spec_descriptors.specs.SequenceHeader.{SequenceHeaderFields}
use Rattle.spec_descriptors.specs.CodecConfig.{CodecConfigFields}
use Rattle.spec_descriptors.specs.AudioElement.{AudioElementFields}
use Rattle.spec_descriptors.specs.MixPresentation.{MixPresentationFields}
use Rattle.spec_values.specs.declared.fault.Fault.TheVariants.{UnitShort}
use Rattle.spec_values.specs.Value.{ObuValue}
use Rattle.spec_rules.specs.Role.{Role}
use Rattle.spec_rules.specs.Descriptors.{profiles, codecs, elements, mixes}
use Rattle.spec_rules.specs.Units.{is_none_of}
use Rattle.spec_rules.specs.Rules.{when, lacks_descriptors, has_short_unit, end_fault}
use Rattle.spec_rules.specs.Admitted.{IsAdmitted}
use Rattle.spec_sequence.specs.ValueRole.{role_of_codec}
use Rattle.spec_sequence.specs.Parts.{header_in, codec_in, element_in, mix_in, sequence_headers, codec_configs, audio_elements, mix_presentations, UnitValue, temporal_units}
use Rattle.spec_sequence.specs.Reading.{Entry, values_of, roles}
use Rattle.spec_sequence.proofs.Roles.{roles_of_values}
use Rattle.spec_sequence.proofs.RolesOfParts.{profiles_are, codecs_are}
use Rattle.spec_rules.proofs.Lawful.{start_none, lawful}
use Rattle.obu_descriptors.specs.ElementView.{view_element}
use Rattle.obu_descriptors.specs.declared.audio_element.AudioElement.{AudioElement}
use Rattle.obu_mix.specs.MixView.{view_mix}
use Rattle.obu_mix.specs.declared.mix_presentation.MixPresentation.{MixPresentation}
use Rattle.iamf_sequence.specs.declared.unit.Unit.{Unit as Temporal}
use Rattle.iamf_sequence.specs.UnitView.{view_unit, IsConsistent, AreUnits, SortsTo}
use Rattle.iamf_sequence.specs.Tails.{with_tails}
use Rattle.iamf_sequence.specs.ContentsView.{element_and_tail, mix_and_tail}
use Rattle.iamf_sequence.proofs.WithTails.{headers_are}
use Rattle.iamf_sequence.proofs.WithTails as tails
use Rattle.iamf_sequence.proofs.Sorted.{unit_apart, are_units}

-- ---- the descriptors are there

lacks_none : (l : List Role) → IsAdmitted l → end_fault l ≡ None → lacks_descriptors l ≡ false
unfolding end_fault
lacks_none l admitted h = (start_none l (when (has_short_unit l) UnitShort ∷ []) (lawful l admitted).balanced h).0

two_of : (a b c d : Bool) → (a || b || c || d) ≡ false → (a ≡ false) × (b ≡ false)
two_of true b c d e = absurd cc
two_of false true c d e = absurd cc
two_of false false c d e = (refl, refl)

some_parts : (l : List Role) → lacks_descriptors l ≡ false → (is_none_of (profiles l) ≡ false) × (is_none_of (codecs l) ≡ false)
unfolding lacks_descriptors
some_parts l h = two_of (is_none_of (profiles l)) (is_none_of (codecs l)) (is_none_of (elements l)) (is_none_of (mixes l)) h

none_left : {X : Type 0} (xs : List X) → xs ≡ [] → is_none_of xs ≡ false → ⊥
none_left [] e h = cc
none_left (x ∷ xs) e h = cc

some_header : (l : List Entry) → IsAdmitted (roles l) → end_fault (roles l) ≡ None → sequence_headers (values_of l) ≡ [] → ⊥
some_header l admitted whole none =
    none_left (profiles (roles l)) (ap profiles (sym (roles_of_values l)) ∙ profiles_are (values_of l) ∙ ap (map (λ h. h.primary_profile)) none)
    (some_parts (roles l) (lacks_none (roles l) admitted whole)).0

some_codec : (l : List Entry) → IsAdmitted (roles l) → end_fault (roles l) ≡ None → codec_configs (values_of l) ≡ [] → ⊥
some_codec l admitted whole none =
    none_left (codecs (roles l)) (ap codecs (sym (roles_of_values l)) ∙ codecs_are (values_of l) ∙ ap (λ (cs : List CodecConfigFields). map role_of_codec cs) none)
    (some_parts (roles l) (lacks_none (roles l) admitted whole)).1

-- the same of descriptors with their tails

pub no_header_left : (l : List Entry) → IsAdmitted (roles l) → end_fault (roles l) ≡ None → with_tails header_in (values_of l) ≡ [] → ⊥
no_header_left l admitted whole none = some_header l admitted whole (sym (headers_are (values_of l)) ∙ ap (map (λ (p : SequenceHeaderFields × List ℕ). p.0)) none)

pub no_codec_left : (l : List Entry) → IsAdmitted (roles l) → end_fault (roles l) ≡ None → with_tails codec_in (values_of l) ≡ [] → ⊥
no_codec_left l admitted whole none = some_codec l admitted whole (sym (tails.codecs_are (values_of l)) ∙ ap (map (λ (p : CodecConfigFields × List ℕ). p.0)) none)

pub elements_without : (xs : List AudioElement) (s : List ObuValue) → map element_and_tail xs ≡ with_tails element_in s → map view_element xs ≡ audio_elements s
elements_without xs s are = elements_of xs ∙ ap (map (λ (p : AudioElementFields × List ℕ). p.0)) are ∙ tails.elements_are s where
  elements_of : (ys : List AudioElement) → map view_element ys ≡ map (λ (p : AudioElementFields × List ℕ). p.0) (map element_and_tail ys)
  elements_of [] = refl
  elements_of (y ∷ ys) = ap (λ (zs : List AudioElementFields). view_element y ∷ zs) (elements_of ys)

pub mixes_without : (xs : List MixPresentation) (s : List ObuValue) → map mix_and_tail xs ≡ with_tails mix_in s → map view_mix xs ≡ mix_presentations s
mixes_without xs s are = mixes_of xs ∙ ap (map (λ (p : MixPresentationFields × List ℕ). p.0)) are ∙ tails.mixes_are s where
  mixes_of : (ys : List MixPresentation) → map view_mix ys ≡ map (λ (p : MixPresentationFields × List ℕ). p.0) (map mix_and_tail ys)
  mixes_of [] = refl
  mixes_of (y ∷ ys) = ap (λ (zs : List MixPresentationFields). view_mix y ∷ zs) (mixes_of ys)

-- ---- sorting

pub sorts_more : (old us : List Temporal) (k : ℕ) (e new : Temporal) → k < length us → SortsTo (get_or us k e) new → ((i : ℕ) (d : Temporal) → i < k → SortsTo (get_or old i d) (get_or us i d))
    → ((i : ℕ) (d : Temporal) → k ≤ i → get_or us i d ≡ get_or old i d) → (i : ℕ) (d : Temporal) → i < k + 1 → SortsTo (get_or old i d) (get_or (set us k new) i d)
sorts_more old us k e new lt sorts done rest i d below = elim (cases_eq i k) [
  | inl same ↦
      let before : get_or us k e ≡ get_or old i d = get_or_default us k e d lt ∙ rest k d (omega arith) ∙ ap (λ j. get_or old j d) (sym same) in
      let after : new ≡ get_or (set us k new) i d = sym (ap (λ j. get_or (set us k new) j d) same ∙ get_or-set_same us k new d lt) in
      subst (λ (u : Temporal). SortsTo u (get_or (set us k new) i d)) before (subst (λ (v : Temporal). SortsTo (get_or us k e) v) after sorts)
  | inr other ↦ subst (λ (v : Temporal). SortsTo (get_or old i d) v) (sym (get_or-set_other us k i new d other)) (done i d (omega (arith, below, other)))
]

pub rest_more : (old us : List Temporal) (k : ℕ) (new : Temporal) → ((i : ℕ) (d : Temporal) → k ≤ i → get_or us i d ≡ get_or old i d) → (i : ℕ) (d : Temporal) → k + 1 ≤ i → get_or (set us k new) i d ≡ get_or old i d
rest_more old us k new rest i d after = get_or-set_other us k i new d (λ e. omega (arith, after, e)) ∙ rest i d (omega (arith, after))

pub sorted_units : (l : List Entry) (old new : List Temporal) → length new ≡ length old → ((i : ℕ) (d : Temporal) → i < length old → SortsTo (get_or old i d) (get_or new i d))
    → IsAdmitted (roles l) → map view_unit old ≡ temporal_units (values_of l) → All IsConsistent old → AreUnits new (temporal_units (values_of l))
sorted_units l old new count sorts admitted are consistent =
    subst (λ (vs : List UnitValue). AreUnits new vs) are (are_units old new count (λ i d lt. sorts i d lt (unit_apart l old i d admitted are lt) (All-get_or IsConsistent old i d lt consistent)))

pub refilled : {X : Type 0} (n : ℕ) (new rest : List X) → n ≡ length new → take n (new ++ rest) ≡ new
refilled n new rest e = ap (λ m. take m (new ++ rest)) e ∙ take-append_seam new rest
