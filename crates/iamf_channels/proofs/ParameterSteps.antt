-- The demixing parameters of an element from one unit to the next.
use Rattle.std.proofs.Common.{arith, ◌≡◌, ◌<◌, ◌+◌, ℕ, zero, suc, refl, sym, ap, subst, ◌∙◌, true, false, List, [], ◌∷◌, map, take, length, get_or, Option, Some, None, slice_get}
use Rattle.std.specs.Prelude.{IfSome}
use Rattle.std.specs.Option.{option_to_list}
use Rattle.std.specs.List.{list_any}
use Rattle.std.proofs.lemmas.List.Sums.{fold_more}
use Rattle.std.proofs.lemmas.Option.{get_or_from_slice_get}
use Rattle.spec_gains.specs.Modes.{mode_of}
use Rattle.spec_gains.specs.Weights.{weight_of}
use Rattle.spec_descriptors.specs.AudioElement.{AudioElementFields}
use Rattle.spec_sequence.specs.Parts.{UnitValue}
use Rattle.spec_play.specs.Mixes.{Rendition, no_unit, unit_of}
use Rattle.spec_play.specs.DemixingOverTime.{unit_modes, index_after_modes, index_after, any_parameters, defined_parameters, parameters_by, parameters_in, demixing_of}
use Rattle.spec_play.specs.DemixingOverTime as fields
use Rattle.spec_play.specs.Selection.{is_reserved, uses_reserved, has_reserved, needs_parameters}
use Rattle.spec_play.proofs.Tests.{neither, each_false, each_at}
use Rattle.demix_channels.specs.declared.params.DemixParams.{DemixParams}
use Rattle.iamf_elements.specs.declared.demixing.DemixingDefinition.{DemixingDefinition}
use Rattle.iamf_elements.specs.DemixingView.{view_demixing}
use Rattle.iamf_channels.specs.declared.parameters.Demixing.{Demixing}
use Rattle.iamf_channels.specs.Parameters.{AreParameters, HasParameters, AreUnreserved, IsIndex, unit_parameters, HasDemixing}

-- ---- modes

-- the mode that is found in a unit is the first of the unit's modes
pub mode_found : (units : List UnitValue) (id u : ℕ) (unit : UnitValue) (mode : Option ℕ) → slice_get units u ≡ Some unit → option_to_list mode ≡ take 1 (unit_modes id unit) → option_to_list mode ≡ take 1 (unit_modes id (get_or units u no_unit))
mode_found units id u unit mode there is = is ∙ ap (λ (v : UnitValue). take 1 (unit_modes id v)) (sym (get_or_from_slice_get units u unit no_unit there))

pub below_eight : (mode : ℕ) → is_reserved mode ≡ false → mode < 8
below_eight zero e = omega arith
below_eight (suc zero) e = omega arith
below_eight (suc (suc zero)) e = omega arith
below_eight (suc (suc (suc zero))) e = omega arith
below_eight (suc (suc (suc (suc zero)))) e = omega arith
below_eight (suc (suc (suc (suc (suc zero))))) e = omega arith
below_eight (suc (suc (suc (suc (suc (suc zero)))))) e = omega arith
below_eight (suc (suc (suc (suc (suc (suc (suc zero))))))) e = omega arith
below_eight (suc (suc (suc (suc (suc (suc (suc (suc mode)))))))) e = absurd (cc)

pub mode_below : (definition : fields.DemixingDefinition) (modes : List ℕ) (o : Option ℕ) → option_to_list o ≡ take 1 modes → uses_reserved definition modes ≡ false → IfSome o (λ code. code < 8)
mode_below definition modes None is e = tt
mode_below definition [] (Some code) is e = absurd (cc)
mode_below definition (m ∷ modes) (Some code) is e = let same : m ≡ code = cc in subst (λ (k : ℕ). k < 8) same (below_eight m e)

pub index_first : (modes : List ℕ) (o : Option ℕ) (index : ℕ) → option_to_list o ≡ take 1 modes → index_after_modes (option_to_list o) index ≡ index_after_modes modes index
index_first [] o index is = ap (λ (ms : List ℕ). index_after_modes ms index) is
index_first (m ∷ modes) o index is = ap (λ (ms : List ℕ). index_after_modes ms index) is

pub some_unreserved : (definition : fields.DemixingDefinition) (modes : List ℕ) (code : ℕ) → code ∷ [] ≡ take 1 modes → uses_reserved definition modes ≡ false → is_reserved code ≡ false
some_unreserved definition [] code is e = absurd (cc)
some_unreserved definition (m ∷ modes) code is e = let same : m ≡ code = cc in subst (λ (k : ℕ). is_reserved k ≡ false) same e

pub none_unreserved : (definition : fields.DemixingDefinition) (modes : List ℕ) → [] ≡ take 1 modes → uses_reserved definition modes ≡ false → is_reserved definition.mode ≡ false
none_unreserved definition [] is e = e
none_unreserved definition (m ∷ modes) is e = absurd (cc)

pub some_parameters : (definition : DemixingDefinition) (unit : UnitValue) (index code : ℕ) (params : DemixParams) → code ∷ [] ≡ take 1 (unit_modes definition.id unit)
    → mode_of code ≡ Some params.mode → weight_of index ≡ params.weight → AreParameters (unit_parameters unit definition index) params
some_parameters definition unit index code params is mode weight = by (unit_modes definition.id unit) is
  where
    by : (modes : List ℕ) → code ∷ [] ≡ take 1 modes → AreParameters (defined_parameters (view_demixing definition) modes index) params
    by [] e = absurd (cc)
    by (m ∷ modes) e = let same : m ≡ code = cc in record { mode = ap mode_of same ∙ mode; weight = weight }

pub none_parameters : (definition : DemixingDefinition) (unit : UnitValue) (index : ℕ) (params : DemixParams) → [] ≡ take 1 (unit_modes definition.id unit)
    → AreParameters (defined_parameters (view_demixing definition) [] index) params → AreParameters (unit_parameters unit definition index) params
none_parameters definition unit index params is own = by (unit_modes definition.id unit) is
  where
    by : (modes : List ℕ) → [] ≡ take 1 modes → AreParameters (defined_parameters (view_demixing definition) modes index) params
    by [] e = own
    by (m ∷ modes) e = absurd (cc)

-- ---- which definition

by_definition : (definitions : List fields.DemixingDefinition) (d : fields.DemixingDefinition) (r : Rendition) (u : ℕ) → d ∷ [] ≡ take 1 definitions → parameters_by definitions r u ≡ parameters_by (d ∷ []) r u
by_definition [] d r u is = absurd (cc)
by_definition (e ∷ definitions) d r u is = let same : e ≡ d = cc in ap (λ (x : fields.DemixingDefinition). parameters_by (x ∷ []) r u) same

by_none : (definitions : List fields.DemixingDefinition) (r : Rendition) (u : ℕ) → [] ≡ take 1 definitions → parameters_by definitions r u ≡ any_parameters
by_none [] r u is = refl
by_none (e ∷ definitions) r u is = absurd (cc)

needed : (r : Rendition) (element : AudioElementFields) (u : ℕ) → needs_parameters r.target element ≡ true → parameters_in r element u ≡ parameters_by (demixing_of element) r u
unfolding parameters_in
needed r element u e = rw e refl

pub not_needed : (r : Rendition) (element : AudioElementFields) (u : ℕ) → needs_parameters r.target element ≡ false → parameters_in r element u ≡ any_parameters
unfolding parameters_in
not_needed r element u e = rw e refl

pub needed_by : (r : Rendition) (element : AudioElementFields) (o : Option DemixingDefinition) → needs_parameters r.target element ≡ true → map view_demixing (option_to_list o) ≡ take 1 (demixing_of element) → HasParameters r element o
needed_by r element None e is = λ u. needed r element u e ∙ by_none (demixing_of element) r u is
needed_by r element (Some d) e is = λ u. needed r element u e ∙ by_definition (demixing_of element) (view_demixing d) r u is

first_of : (definitions : List fields.DemixingDefinition) (d : fields.DemixingDefinition) (units : List UnitValue) → d ∷ [] ≡ take 1 definitions → list_any (has_reserved units) definitions ≡ false → has_reserved units d ≡ false
first_of [] d units is e = absurd (cc)
first_of (k ∷ definitions) d units is e = let same : k ≡ d = cc in subst (λ (x : fields.DemixingDefinition). has_reserved units x ≡ false) same (neither (has_reserved units k) (list_any (has_reserved units) definitions) e).0

pub all_unreserved : (element : AudioElementFields) (o : Option DemixingDefinition) (units : List UnitValue) → map view_demixing (option_to_list o) ≡ take 1 (demixing_of element) → list_any (has_reserved units) (demixing_of element) ≡ false → AreUnreserved units o
all_unreserved element None units is e = tt
all_unreserved element (Some d) units is e = λ u h.
    let own = first_of (demixing_of element) (view_demixing d) units is e in
    each_at (λ (unit : UnitValue). uses_reserved (view_demixing d) (unit_modes d.id unit) ≡ false) units u no_unit h (each_false (λ (unit : UnitValue). uses_reserved (view_demixing d) (unit_modes d.id unit)) units own)

-- ---- before the first unit

pub first_index : (units : List UnitValue) (o : Option DemixingDefinition) → IsIndex units o 0 0
first_index units None = tt
first_index units (Some d) = refl

pub first_has : (r : Rendition) (element : AudioElementFields) (d : Demixing) → d.index ≡ 0 → HasParameters r element d.definition → AreUnreserved r.units d.definition → AreParameters any_parameters d.params → HasDemixing r element 0 d
first_has r element d zero_is by unreserved any =
    record {
      by = by;
      unreserved = unreserved;
      index = subst (λ (i : ℕ). IsIndex r.units d.definition 0 i) (sym zero_is) (first_index r.units d.definition);
      last = λ u e. absurd (omega arith);
      always = λ e. any;
    }

-- ---- the next unit

pub next_has : (r : Rendition) (element : AudioElementFields) (units : List UnitValue) (u : ℕ) (before after : Demixing) (d : DemixingDefinition) → r.units ≡ units → u < length units → before.definition ≡ Some d → after.definition ≡ Some d
    → after.index ≡ index_after_modes (unit_modes d.id (get_or units u no_unit)) before.index → AreParameters (unit_parameters (get_or units u no_unit) d after.index) after.params → HasDemixing r element u before → HasDemixing r element (u + 1) after
next_has r element units u before after d same there was is index own h =
    let by : HasParameters r element (Some d) = subst (HasParameters r element) was h.by in
    let unreserved : AreUnreserved r.units (Some d) = subst (AreUnreserved r.units) was h.unreserved in
    let old : before.index ≡ index_after d.id (take u r.units) = subst (λ (o : Option DemixingDefinition). IsIndex r.units o u before.index) was h.index in
    let unit_is : get_or units u no_unit ≡ unit_of r u = ap (λ (us : List UnitValue). get_or us u no_unit) (sym same) in
    let within : u < length r.units = subst (λ (us : List UnitValue). u < length us) (sym same) there in
    let more : index_after d.id (take (u + 1) r.units) ≡ index_after_modes (unit_modes d.id (unit_of r u)) (index_after d.id (take u r.units)) =
    fold_more (λ (i : ℕ) (unit : UnitValue). index_after_modes (unit_modes d.id unit) i) 0 r.units u no_unit within in
    let now : after.index ≡ index_after d.id (take (u + 1) r.units) =
    index ∙ ap (λ (x : UnitValue). index_after_modes (unit_modes d.id x) before.index) unit_is ∙ ap (λ (i : ℕ). index_after_modes (unit_modes d.id (unit_of r u)) i) old ∙ sym more in
    let parameters : AreParameters (unit_parameters (unit_of r u) d (index_after d.id (take (u + 1) r.units))) after.params =
    subst (λ (i : ℕ). AreParameters (unit_parameters (unit_of r u) d i) after.params) now (subst (λ (x : UnitValue). AreParameters (unit_parameters x d after.index) after.params) unit_is own) in
    record {
      by = subst (HasParameters r element) (sym is) by;
      unreserved = subst (AreUnreserved r.units) (sym is) unreserved;
      index = subst (λ (o : Option DemixingDefinition). IsIndex r.units o (u + 1) after.index) (sym is) now;
      last = λ v e. let same_unit : u ≡ v = omega arith in
          subst (λ (p : fields.Parameters). AreParameters p after.params) (sym (by v)) (subst (λ (w : ℕ). AreParameters (parameters_by (view_demixing d ∷ []) r w) after.params) same_unit parameters);
      always = λ e. let no : Some d ≡ None = sym is ∙ e in absurd (cc);
    }

pub none_has : (r : Rendition) (element : AudioElementFields) (u : ℕ) (d : Demixing) → d.definition ≡ None → HasDemixing r element u d → HasDemixing r element (u + 1) d
none_has r element u d none h =
    let by : HasParameters r element None = subst (HasParameters r element) none h.by in
    record {
      by = h.by;
      unreserved = h.unreserved;
      index = subst (λ (o : Option DemixingDefinition). IsIndex r.units o (u + 1) d.index) (sym none) tt;
      last = λ v e. subst (λ (p : fields.Parameters). AreParameters p d.params) (sym (by v)) (h.always none);
      always = h.always;
    }
