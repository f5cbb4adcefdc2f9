-- The units of a sequence once their frames are sorted.
use Rattle.std.proofs.Common.{◌≡◌, ℕ, suc, ◌<◌, true, List, [], ◌∷◌, length, map, get_or, sym, ap, ◌∙◌, arith}
use Rattle.std.proofs.lemmas.List.{get_or-map, length-map}
use Rattle.std.proofs.lemmas.Option.{get_or_from_slice_get}
use Rattle.spec_values.specs.Value.{ObuValue}
use Rattle.spec_sequence.specs.Parts.{UnitValue, unit_value, temporal_units}
use Rattle.spec_sequence.specs.Reading.{Entry, values_of, roles}
use Rattle.spec_rules.specs.Units.{are_apart}
use Rattle.spec_rules.specs.Admitted.{IsAdmitted}
use Rattle.iamf_sequence.specs.declared.unit.Unit.{Unit as Temporal}
use Rattle.iamf_sequence.specs.UnitView.{view_unit, IsUnit, AreUnits}
use Rattle.spec_sequence.proofs.FramesOfUnits.{length-units}
use Rattle.iamf_sequence.proofs.Whole.{unit_is}
use Rattle.iamf_sequence.proofs.Apart.{frames_apart}

-- a unit by its number
pub unit_at : (us : List Temporal) (s : List ObuValue) (i : ℕ) (d : Temporal) → map view_unit us ≡ temporal_units s → i < length us → view_unit (get_or us i d) ≡ unit_value i s
unit_at us s i d are lt =
    sym (get_or-map view_unit us i d (view_unit d) lt) ∙ ap (λ (vs : List UnitValue). get_or vs i (view_unit d)) are
    ∙ get_or_from_slice_get (temporal_units s) i (unit_value i s) (view_unit d) (unit_is s i (omega (arith, sym (length-map us view_unit), ap length are, length-units s)))

-- what a sort of it asks
pub unit_apart : (l : List Entry) (us : List Temporal) (i : ℕ) (d : Temporal) → IsAdmitted (roles l) → map view_unit us ≡ temporal_units (values_of l) → i < length us
    → are_apart (map (λ f. f.substream) (view_unit (get_or us i d)).frames) ≡ true
unit_apart l us i d admitted are lt = ap (λ (v : UnitValue). are_apart (map (λ f. f.substream) v.frames)) (unit_at us (values_of l) i d are lt) ∙ frames_apart l admitted i

-- each was sorted
pub are_units : (old new : List Temporal) → length new ≡ length old → ((i : ℕ) (d : Temporal) → i < length old → IsUnit (get_or new i d) (view_unit (get_or old i d))) → AreUnits new (map view_unit old)
are_units [] [] count each = tt
are_units [] (n ∷ ns) count each = absurd (omega arith)
are_units (u ∷ us) [] count each = absurd (omega arith)
are_units (u ∷ us) (n ∷ ns) count each = (each 0 u (omega arith), are_units us ns (omega arith) (λ i d lt. each (suc i) d (omega arith)))
