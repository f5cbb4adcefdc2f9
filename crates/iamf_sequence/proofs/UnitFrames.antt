-- The frames of a sequence's temporal units, by its OBUs.
use Rattle.std.proofs.Common.{◌≡◌, ℕ, ◌<◌, Bool, true, false, cond, eqb, List, [], ◌∷◌, ◌||◌, map, refl, sym, ap, subst, ◌∙◌}
use Rattle.std.specs.Prelude.{Some, None, is_some, slice_get}
use Rattle.std.proofs.lemmas.Option.{same_Some}
use Rattle.spec_rules.specs.Role.{Role}
use Rattle.spec_rules.specs.Descriptors.{substreams}
use Rattle.spec_rules.specs.Units.{contains, streams_in, unit_count}
use Rattle.spec_sequence.specs.Parts.{roles_of, FrameValue, UnitValue, unit_value, temporal_units}
use Rattle.spec_sequence.specs.Reading.{Entry, values_of, roles}
use Rattle.spec_sequence.proofs.Roles.{roles_of_values}
use Rattle.iamf_sequence.specs.UnitView.{frame_with}
use Rattle.spec_rules.specs.Admitted.{IsAdmitted}
use Rattle.spec_rules.specs.Rules.{end_fault}
use Rattle.iamf_sequence.proofs.Whole.{streams_are, unit_is}
use Rattle.spec_rules.proofs.CompleteUnits.{streams_of_unit}

frame_there : (s : ℕ) (fs : List FrameValue) → is_some (frame_with s fs) ≡ contains (map (λ f. f.substream) fs) s
frame_there s [] = refl
frame_there s (f ∷ fs) = one (eqb f.substream s) (frame_there s fs) where
  one : (b : Bool) → is_some (frame_with s fs) ≡ contains (map (λ f. f.substream) fs) s → is_some (cond b (Some f) (frame_with s fs)) ≡ (b || contains (map (λ f. f.substream) fs) s)
  one true rest = refl
  one false rest = rest

pub unit_complete : (l : List Entry) (u : ℕ) (v : UnitValue) (s : ℕ) → u < unit_count (roles l) → IsAdmitted (roles l) → end_fault (roles l) ≡ None → slice_get (temporal_units (values_of l)) u ≡ Some v
    → is_some (frame_with s v.frames) ≡ contains (substreams (roles l)) s
unit_complete l u v s begun admitted whole there =
    let begun_values : u < unit_count (roles_of (values_of l)) = subst (λ (ls : List Role). u < unit_count ls) (sym (roles_of_values l)) begun in
    let same : unit_value u (values_of l) ≡ v = same_Some (unit_value u (values_of l)) v (sym (unit_is (values_of l) u begun_values) ∙ there) in
    let streams : streams_in u (roles l) ≡ map (λ f. f.substream) v.frames =
    ap (streams_in u) (sym (roles_of_values l)) ∙ streams_are u (values_of l) ∙ ap (λ (w : UnitValue). map (λ f. f.substream) w.frames) same in
    frame_there s v.frames ∙ ap (λ (xs : List ℕ). contains xs s) (sym streams) ∙ streams_of_unit (roles l) u s admitted whole begun
