-- The frames of each unit of a sequence are of distinct substreams.
use Rattle.std.proofs.Common.{◌≡◌, ℕ, Bool, true, false, ◌&&◌, cond, eqb, List, [], ◌∷◌, ◌++◌, map, refl, sym, ap, subst, ◌∙◌, append-nil, eqb-true}
use Rattle.std.specs.Prelude.{None}
use Rattle.std.specs.List.{flat_map}
use Rattle.spec_rules.specs.Role.{Role, AudioFrame, FrameRole}
use Rattle.spec_rules.specs.Units.{contains, are_apart, is_data, unit_after, stream_of, placed, in_unit, in_units, streams_in}
use Rattle.spec_rules.specs.Rules.{fault_after}
use Rattle.spec_sequence.specs.Parts.{unit_value}
use Rattle.spec_rules.specs.Admitted.{IsAdmitted}
use Rattle.spec_sequence.specs.Reading.{Entry, values_of, roles}
use Rattle.spec_rules.proofs.NoFault.{frame_none}
use Rattle.spec_sequence.proofs.Roles.{roles_of_values}
use Rattle.spec_rules.proofs.UnitLists.{streams_in-push}
use Rattle.spec_rules.proofs.DistinctIds.{apart_push}
use Rattle.spec_rules.proofs.Lawful.{by_all}
use Rattle.iamf_sequence.proofs.Whole.{streams_are}

abbrev AreApart : List Role → Type 0
AreApart l = (u : ℕ) → are_apart (streams_in u l) ≡ true

frame_more : (u : ℕ) (l : List Role) (f : FrameRole) → are_apart (streams_in u l) ≡ true → fault_after l (AudioFrame f) ≡ None → are_apart (streams_in u (l ++ AudioFrame f ∷ [])) ≡ true
frame_more u l f apart passes = ap are_apart (streams_in-push u l (AudioFrame f)) ∙ one (eqb (unit_after l (AudioFrame f)) u) refl
  where
    one : (b : Bool) → eqb (unit_after l (AudioFrame f)) u ≡ b → are_apart (streams_in u l ++ flat_map stream_of (cond b (AudioFrame f ∷ []) [])) ≡ true
    one true here = apart_push (streams_in u l) f.substream apart (subst (λ v. contains (streams_in v l) f.substream ≡ false) (eqb-true (unit_after l (AudioFrame f)) u here) (frame_none l f passes).1)
    one false other = ap are_apart (append-nil (streams_in u l)) ∙ apart

other_more : (u : ℕ) (l : List Role) (o : Role) → stream_of o ≡ [] → are_apart (streams_in u l) ≡ true → are_apart (streams_in u (l ++ o ∷ [])) ≡ true
other_more u l o none apart = ap are_apart (streams_in-push u l o ∙ ap (λ (ss : List ℕ). streams_in u l ++ ss) (alone (is_data o && eqb (unit_after l o) u)) ∙ append-nil (streams_in u l)) ∙ apart
  where
    alone : (b : Bool) → flat_map stream_of (cond b (o ∷ []) []) ≡ []
    alone true = rw none refl
    alone false = refl

apart_more : (l : List Role) (o : Role) → AreApart l → fault_after l o ≡ None → AreApart (l ++ o ∷ [])
apart_more l (AudioFrame f) apart passes u = frame_more u l f (apart u) passes
apart_more l o apart passes u = other_more u l o refl (apart u)

-- ---- a whole sequence

apart_none : AreApart []
unfolding streams_in in_unit in_units placed
apart_none u = refl

streams_apart : (l : List Role) → IsAdmitted l → AreApart l
streams_apart l admitted = by_all AreApart apart_none (λ before o apart none. apart_more before o apart none.late) l admitted

-- what a sort of each unit asks
pub frames_apart : (l : List Entry) → IsAdmitted (roles l) → (u : ℕ) → are_apart (map (λ f. f.substream) (unit_value u (values_of l)).frames) ≡ true
frames_apart l admitted u = ap are_apart (sym (streams_are u (values_of l)) ∙ ap (streams_in u) (roles_of_values l)) ∙ streams_apart (roles l) admitted u
