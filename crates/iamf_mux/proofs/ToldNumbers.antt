-- What one more OBU tells of the samples.
use Rattle.std.proofs.Common.{◌≡◌, ℕ, Bool, true, false, List, [], ◌∷◌, ◌++◌, refl, sym, ap, subst, ◌∙◌}
use Rattle.std.specs.Prelude.{Option, Some, None, unwrap_or, if◌then◌else◌}
use Rattle.std.proofs.lemmas.Bool.{and_parts}
use Rattle.spec_obu.specs.Header.{is_copy}
use Rattle.spec_rules.specs.declared.codec_role.CodecRole.{CodecRole}
use Rattle.spec_rules.specs.Role.{Role, Ignored}
use Rattle.spec_rules.specs.Descriptors.{codecs, codec_of}
use Rattle.spec_rules.specs.Rules.{rate_of}
use Rattle.spec_rules.specs.Units.{is_data, unit_after}
use Rattle.spec_rules.specs.Admitted.{IsAdmitted}
use Rattle.spec_rules.proofs.Placing.{unit_count-none}
use Rattle.spec_rules.proofs.DescriptorLists.{codecs-push, codecs-push_none}
use Rattle.spec_values.specs.Value.{ObuValue}
use Rattle.spec_sequence.specs.ValueRole.{role}
use Rattle.spec_sequence.specs.Parts.{FrameValue, UnitValue, frame_of, units_up_to, temporal_units}
use Rattle.spec_sequence.specs.Reading.{Entry, values_of, roles}
use Rattle.spec_sequence.proofs.Roles.{roles_more, values_more}
use Rattle.iamf_obu.specs.declared.content.Content.{Content}
use Rattle.iamf_admission.specs.Numbers.{number_after}
use Rattle.iamf_admission.specs.Taking.{IsSaid}
use Rattle.iamf_sequence.specs.ContentsView.{HasNoLater}
use Rattle.iamf_sequence.specs.UnitView.{opened, change_last}
use Rattle.iamf_sequence.proofs.Parting.{units-quiet, with_obu, later-none, later-quiet, put_into}
use Rattle.iamf_mux.specs.declared.numbers.Starts.{Starts}
use Rattle.iamf_mux.specs.declared.numbers.Numbers.{Numbers}
use Rattle.iamf_mux.specs.NumbersView.{AreStarts, AreNumbers}
use Rattle.iamf_mux.specs.Rates.{first_rate}
use Rattle.iamf_mux.specs.Trims.{first_start, AddsFrames}

-- ---- the sample rate

codecs_more : (past : List Entry) (e : Entry) → codecs (roles (past ++ e ∷ [])) ≡ codecs (roles past) ++ codec_of (role e.value)
codecs_more past e = ap codecs (roles_more past e) ∙ codecs-push (roles past) (role e.value)

first_stays : (n : ℕ) (cs ds : List CodecRole) → Some n ≡ first_rate cs → Some n ≡ first_rate (cs ++ ds)
first_stays n [] ds is = absurd cc
first_stays n (c ∷ cs) ds is = is

first_comes : (cs ds : List CodecRole) → None ≡ first_rate cs → first_rate (cs ++ ds) ≡ first_rate ds
first_comes [] ds is = refl
first_comes (c ∷ cs) ds is = absurd cc

pub rate_stays : (n : ℕ) (past : List Entry) (e : Entry) → Some n ≡ first_rate (codecs (roles past)) → Some n ≡ first_rate (codecs (roles (past ++ e ∷ [])))
rate_stays n past e is = first_stays n (codecs (roles past)) (codec_of (role e.value)) is ∙ ap first_rate (sym (codecs_more past e))

pub rate_comes : (told : Option ℕ) (past : List Entry) (e : Entry) → None ≡ first_rate (codecs (roles past)) → first_rate (codec_of (role e.value)) ≡ told → told ≡ first_rate (codecs (roles (past ++ e ∷ [])))
rate_comes told past e none is = sym is ∙ sym (first_comes (codecs (roles past)) (codec_of (role e.value)) none) ∙ ap first_rate (sym (codecs_more past e))

pub rate_is : (cs : List CodecRole) → unwrap_or (first_rate cs) 0 ≡ rate_of cs
rate_is [] = refl
rate_is (c ∷ cs) = refl

-- ---- the number of its unit

numbered : (l : List Role) (o : Role) (u : ℕ) → Some u ≡ number_after l o → (is_data o ≡ true) × (u ≡ unit_after l o)
numbered l o u is = one (is_data o) (unit_after l o) is where
  one : (b : Bool) (n : ℕ) → Some u ≡ (if b then Some n else None) → (b ≡ true) × (u ≡ n)
  one true n e = (refl, cc)
  one false n e = absurd cc

unnumbered : (l : List Role) (o : Role) → None ≡ number_after l o → is_data o ≡ false
unnumbered l o is = one (is_data o) (unit_after l o) is where
  one : (b : Bool) (n : ℕ) → (let none : Option ℕ = None in none) ≡ (if b then Some n else None) → b ≡ false
  one true n e = absurd cc
  one false n e = refl

-- ---- none, and one more

no_units : temporal_units [] ≡ []
unfolding temporal_units
no_units = ap (λ n. units_up_to n []) (unit_count-none [] refl)

no_rate : None ≡ first_rate (codecs (roles []))
unfolding codecs
no_rate = refl

pub none_told : (n : Numbers) → n.sample_rate ≡ None → AreStarts n.starts [] → AreNumbers n []
none_told n rate are = record { rate = rate ∙ no_rate; starts_are = subst (AreStarts n.starts) (sym no_units) are; later = later-none }

adds_frames : (o : ObuValue) → AddsFrames (with_obu o) (frame_of o)
unfolding with_obu
adds_frames o v = refl

-- what a data OBU adds to the starts of units
abbrev pub AddsStart : Starts → Starts → ℕ → Option ℕ → Type 0
AddsStart old new unit start =
    (us : List UnitValue) (fs : List FrameValue) (change : UnitValue → UnitValue) → AreStarts old us → first_start fs ≡ start → AddsFrames change fs → AreStarts new (change_last change (opened unit us))

pub data_told : (old new : Numbers) (content : Content) (unit : ℕ) (start : Option ℕ) (past : List Entry) (e : Entry) → AreNumbers old past → IsAdmitted (roles past) → IsSaid content past e → Some unit ≡ number_after (roles past) (role e.value)
    → new.sample_rate ≡ first_rate (codecs (roles (past ++ e ∷ []))) → AddsStart old.starts new.starts unit start → first_start (frame_of e.value) ≡ start → AreNumbers new (past ++ e ∷ [])
data_told old new content unit start past e are admitted said number rate adds is =
    let at = numbered (roles past) (role e.value) unit number in
    let put = put_into past e.value unit at.0 admitted said.faultless (λ some. at.1) are.later in
    record {
      rate = rate;
      starts_are = subst (AreStarts new.starts) (sym (ap temporal_units (values_more past e) ∙ put.units)) (adds (temporal_units (values_of past)) (frame_of e.value) (with_obu e.value) are.starts_are is (adds_frames e.value));
      later = subst HasNoLater (sym (values_more past e)) put.later;
    }

quiet_more : (old new : Numbers) (past : List Entry) (e : Entry) → AreNumbers old past → is_data (role e.value) ≡ false → new.sample_rate ≡ first_rate (codecs (roles (past ++ e ∷ []))) → new.starts ≡ old.starts → AreNumbers new (past ++ e ∷ [])
quiet_more old new past e are quiet rate same = record {
  rate = rate;
  starts_are = subst (λ (t : Starts). AreStarts t (temporal_units (values_of (past ++ e ∷ [])))) (sym same)
      (subst (AreStarts old.starts) (sym (ap temporal_units (values_more past e) ∙ units-quiet (values_of past) e.value quiet)) are.starts_are);
  later = subst HasNoLater (sym (values_more past e)) (later-quiet (values_of past) e.value quiet are.later);
}

pub quiet_told : (old new : Numbers) (past : List Entry) (e : Entry) → AreNumbers old past → None ≡ number_after (roles past) (role e.value) → new.sample_rate ≡ first_rate (codecs (roles (past ++ e ∷ []))) → new.starts ≡ old.starts
    → AreNumbers new (past ++ e ∷ [])
quiet_told old new past e are number rate same = quiet_more old new past e are (unnumbered (roles past) (role e.value) number) rate same

-- a redundant copy
pub copy_told : (n : Numbers) (past : List Entry) (e : Entry) → is_copy e.value.head ≡ true → AreNumbers n past → AreNumbers n (past ++ e ∷ [])
copy_told n past e copy are =
    let ignored : role e.value ≡ Ignored = rw ((and_parts e.value.head.redundant _ copy).0) refl in
    quiet_more n n past e are (ap is_data ignored)
    (are.rate ∙ ap first_rate (sym (ap codecs (roles_more past e) ∙ codecs-push_none (roles past) (role e.value) (ap codec_of ignored)))) refl
