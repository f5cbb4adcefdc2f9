-- Lists that are admitted one by one: what holds of each of them.
use Rattle.std.proofs.Common.{◌≡◌, ℕ, ◌+◌, ◌-◌, ◌<◌, Bool, true, false, not, ◌&&◌, ◌||◌, ltb, List, [], ◌∷◌, ◌++◌, refl, sym, ap, ◌∙◌, subst, append_assoc, append-nil, true≢false, arith}
use Rattle.std.specs.Prelude.{Option, None}
use Rattle.std.specs.List.{list_any}
use Rattle.std.proofs.lemmas.Bool.{or_parts, not-false}
use Rattle.spec_obu.specs.declared.obu_type.ObuType.TheVariants as obu_type
use Rattle.spec_obu.specs.declared.trim.Trim.{Trim}
use Rattle.spec_values.specs.declared.fault.Fault.{Fault}
use Rattle.spec_values.specs.declared.fault.Fault.TheVariants.{Incomplete, NoMixFits}
use Rattle.spec_rules.specs.Role.{Role, Ignored, SequenceHeader, CodecConfig, AudioElement, MixPresentation, Delimiter, ParameterBlock, AudioFrame, ElementRole, FrameRole}
use Rattle.spec_rules.specs.Descriptors.{profiles, codecs, elements, mixes, substreams, frame_length}
use Rattle.spec_rules.specs.Profile.{has_fit}
use Rattle.spec_rules.specs.Units.{contains, are_apart, is_none_of, is_data, is_delimited, open_unit, unit_after, streams_in, trims_in, trims_before, is_complete}
use Rattle.spec_rules.specs.Rules.{first_of, is_out_of_order, lacks_descriptors, start_tests, same_trim, keeps, cuts, fault_before, fault_after}
use Rattle.spec_rules.specs.Admitted.{HasNoFault, AdmittedAfter, IsAdmitted}
use Rattle.spec_rules.proofs.NoFault.{when_none, header_before, codec_before, element_before, mix_before, element_none, delimiter_none, frame_none}
use Rattle.spec_rules.proofs.Basics.{any-push_none}
use Rattle.spec_rules.proofs.Ranks.{no_data-order, order_parts}
use Rattle.spec_rules.proofs.Placing.{is_delimited-kept, unit_after-other}
use Rattle.spec_rules.proofs.DescriptorLists.{profiles-push_none, mixes-push_none, substreams-push, substreams-more}
use Rattle.spec_rules.proofs.DistinctIds.{apart_unrepeated}
use Rattle.spec_rules.proofs.Balance.{IsBalanced, balanced-block, balanced-frame, balanced-ignored, balanced-delimiter, balanced-none}
use Rattle.spec_rules.proofs.Orderly.{IsOrderly, orderly-none, orderly-ignored, orderly-block, orderly-delimiter, orderly-frame}
use Rattle.spec_rules.proofs.Delimiters.{ended_is, some_delimiter}
use Rattle.spec_rules.proofs.UnitCount.{IsCounted, counted-none, counted-ignored, counted-block, counted-delimiter, counted-frame}

-- ---- a data OBU stands after all descriptors

abbrev pub IsWhole : List Role → Type 0
IsWhole l = (lacks_descriptors l ≡ false) × (has_fit l ≡ true)

pub start_none : (l : List Role) (rows : List (Option Fault)) → IsBalanced l → first_of (start_tests l ++ rows) ≡ None → IsWhole l
start_none l rows balanced h =
    let lacks = when_none (not (list_any is_data l) && lacks_descriptors l) Incomplete _ h in
    let fits = when_none (not (list_any is_data l) && not (has_fit l)) NoMixFits rows lacks.1 in
    one (list_any is_data l) balanced.started lacks.0 fits.0 where
      one : (b : Bool) → (b ≡ true → IsWhole l) → (not b && lacks_descriptors l) ≡ false → (not b && not (has_fit l)) ≡ false → IsWhole l
      one true started x y = started refl
      one false started x y = (x, not-false (has_fit l) y)

block_before : (l : List Role) → IsBalanced l → fault_before l obu_type.ParameterBlock ≡ None → IsWhole l
unfolding fault_before
block_before l balanced h = start_none l [] balanced h

delimiter_before : (l : List Role) → IsBalanced l → fault_before l obu_type.TemporalDelimiter ≡ None → IsWhole l
unfolding fault_before
delimiter_before l balanced h = start_none l [] balanced h

frame_before : (l : List Role) → IsBalanced l → fault_before l obu_type.AudioFrame ≡ None → IsWhole l
unfolding fault_before
frame_before l balanced h = start_none l [] balanced h

-- ---- a descriptor stands before all data OBUs

pub no_data-header : (l : List Role) → IsBalanced l → is_none_of (profiles l) ≡ true → list_any is_data l ≡ false
unfolding lacks_descriptors
no_data-header l balanced none = one (list_any is_data l) balanced.started where
  one : (b : Bool) → (b ≡ true → IsWhole l) → b ≡ false
  one false started = refl
  one true started = absurd (true≢false (ap (λ h. h || is_none_of (codecs l) || is_none_of (elements l) || is_none_of (mixes l)) (sym none) ∙ (started refl).0))

pub no_data-push : (l : List Role) (o : Role) → is_data o ≡ false → list_any is_data l ≡ false → list_any is_data (l ++ o ∷ []) ≡ false
no_data-push l o quiet none = any-push_none is_data l o quiet ∙ none

-- ---- what a fault that does not come tells of the open unit

complete_before : (l : List Role) → fault_after l Delimiter ≡ None → list_any is_data l ≡ true → is_complete (open_unit l) l ≡ true
complete_before l h has =
    let none = delimiter_none l h in
    let before : is_delimited l ≡ true = sym (is_delimited-kept l (Delimiter ∷ []) has) ∙ none.0 in
    subst (λ (u : ℕ). is_complete u l ≡ true) (ended_is l before has) (not-false (is_complete (unit_after l Delimiter - 1) l) (sym (ap (λ b. b && not (is_complete (unit_after l Delimiter - 1) l)) (some_delimiter l before)) ∙ none.1))

abbrev too_long : List Role → Trim → Bool
too_long l trim = ltb (frame_length l) (trim.start + trim.end)

abbrev is_other : List Role → ℕ → Trim → Bool
is_other l u trim = list_any (λ other. not (same_trim other trim)) (trims_in u l)

abbrev is_early : List Role → ℕ → Trim → Bool
is_early l u trim = ltb 0 trim.start && list_any (keeps (frame_length l)) (trims_before u l)

pub record FrameIsNew (l : List Role) (f : FrameRole) : Type 0 where
  pub known : contains (substreams l) f.substream ≡ true
  pub new : contains (streams_in (open_unit l) l) f.substream ≡ false
  pub alike : list_any (λ other. not (same_trim other f.trim)) (trims_in (open_unit l) l) ≡ false

pub frame_is_new : (l : List Role) (f : FrameRole) → fault_after l (AudioFrame f) ≡ None → FrameIsNew l f
frame_is_new l f h =
    let u : ℕ = unit_after l (AudioFrame f) in
    let none = frame_none l f h in
    let three : (too_long l f.trim || is_other l u f.trim || is_early l u f.trim) ≡ false = (or_parts _ (list_any cuts (trims_before u l)) none.2).0 in
    let two : (too_long l f.trim || is_other l u f.trim) ≡ false = (or_parts _ (is_early l u f.trim) three).0 in
    record {
      known = none.0;
      new = rw (← unit_after-other l (AudioFrame f) refl) none.1;
      alike = rw (← unit_after-other l (AudioFrame f) refl) ((or_parts (too_long l f.trim) (is_other l u f.trim) two).1);
    }

-- ---- the law: each list that is admitted is balanced and orderly

pub record Lawful (l : List Role) : Type 0 where
  pub balanced : IsBalanced l
  pub orderly : IsOrderly l
  pub counted : IsCounted l

lawful-header : (l : List Role) (p : ℕ) → Lawful l → fault_before l obu_type.SequenceHeader ≡ None → Lawful (l ++ SequenceHeader p ∷ [])
lawful-header l p law h =
    let none : is_none_of (profiles l) ≡ true = header_before l h in
    let no_data : list_any is_data (l ++ SequenceHeader p ∷ []) ≡ false = no_data-push l (SequenceHeader p) refl (no_data-header l law.balanced none) in
    record {
      balanced = balanced-none (l ++ SequenceHeader p ∷ []) no_data;
      orderly = orderly-none (l ++ SequenceHeader p ∷ []) no_data (λ _. mixes-push_none l (SequenceHeader p) refl ∙ law.orderly.headed none) (ap are_apart (substreams-push l (SequenceHeader p) refl) ∙ law.orderly.apart);
      counted = counted-none (l ++ SequenceHeader p ∷ []) no_data;
    }

headed_still : (l : List Role) (o : Role) (r : ℕ) → is_out_of_order l r ≡ false → profiles (l ++ o ∷ []) ≡ profiles l → is_none_of (profiles (l ++ o ∷ [])) ≡ true → mixes (l ++ o ∷ []) ≡ []
headed_still l o r order same h = absurd (true≢false (sym h ∙ ap (λ (ps : List ℕ). is_none_of ps) same ∙ (order_parts l r order).0))

lawful-descriptor : (l : List Role) (o : Role) (r : ℕ) → r < 5 → is_out_of_order l r ≡ false → is_data o ≡ false → profiles (l ++ o ∷ []) ≡ profiles l → are_apart (substreams (l ++ o ∷ [])) ≡ true → Lawful (l ++ o ∷ [])
lawful-descriptor l o r small order quiet same apart =
    let no_data : list_any is_data (l ++ o ∷ []) ≡ false = no_data-push l o quiet (no_data-order l r small order) in
    record { balanced = balanced-none (l ++ o ∷ []) no_data; orderly = orderly-none (l ++ o ∷ []) no_data (headed_still l o r order same) apart; counted = counted-none (l ++ o ∷ []) no_data }

pub apart-element : (l : List Role) (e : ElementRole) → IsOrderly l → fault_after l (AudioElement e) ≡ None → are_apart (substreams (l ++ AudioElement e ∷ [])) ≡ true
apart-element l e orderly h = ap are_apart (substreams-more l (AudioElement e)) ∙ apart_unrepeated (substreams l) e.substreams orderly.apart (element_none l e h).1

lawful-step : (l : List Role) (o : Role) → Lawful l → HasNoFault l o → Lawful (l ++ o ∷ [])
lawful-step l Ignored law h = record { balanced = balanced-ignored l law.balanced; orderly = orderly-ignored l law.orderly; counted = counted-ignored l law.counted }
lawful-step l (SequenceHeader p) law h = lawful-header l p law h.early
lawful-step l (CodecConfig c) law h = lawful-descriptor l (CodecConfig c) 2 (omega arith) (codec_before l h.early) refl (profiles-push_none l (CodecConfig c) refl) (ap are_apart (substreams-push l (CodecConfig c) refl) ∙ law.orderly.apart)
lawful-step l (AudioElement e) law h = lawful-descriptor l (AudioElement e) 3 (omega arith) (element_before l h.early) refl (profiles-push_none l (AudioElement e) refl) (apart-element l e law.orderly h.late)
lawful-step l (MixPresentation m) law h = lawful-descriptor l (MixPresentation m) 4 (omega arith) (mix_before l h.early) refl (profiles-push_none l (MixPresentation m) refl) (ap are_apart (substreams-push l (MixPresentation m) refl) ∙ law.orderly.apart)
lawful-step l Delimiter law h =
    let with : is_delimited (l ++ Delimiter ∷ []) ≡ true = (delimiter_none l h.late).0 in
    record { balanced = balanced-delimiter l law.balanced (delimiter_before l law.balanced h.early) with (complete_before l h.late); orderly = orderly-delimiter l law.balanced law.orderly with; counted = counted-delimiter l with }
lawful-step l (ParameterBlock b) law h = record { balanced = balanced-block l b law.balanced (block_before l law.balanced h.early); orderly = orderly-block l b law.orderly; counted = counted-block l b }
lawful-step l (AudioFrame f) law h =
    let parts : FrameIsNew l f = frame_is_new l f h.late in
    record { balanced = balanced-frame l f law.balanced (frame_before l law.balanced h.early) parts.known parts.new; orderly = orderly-frame l f law.balanced law.orderly parts.known parts.new; counted = counted-frame l f law.balanced parts.known parts.new }

-- what each OBU without a fault keeps holds of an admitted list
by_each : (P : List Role → Type 0) → ((l : List Role) (o : Role) → P l → HasNoFault l o → P (l ++ o ∷ [])) → (l os : List Role) → P l → AdmittedAfter l os → P (l ++ os)
by_each P step l [] holds h = rw (append-nil) holds
by_each P step l (o ∷ os) holds h = rw (← append_assoc l (o ∷ []) os) (by_each P step (l ++ o ∷ []) os (step l o holds h.0) h.1)

pub by_all : (P : List Role → Type 0) → P [] → ((l : List Role) (o : Role) → P l → HasNoFault l o → P (l ++ o ∷ [])) → (l : List Role) → IsAdmitted l → P l
unfolding IsAdmitted
by_all P none step l h = by_each P step [] l none h

lawful-nil : Lawful []
unfolding profiles mixes substreams
lawful-nil = record { balanced = balanced-none [] refl; orderly = orderly-none [] refl (λ _. refl) refl; counted = counted-none [] refl }

pub lawful : (l : List Role) → IsAdmitted l → Lawful l
lawful l h = by_all Lawful lawful-nil lawful-step l h

-- ---- one more OBU

admitted_after-push : (l os : List Role) (o : Role) → AdmittedAfter l os → HasNoFault (l ++ os) o → AdmittedAfter l (os ++ o ∷ [])
admitted_after-push l [] o h none = (rw (← append-nil l) none, tt)
admitted_after-push l (x ∷ xs) o h none = (h.0, admitted_after-push (l ++ x ∷ []) xs o h.1 (rw (append_assoc l (x ∷ []) xs) none))

pub admitted-push : (l : List Role) (o : Role) → IsAdmitted l → HasNoFault l o → IsAdmitted (l ++ o ∷ [])
unfolding IsAdmitted
admitted-push l o h none = admitted_after-push [] l o h none
