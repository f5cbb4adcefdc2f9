-- What is kept stands for one more OBU.
use Rattle.std.proofs.Common.{◌≡◌, ◌<◌, ◌^◌, ℕ, true, inl, inr, List, [], ◌∷◌, ◌++◌, length, refl, sym, ap, subst, ◌∙◌, arith}
use Rattle.std.proofs.lemmas.List.{length-map}
use Rattle.spec_obu.specs.declared.obu_type.ObuType.TheVariants.{Reserved}
use Rattle.std.specs.Prelude.{Option, Some, None}
use Rattle.spec_rules.specs.declared.codec_role.CodecRole.{CodecRole}
use Rattle.spec_rules.specs.Role.{Role, Ignored, SequenceHeader, CodecConfig, AudioElement, MixPresentation, Delimiter, ParameterBlock, AudioFrame}
use Rattle.spec_rules.specs.Descriptors.{codec_of, codecs, channels_in, pairs_of, channels_of}
use Rattle.spec_rules.specs.Rules.{fault_before, fault_after}
use Rattle.spec_rules.proofs.NoFault.{codec_none}
use Rattle.spec_rules.proofs.DescriptorLists.{codecs-push, codecs-push_none}
use Rattle.spec_sequence.specs.ValueRole.{role}
use Rattle.spec_sequence.specs.Reading.{Entry, roles, values_of}
use Rattle.spec_sequence.proofs.Roles.{roles_more, redundant_role}
use Rattle.spec_sequence.proofs.FixedContext.{keeps-push}
use Rattle.obu_header.specs.declared.view.ObuView.{ObuView}
use Rattle.iamf_bits.specs.Rows.{Rows}
use Rattle.iamf_rules.specs.Standing.{Stands as RulesStand}
use Rattle.iamf_rules.proofs.OneMore.{stands-ignored}
use Rattle.iamf_copies.specs.Standing.{Stands as CopiesStand}
use Rattle.iamf_report.specs.TallyView.{Stands as TallyStands}
use Rattle.iamf_rules.specs.Coding.{HasRoom, IsDepth, IsChannels, IsCoded}
use Rattle.iamf_admission.specs.declared.kept.Kept.{Kept}
use Rattle.iamf_admission.specs.Taking.{IsNext, MakesRoom}
use Rattle.iamf_admission.specs.Standing.{FramesLast, IsSound, Stands}
use Rattle.iamf_admission.proofs.CopiesAdmitted.{ignored_passes}
use Rattle.iamf_admission.proofs.TallyMore.{more}
use Rattle.iamf_admission.proofs.ChannelCounts.{in_pairs, one_more}

-- ---- frames that last, and that can be decoded

last_more : (cs ds : List CodecRole) → FramesLast cs → FramesLast ds → FramesLast (cs ++ ds)
last_more [] ds f g = g
last_more (c ∷ cs) ds f g = f

sound_last : (o : Role) → IsSound o → FramesLast (codec_of o)
sound_last (CodecConfig c) h = h.0
sound_last (AudioElement e) h = tt
sound_last Ignored h = tt
sound_last (SequenceHeader p) h = tt
sound_last (MixPresentation m) h = tt
sound_last Delimiter h = tt
sound_last (ParameterBlock b) h = tt
sound_last (AudioFrame f) h = tt

pub last_after : (l : List Role) (o : Role) → FramesLast (codecs l) → IsSound o → FramesLast (codecs (l ++ o ∷ []))
last_after l o last sound = subst FramesLast (sym (codecs-push l o)) (last_more (codecs l) (codec_of o) last (sound_last o sound))

-- without a codec config nothing changes of the codecs and the room
quiet : (old new : Option Rows) (l : List Role) (o : Role) → codec_of o ≡ [] → new ≡ old → ((s n : ℕ) → channels_in (pairs_of o) s ≡ Some n → IsChannels n) → IsCoded old l → IsCoded new (l ++ o ∷ [])
quiet old new l o none same known coded = record {
  depth = λ c is. coded.depth c (sym before ∙ is);
  channels = λ s n e. elim (one_more l o s n e) [ inl there ↦ coded.channels s n there | inr here ↦ known s n here ];
  room = λ c is flac. subst (λ (p : Option Rows). HasRoom p c.frame_length) (sym same) (coded.room c (sym before ∙ is) flac);
}
  where
    before : codecs (l ++ o ∷ []) ≡ codecs l
    before = codecs-push_none l o none

one_of : (cs : List CodecRole) (c d : CodecRole) → cs ≡ [] → cs ++ c ∷ [] ≡ d ∷ [] → c ≡ d
one_of [] c d e is = cc
one_of (x ∷ xs) c d e is = absurd cc

pub coded_after : (old new : Option Rows) (l : List Role) (o : Role) → fault_after l o ≡ None → IsSound o → MakesRoom old new o → IsCoded old l → IsCoded new (l ++ o ∷ [])
coded_after old new l (CodecConfig x) late sound room coded = record {
  depth = λ c is flac. subst (λ (d : CodecRole). IsDepth d.depth) (same c is) (sound.1 (ap (λ (d : CodecRole). d.codec) (same c is) ∙ flac));
  channels = λ s n e. elim (one_more l (CodecConfig x) s n e) [ inl there ↦ coded.channels s n there | inr here ↦ absurd cc ];
  room = λ c is flac. subst (λ (d : CodecRole). HasRoom new d.frame_length) (same c is) (room (ap (λ (d : CodecRole). d.codec) (same c is) ∙ flac));
}
  where
    same : (c : CodecRole) → codecs (l ++ CodecConfig x ∷ []) ≡ c ∷ [] → x ≡ c
    same c is = one_of (codecs l) x c (codec_none l x late) (sym (codecs-push l (CodecConfig x)) ∙ is)
coded_after old new l (AudioElement e) late sound room coded = quiet old new l (AudioElement e) refl room (λ s n h. in_pairs e.substreams e.channels s n sound h) coded
coded_after old new l Ignored late sound room coded = quiet old new l Ignored refl room (λ s n h. absurd cc) coded
coded_after old new l (SequenceHeader p) late sound room coded = quiet old new l (SequenceHeader p) refl room (λ s n h. absurd cc) coded
coded_after old new l (MixPresentation m) late sound room coded = quiet old new l (MixPresentation m) refl room (λ s n h. absurd cc) coded
coded_after old new l Delimiter late sound room coded = quiet old new l Delimiter refl room (λ s n h. absurd cc) coded
coded_after old new l (ParameterBlock b) late sound room coded = quiet old new l (ParameterBlock b) refl room (λ s n h. absurd cc) coded
coded_after old new l (AudioFrame f) late sound room coded = quiet old new l (AudioFrame f) refl room (λ s n h. absurd cc) coded

-- ---- none, and one more

pub last_none : FramesLast (codecs [])
unfolding codecs
last_none = tt

pub coded_none : (planes : Option Rows) → IsCoded planes []
unfolding codecs channels_of
coded_none planes = record { depth = λ c is. absurd cc; channels = λ s n e. absurd cc; room = λ c is. absurd cc }

-- what is kept of one more OBU, by its parts
pub record Grows (k new : Kept) (past : List Entry) (e : Entry) : Type 0 where
  pub rules : RulesStand new.rules (roles past ++ role e.value ∷ [])
  pub copies : CopiesStand new.copies (past ++ e ∷ [])
  pub tally : TallyStands new.tally (values_of (past ++ e ∷ []))
  pub sound : IsSound (role e.value)
  pub room : MakesRoom k.planes new.planes (role e.value)

pub stands_more : (k new : Kept) (past : List Entry) (view : ObuView) (e : Entry) → Stands k past → IsNext past view e → Grows k new past e → Stands new (past ++ e ∷ [])
stands_more k new past view e st next grows = record {
  rules = subst (λ (l : List Role). RulesStand new.rules l) (sym (roles_more past e)) grows.rules;
  copies = grows.copies;
  tally = grows.tally;
  keeps = keeps-push past e st.keeps next.payload_is next.admissible;
  coded = subst (λ (l : List Role). IsCoded new.planes l) (sym (roles_more past e)) (coded_after k.planes new.planes (roles past) (role e.value) next.admissible.late grows.sound grows.room st.coded);
  last = subst (λ (l : List Role). FramesLast (codecs l)) (sym (roles_more past e)) (last_after (roles past) (role e.value) st.last grows.sound);
}

ignored_before : (l : List Role) → fault_before l Reserved ≡ None
unfolding fault_before
ignored_before l = refl

-- a redundant copy changes nothing
pub copy_grows : (k : Kept) (past : List Entry) (e : Entry) → Stands k past → length past < 2 ^ 40 → e.value.head.redundant ≡ true → CopiesStand k.copies (past ++ e ∷ []) → TallyStands k.tally (values_of past ++ e.value ∷ [])
    → Grows k k past e
copy_grows k past e st few redundant copies tally = record {
  rules = subst (λ (o : Role). RulesStand k.rules (roles past ++ o ∷ [])) (sym is) (stands-ignored k.rules (roles past) st.rules (omega (arith, few, length-map past (λ e. role e.value))) (record { early = ignored_before (roles past); late = ignored_passes (roles past) }));
  copies = copies;
  tally = more k.tally past e tally;
  sound = subst IsSound (sym is) tt;
  room = subst (λ (o : Role). MakesRoom k.planes k.planes o) (sym is) refl;
}
  where
    is : role e.value ≡ Ignored
    is = redundant_role e.value redundant
