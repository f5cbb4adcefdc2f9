-- The lines of the report on one more OBU.
use Rattle.std.proofs.Common.{Box, Global, ◌≡◌, ℕ, List, [], ◌∷◌, ◌++◌, inr, refl, sym, subst, ◌∙◌}
use Rattle.spec_obu.specs.declared.obu_type.ObuType.{ObuType}
use Rattle.spec_obu.specs.declared.obu_type.ObuType.TheVariants as types
use Rattle.spec_values.specs.Content as said
use Rattle.spec_values.specs.Value.{ObuValue}
use Rattle.spec_rules.specs.Admitted.{HasNoFault}
use Rattle.spec_rules.specs.Role.{Role}
use Rattle.spec_sequence.specs.ValueRole.{role}
use Rattle.spec_sequence.specs.Parts.{roles_of}
use Rattle.spec_sequence.specs.Reading.{Entry, values_of}
use Rattle.spec_sequence.specs.Reading as reading
use Rattle.spec_sequence.proofs.Roles.{values_more, roles_of_values}
use Rattle.spec_sequence.proofs.RedundantCopies.{plain_of}
use Rattle.obu_descriptors.specs.declared.audio_element.AudioElement.{AudioElement}
use Rattle.obu_codec_config.specs.declared.codec_config.CodecConfig.{CodecConfig}
use Rattle.obu_codec_config.specs.declared.sequence_header.SequenceHeader.{SequenceHeader}
use Rattle.obu_mix.specs.declared.mix_presentation.MixPresentation.{MixPresentation}
use Rattle.obu_mix.specs.MixView.{tags_in, tail_of, IsValidMix}
use Rattle.obu_mix.specs.TagView.{IsTagged}
use Rattle.obu_mix.proofs.TagsOfTail.{is_tagged}
use Rattle.iamf_obu.specs.declared.content.Content.{Content}
use Rattle.iamf_obu.specs.declared.content.Content.TheVariants as contents
use Rattle.iamf_obu.specs.ContentView.{type_in}
use Rattle.iamf_report.specs.Standing.{Says, IsDescriptor, IsOther}
use Rattle.iamf_report.specs.TallyView.{Stands as TallyStands}
use Rattle.iamf_report.specs.declared.tally.Tally.{Tally}
use Rattle.iamf_admission.specs.Taking.{IsSaid}

pub faultless : (past : List Entry) (e : Entry) → HasNoFault (reading.roles past) (role e.value) → HasNoFault (roles_of (values_of past)) (role e.value)
faultless past e h = subst (λ (l : List Role). HasNoFault l (role e.value)) (sym (roles_of_values past)) h

pub more : (t : Tally) (past : List Entry) (e : Entry) → TallyStands t (values_of past ++ e.value ∷ []) → TallyStands t (values_of (past ++ e ∷ []))
more t past e h = subst (λ (s : List ObuValue). TallyStands t s) (sym (values_more past e)) h

-- an OBU of a type that is not reserved
pub says : (content : Content) (past : List Entry) (e : Entry) (t : ObuType) (c : said.Content) → IsSaid content past e → type_in content ≡ t → (t ≡ types.Reserved → ⊥) → e.value.content ≡ c → Says e.value c
says content past e t c is type other same = record { plain = plain_of e.value.head t is.plain (sym type ∙ is.obu_type) other; content_is = same }

pub tagged : (m : MixPresentation) (tail : List ℕ) → IsValidMix m → tail ≡ tail_of m → IsTagged (tags_in m) m.tail.now tail
tagged m tail valid same = subst (λ (bytes : List ℕ). IsTagged (tags_in m) m.tail.now bytes) (sym same) (is_tagged (tags_in m) m.tail.now valid.tags)

-- an OBU that is no descriptor
abbrev pub IsNoDescriptor : Content → Type 0
IsNoDescriptor (contents.SequenceHeader h) = ⊥
IsNoDescriptor (contents.CodecConfig r) = ⊥
IsNoDescriptor (contents.AudioElement e) = ⊥
IsNoDescriptor (contents.MixPresentation m) = ⊥
IsNoDescriptor _ = Unit {0}

pub no_descriptor : (content : Content) → ((h : SequenceHeader) → content ≡ contents.SequenceHeader h → ⊥) → ((r : CodecConfig) → content ≡ contents.CodecConfig r → ⊥) → ((x : Box AudioElement Global) → content ≡ contents.AudioElement x → ⊥)
    → ((m : Box MixPresentation Global) → content ≡ contents.MixPresentation m → ⊥) → IsNoDescriptor content
no_descriptor (contents.SequenceHeader h) header codec element mix = header h refl
no_descriptor (contents.CodecConfig r) header codec element mix = codec r refl
no_descriptor (contents.AudioElement x) header codec element mix = element x refl
no_descriptor (contents.MixPresentation m) header codec element mix = mix m refl
no_descriptor (contents.ParameterBlock b) header codec element mix = tt
no_descriptor (contents.TemporalDelimiter bytes) header codec element mix = tt
no_descriptor (contents.AudioFrame f) header codec element mix = tt
no_descriptor (contents.Reserved bytes) header codec element mix = tt

pub other : (content : Content) (past : List Entry) (e : Entry) → IsSaid content past e → IsNoDescriptor content → IsOther e.value
other (contents.ParameterBlock b) past e is none = inr (λ d. subst IsDescriptor is.holds.0 d)
other (contents.TemporalDelimiter bytes) past e is none = inr (λ d. subst IsDescriptor is.holds.0 d)
other (contents.AudioFrame f) past e is none = inr (λ d. subst IsDescriptor is.holds.0 d)
other (contents.Reserved bytes) past e is none = inr (λ d. subst IsDescriptor is.holds.0 d)
other (contents.SequenceHeader h) past e is none = absurd none
other (contents.CodecConfig r) past e is none = absurd none
other (contents.AudioElement x) past e is none = absurd none
other (contents.MixPresentation m) past e is none = absurd none
