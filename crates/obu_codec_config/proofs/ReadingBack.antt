-- Records that stand for one entry, with one tail, are the same.
use Rattle.std.proofs.Common.{◌≡◌, ℕ, ◌+◌, Bool, List, [], ◌++◌, Result, Ok, Err, sym, ap, subst, ◌∙◌}
use Rattle.std.specs.Prelude.{MatchResult}
use Rattle.std.proofs.lemmas.List.{append-nil}
use Rattle.spec_bits.specs.Bits.{all_bits}
use Rattle.spec_bits.proofs.ByteForms.{same_bytes}
use Rattle.spec_syntax.specs.Payload.{Payload, IsValid, canon}
use Rattle.spec_descriptors.specs.declared.fault.DescriptorFault.{DescriptorFault}
use Rattle.spec_descriptors.specs.declared.fault.DescriptorFault.TheVariants as fault
use Rattle.spec_descriptors.specs.SequenceHeader.{SequenceHeaderFields, sequence_header}
use Rattle.spec_descriptors.specs.CodecConfig.{StreamInfoFields, CodingFields, Lpcm, Flac, CodecConfigFields, codec_config}
use Rattle.spec_descriptors.specs.DescriptorFields.{sequence_header_fields, codec_config_fields, flac_fields}
use Rattle.spec_descriptors.proofs.SequenceHeaderFields.{sequence_header_syntax}
use Rattle.spec_descriptors.proofs.CodecConfigFields.{codec_config_syntax}
use Rattle.obu_codec_config.specs.declared.sequence_header.SequenceHeader.{SequenceHeader}
use Rattle.obu_codec_config.specs.declared.codec_config.Coding.{Coding}
use Rattle.obu_codec_config.specs.declared.codec_config.Coding.TheVariants as coding
use Rattle.obu_codec_config.specs.declared.codec_config.CodecConfig.{CodecConfig}
use Rattle.obu_codec_config.specs.Payloads.{AnswersPayload, AnswersEntry}
use Rattle.obu_codec_config.specs.HeaderView.{view_header}
use Rattle.obu_codec_config.specs.CodecView.{StandsForFlac, StandsForCoding, StandsForCodec}
use Rattle.obu_codec_config.specs.SameRecord.{SameBytes, SameHeader, SameCoding, SameCodec}
use Rattle.spec_syntax.proofs.PayloadLaws.{written_only, written_reads}
use Rattle.obu_codec_config.proofs.Written.{config_is_written}

-- ---- sequence headers

pub header_back : (h : SequenceHeader) (payload : List ℕ) (answer : Result SequenceHeader DescriptorFault) → IsValid sequence_header sequence_header_fields (view_header h)
    → all_bits payload ≡ canon (sequence_header_fields (view_header h)) ++ all_bits h.tail.now
    → AnswersPayload (λ f. fault.Field f) sequence_header sequence_header_fields view_header (λ k. k.tail.now) answer payload → MatchResult answer (λ k. SameHeader k h) (λ f. ⊥)
header_back h payload (Ok k) valid parts a =
    let only = written_only sequence_header_syntax (view_header h) (view_header k) (all_bits h.tail.now) (all_bits k.tail.now) (all_bits payload) valid parts a in
    record {
      primary = ap (λ (v : SequenceHeaderFields). v.primary_profile) only.entry;
      additional = ap (λ (v : SequenceHeaderFields). v.additional_profile) only.entry;
      tail = λ are are'. same_bytes k.tail.now h.tail.now are are' only.rest;
    }
header_back h payload (Err f) valid parts a = written_reads sequence_header_syntax (view_header h) (all_bits h.tail.now) (all_bits payload) f valid parts a

-- ---- codec configs

flac_parts : (info info' : StreamInfoFields) (others others' : List ℕ) → Flac info others ≡ Flac info' others' → (info ≡ info') × (others ≡ others')
flac_parts info info' others others' e = (cc, cc)

same_flac : (blocks blocks' : List ℕ) (depth depth' rate rate' : ℕ) (c : CodingFields) → StandsForFlac blocks depth rate c → StandsForFlac blocks' depth' rate' c → SameBytes blocks blocks' × (depth ≡ depth') × (rate ≡ rate')
same_flac blocks blocks' depth depth' rate rate' c h k =
    let both = flac_parts h.info k.info h.others k.others (sym h.is ∙ k.is) in (
      λ are are'. same_bytes blocks blocks' are are' (h.blocks_are ∙ ap (λ (i : StreamInfoFields). canon (flac_fields i h.others)) both.0 ∙ ap (λ (o : List ℕ). canon (flac_fields k.info o)) both.1 ∙ sym k.blocks_are),
      h.depth_is ∙ ap (λ (i : StreamInfoFields). i.depth_less_one + 1) both.0 ∙ sym k.depth_is,
      h.rate_is ∙ ap (λ (i : StreamInfoFields). i.sample_rate) both.0 ∙ sym k.rate_is,
    )

same_lpcm : (little little' : Bool) (depth depth' rate rate' : ℕ) → Lpcm little depth rate ≡ Lpcm little' depth' rate' → (little ≡ little') × (depth ≡ depth') × (rate ≡ rate')
same_lpcm little little' depth depth' rate rate' e = (cc, cc, cc)

not_flac : (little : Bool) (depth rate : ℕ) (info : StreamInfoFields) (others : List ℕ) → Lpcm little depth rate ≡ Flac info others → ⊥
not_flac little depth rate info others e = cc

same_coding : (r q : Coding) (c : CodingFields) → StandsForCoding r c → StandsForCoding q c → SameCoding r q
same_coding (coding.Lpcm little depth rate) (coding.Lpcm little' depth' rate') c h k = same_lpcm little little' depth depth' rate rate' (sym h ∙ k)
same_coding (coding.Flac blocks depth rate) (coding.Flac blocks' depth' rate') c h k = same_flac blocks.now blocks'.now depth depth' rate rate' c h k
same_coding (coding.Lpcm little depth rate) (coding.Flac blocks' depth' rate') c h k = not_flac little depth rate k.info k.others (sym h ∙ k.is)
same_coding (coding.Flac blocks depth rate) (coding.Lpcm little' depth' rate') c h k = not_flac little' depth' rate' h.info h.others (sym k ∙ h.is)

pub codec_back : (r : CodecConfig) (c : CodecConfigFields) (payload : List ℕ) (answer : Result CodecConfig DescriptorFault) → StandsForCodec r c → IsValid codec_config codec_config_fields c
    → all_bits payload ≡ canon (codec_config_fields c) ++ all_bits r.tail.now
    → AnswersEntry (λ f. fault.Field f) codec_config codec_config_fields StandsForCodec (λ q. q.tail.now) answer payload → MatchResult answer (λ q. SameCodec q r) (λ f. ⊥)
codec_back r c payload (Ok q) stands valid parts a =
    let only = written_only codec_config_syntax c a.0 (all_bits r.tail.now) (all_bits q.tail.now) (all_bits payload) valid parts a.2 in
    let stands_too : StandsForCodec q c = subst (StandsForCodec q) only.entry a.1 in
    record {
      id = stands_too.id ∙ sym stands.id;
      frame_length = stands_too.frame_length ∙ sym stands.frame_length;
      coding_is = same_coding q.coding r.coding c.coding stands_too.coding_is stands.coding_is;
      tail = λ are are'. same_bytes q.tail.now r.tail.now are are' only.rest;
    }
codec_back r c payload (Err f) stands valid parts a = written_reads codec_config_syntax c (all_bits r.tail.now) (all_bits payload) f valid parts a

pub one_entry : (r : CodecConfig) (c d : CodecConfigFields) → StandsForCodec r c → StandsForCodec r d → IsValid codec_config codec_config_fields c → IsValid codec_config codec_config_fields d → c ≡ d
one_entry r c d h k valid valid' =
    let same : canon (codec_config_fields d) ≡ canon (codec_config_fields c) = sym (config_is_written r d k) ∙ config_is_written r c h in
    let parts : canon (codec_config_fields d) ≡ canon (codec_config_fields c) ++ [] = same ∙ sym (append-nil (canon (codec_config_fields c))) in
    let whole : Payload codec_config (codec_config_fields d) d [] (canon (codec_config_fields d)) =
    record { spelling = canon (codec_config_fields d); stands = valid'; parts = sym (append-nil (canon (codec_config_fields d))) } in
    sym (written_only codec_config_syntax c d [] [] (canon (codec_config_fields d)) valid parts whole).entry
