-- What is written is read again.
use Rattle.std.specs.Prelude.{◌≡◌, ℕ, List, ◌++◌, Result, MatchResult}
use Rattle.spec_bits.specs.Bits.{all_bits}
use Rattle.spec_syntax.specs.Payload.{IsValid, canon}
use Rattle.spec_descriptors.specs.declared.fault.DescriptorFault.{DescriptorFault}
use Rattle.spec_descriptors.specs.declared.fault.DescriptorFault.TheVariants as fault
use Rattle.spec_descriptors.specs.SequenceHeader.{sequence_header}
use Rattle.spec_descriptors.specs.CodecConfig.{CodecConfigFields, codec_config}
use Rattle.spec_descriptors.specs.DescriptorFields.{sequence_header_fields, codec_config_fields}
use Rattle.obu_codec_config.specs.declared.sequence_header.SequenceHeader.{SequenceHeader}
use Rattle.obu_codec_config.specs.declared.codec_config.CodecConfig.{CodecConfig}
use Rattle.obu_codec_config.specs.Payloads.{AnswersPayload, AnswersEntry}
use Rattle.obu_codec_config.specs.HeaderView.{view_header}
use Rattle.obu_codec_config.specs.CodecView.{StandsForCodec}
use Rattle.obu_codec_config.specs.SameRecord.{SameHeader, SameCodec}

-- what is read of these bytes
abbrev pub AnswersHeader : Result SequenceHeader DescriptorFault → List ℕ → Type 0
AnswersHeader = AnswersPayload (λ f. fault.Field f) sequence_header sequence_header_fields view_header (λ h. h.tail.now)

abbrev pub AnswersCodec : Result CodecConfig DescriptorFault → List ℕ → Type 0
AnswersCodec = AnswersEntry (λ f. fault.Field f) codec_config codec_config_fields StandsForCodec (λ r. r.tail.now)

-- A valid record that is written canonically is what is read of these bytes.

abbrev pub HeaderReadsBack : Type 0
HeaderReadsBack = (h : SequenceHeader) (payload : List ℕ) (answer : Result SequenceHeader DescriptorFault) → IsValid sequence_header sequence_header_fields (view_header h)
    → all_bits payload ≡ canon (sequence_header_fields (view_header h)) ++ all_bits h.tail.now → AnswersHeader answer payload → MatchResult answer (λ k. SameHeader k h) (λ f. ⊥)

abbrev pub CodecReadsBack : Type 0
CodecReadsBack = (r : CodecConfig) (c : CodecConfigFields) (payload : List ℕ) (answer : Result CodecConfig DescriptorFault) → StandsForCodec r c → IsValid codec_config codec_config_fields c
    → all_bits payload ≡ canon (codec_config_fields c) ++ all_bits r.tail.now → AnswersCodec answer payload → MatchResult answer (λ q. SameCodec q r) (λ f. ⊥)

-- A record stands for one valid entry.
abbrev pub CodecHasOneEntry : Type 0
CodecHasOneEntry = (r : CodecConfig) (c d : CodecConfigFields) → StandsForCodec r c → StandsForCodec r d → IsValid codec_config codec_config_fields c → IsValid codec_config codec_config_fields d → c ≡ d
