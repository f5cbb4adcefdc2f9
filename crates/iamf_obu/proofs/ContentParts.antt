-- The two parts of a payload: the fields, and the bytes after them.
use Rattle.std.proofs.Common.{◌≡◌, ℕ, List, ◌++◌, Box, Global, Result, Ok, Err, refl, sym, ap, subst, ◌∙◌, append_assoc}
use Rattle.std.specs.Prelude.{IfOk}
use Rattle.spec_bits.specs.Bits.{Bits, all_bits}
use Rattle.spec_bits.proofs.BitsLaws.{all_bits-append}
use Rattle.spec_syntax.specs.Payload.{FieldValue, canon}
use Rattle.spec_values.specs.Content as said
use Rattle.spec_values.specs.Content.{fields_of}
use Rattle.spec_descriptors.specs.CodecConfig.{CodecConfigFields}
use Rattle.spec_descriptors.specs.DescriptorFields.{sequence_header_fields, codec_config_fields}
use Rattle.spec_descriptors.specs.ElementFields.{audio_element_fields}
use Rattle.spec_descriptors.specs.MixFields.{mix_presentation_fields}
use Rattle.spec_blocks.specs.BlockFieldLists.{block_fields, frame_fields}
use Rattle.obu_codec_config.specs.declared.sequence_header.SequenceHeader.{SequenceHeader as Header}
use Rattle.obu_codec_config.specs.declared.codec_config.CodecConfig.{CodecConfig as Codec}
use Rattle.obu_descriptors.specs.declared.audio_element.AudioElement.{AudioElement as Element}
use Rattle.obu_mix.specs.declared.mix_presentation.MixPresentation.{MixPresentation as Mix}
use Rattle.obu_data.specs.declared.parameter_block.ParameterBlock.{ParameterBlock as Block}
use Rattle.obu_data.specs.declared.frame.FrameView.{FrameView as Frame}
use Rattle.obu_codec_config.specs.HeaderView.{view_header}
use Rattle.obu_codec_config.specs.CodecView.{StandsForCodec}
use Rattle.obu_descriptors.specs.ElementView.{view_element}
use Rattle.obu_mix.specs.TagView.{tags_bytes}
use Rattle.obu_mix.specs.MixView.{view_mix, tags_in}
use Rattle.obu_data.specs.BlockView.{view_block, bytes_after}
use Rattle.iamf_obu.specs.declared.content.Content.{Content}
use Rattle.iamf_obu.specs.declared.content.Content.TheVariants.{SequenceHeader, CodecConfig, AudioElement, MixPresentation, ParameterBlock, TemporalDelimiter, AudioFrame, Reserved}
use Rattle.iamf_obu.specs.ContentWriting.{rest_bytes, SpellsPayload, SpellsFront}

-- the fields, and the tail after them
pub fields_and_tail : (front rest : List ℕ) (fields : List FieldValue) (kind : ℕ) (c d : said.Content) (tail : List ℕ) → all_bits front ≡ canon fields → c ≡ d → fields_of kind d ≡ fields → tail ≡ rest
    → all_bits (front ++ rest) ≡ canon (fields_of kind c) ++ all_bits tail
fields_and_tail front rest fields kind c d tail bits is same tail_is =
    all_bits-append front rest ∙ ap (λ (b : Bits). b ++ all_bits rest) (bits ∙ ap canon (sym same) ∙ ap (λ (x : said.Content). canon (fields_of kind x)) (sym is)) ∙ ap (λ (t : List ℕ). canon (fields_of kind c) ++ all_bits t) (sym tail_is)

-- the fields, more bytes, and the rest of the tail
pub fields_and_more : (front more rest : List ℕ) (fields : List FieldValue) (kind : ℕ) (c d : said.Content) (tail : List ℕ) → all_bits front ≡ canon fields ++ all_bits more → c ≡ d → fields_of kind d ≡ fields → tail ≡ more ++ rest
    → all_bits (front ++ rest) ≡ canon (fields_of kind c) ++ all_bits tail
fields_and_more front more rest fields kind c d tail bits is same tail_is =
    all_bits-append front rest ∙ ap (λ (b : Bits). b ++ all_bits rest) bits ∙ append_assoc (canon fields) (all_bits more) (all_bits rest)
    ∙ ap (λ (b : Bits). canon fields ++ b) (sym (all_bits-append more rest))
    ∙ ap (λ (xs : List FieldValue). canon xs ++ all_bits (more ++ rest)) (sym same) ∙ ap (λ (x : said.Content). canon (fields_of kind x) ++ all_bits (more ++ rest)) (sym is)
    ∙ ap (λ (t : List ℕ). canon (fields_of kind c) ++ all_bits t) (sym tail_is)

-- ---- of each kind: what is written before the rest

pub header_front : {V E : Type 0} (items : V → List ℕ) (content : Content) (h : Header) (r : Result V E) → content ≡ SequenceHeader h → IfOk r (λ v. all_bits (items v) ≡ canon (sequence_header_fields (view_header h)))
    → IfOk r (λ v. SpellsFront content (items v))
header_front items content h (Ok v) is bits =
    subst (λ (x : Content). SpellsFront x (items v)) (sym is) (λ kind c tail holds. fields_and_tail (items v) h.tail.now _ kind c (said.Header (view_header h)) tail bits holds.0 refl holds.1)
header_front items content h (Err e) is bits = tt

pub codec_front : {V E : Type 0} (items : V → List ℕ) (content : Content) (q : Codec) (r : Result V E) → content ≡ CodecConfig q → IfOk r (λ v. (c : CodecConfigFields) → StandsForCodec q c → all_bits (items v) ≡ canon (codec_config_fields c))
    → IfOk r (λ v. SpellsFront content (items v))
codec_front items content q (Ok v) is bits =
    subst (λ (x : Content). SpellsFront x (items v)) (sym is) (λ kind c tail holds. fields_and_tail (items v) q.tail.now _ kind c (said.Codec holds.0) tail (bits holds.0 holds.1) holds.3 refl holds.4)
codec_front items content q (Err e) is bits = tt

pub element_front : {V E : Type 0} (items : V → List ℕ) (content : Content) (e : Box Element Global) (r : Result V E) → content ≡ AudioElement e → IfOk r (λ v. all_bits (items v) ≡ canon (audio_element_fields (view_element e.value)))
    → IfOk r (λ v. SpellsFront content (items v))
element_front items content e (Ok v) is bits =
    subst (λ (x : Content). SpellsFront x (items v)) (sym is) (λ kind c tail holds. fields_and_tail (items v) e.value.tail.now _ kind c (said.Element (view_element e.value)) tail bits holds.0 refl holds.1)
element_front items content e (Err f) is bits = tt

pub mix_front : {V E : Type 0} (items : V → List ℕ) (content : Content) (m : Box Mix Global) (r : Result V E) → content ≡ MixPresentation m
    → IfOk r (λ v. all_bits (items v) ≡ canon (mix_presentation_fields (view_mix m.value)) ++ all_bits (tags_bytes (tags_in m.value))) → IfOk r (λ v. SpellsFront content (items v))
mix_front items content m (Ok v) is bits =
    subst (λ (x : Content). SpellsFront x (items v)) (sym is) (λ kind c tail holds. fields_and_more (items v) (tags_bytes (tags_in m.value)) m.value.tail.now _ kind c (said.Mix (view_mix m.value)) tail bits holds.0 refl holds.1)
mix_front items content m (Err f) is bits = tt

pub block_front : {V E : Type 0} (items : V → List ℕ) (content : Content) (b : Block) (r : Result V E) → content ≡ ParameterBlock b → IfOk r (λ v. all_bits (items v) ≡ canon (block_fields (view_block b)))
    → IfOk r (λ v. SpellsFront content (items v))
block_front items content b (Ok v) is bits =
    subst (λ (x : Content). SpellsFront x (items v)) (sym is) (λ kind c tail holds. fields_and_tail (items v) (bytes_after b) _ kind c (said.Block (view_block b)) tail bits holds.0 refl holds.1)
block_front items content b (Err f) is bits = tt

-- ---- the whole payload

pub frame_spells : (kind : ℕ) (content : Content) (f : Frame) (front rest : List ℕ) → content ≡ AudioFrame f → all_bits front ≡ canon (frame_fields kind f.substream) → rest ≡ f.bytes.now → SpellsPayload kind content front rest
frame_spells kind content f front rest is bits same =
    subst (λ (x : Content). SpellsPayload kind x front rest) (sym is) (λ c tail holds. fields_and_tail front rest _ kind c (said.Frame f.substream) tail bits holds.0 refl (holds.1 ∙ sym same))

pub front_spells : (kind : ℕ) (content : Content) (front given rest : List ℕ) → ((f : Frame) → content ≡ AudioFrame f → ⊥) → SpellsFront content front → given ≡ front → rest ≡ rest_bytes content → SpellsPayload kind content given rest
front_spells kind content front given rest other spells same is =
    subst (λ (b : List ℕ). SpellsPayload kind content given b) (sym is) (subst (λ (b : List ℕ). SpellsPayload kind content b (rest_bytes content)) (sym same) (go content other spells))
  where
    go : (x : Content) → ((f : Frame) → x ≡ AudioFrame f → ⊥) → SpellsFront x front → SpellsPayload kind x front (rest_bytes x)
    go (SequenceHeader h) other s = s kind
    go (CodecConfig q) other s = s kind
    go (AudioElement e) other s = s kind
    go (MixPresentation m) other s = s kind
    go (ParameterBlock b) other s = s kind
    go (TemporalDelimiter bytes) other s = s kind
    go (AudioFrame f) other s = absurd (other f refl)
    go (Reserved bytes) other s = s kind
