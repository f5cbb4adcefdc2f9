-- What is written of a valid content is a payload that says it.
use Rattle.std.proofs.Common.{◌≡◌, ℕ, List, ◌++◌, refl, sym, subst}
use Rattle.spec_bits.specs.Bits.{AreBytes, all_bits}
use Rattle.spec_bits.proofs.ByteForms.{same_bytes}
use Rattle.spec_syntax.specs.Payload.{canon}
use Rattle.spec_obu.specs.declared.obu_type.ObuType.{ObuType}
use Rattle.spec_obu.specs.Kinds.{obu_type_of}
use Rattle.spec_values.specs.Content as said
use Rattle.spec_values.specs.Content.{Context, Says, PayloadOf, fields_of}
use Rattle.obu_codec_config.specs.HeaderView.{view_header}
use Rattle.obu_descriptors.specs.ElementView.{view_element}
use Rattle.obu_mix.specs.MixView.{view_mix, tail_of}
use Rattle.obu_data.specs.BlockView.{view_block, bytes_after}
use Rattle.iamf_obu.specs.declared.content.Content.{Content}
use Rattle.iamf_obu.specs.declared.content.Content.TheVariants.{SequenceHeader, CodecConfig, AudioElement, MixPresentation, ParameterBlock, TemporalDelimiter, AudioFrame, Reserved}
use Rattle.iamf_obu.specs.ContentView.{type_in, Holds, IsValidContent}

-- the bytes are the canonical fields of the content and then its tail
abbrev pub AreFields : ℕ → List ℕ → said.Content → List ℕ → Type 0
AreFields kind v c tail = all_bits v ≡ canon (fields_of kind c) ++ all_bits tail

says_here : (context : Context) (kind : ℕ) (content : Content) (c : said.Content) (tail v : List ℕ) → IsValidContent context kind content → Holds content c tail → AreFields kind v c tail → AreBytes v → AreBytes tail
    → Says context kind (type_in content) c tail v
says_here context kind (SequenceHeader h) c tail v valid holds bits are tail_is =
    let P : said.Content → Type 0 = λ x. AreFields kind v x tail → Says context kind (type_in (SequenceHeader h)) x tail v in
    subst P (sym holds.0) (λ b. record { spelling = canon (fields_of kind (said.Header (view_header h))); stands = valid; parts = b }) bits
says_here context kind (CodecConfig r) c tail v valid holds bits are tail_is =
    let P : said.Content → Type 0 = λ x. AreFields kind v x tail → Says context kind (type_in (CodecConfig r)) x tail v in
    subst P (sym holds.3) (λ b. record { spelling = canon (fields_of kind (said.Codec holds.0)); stands = holds.2; parts = b }) bits
says_here context kind (AudioElement e) c tail v valid holds bits are tail_is =
    let P : said.Content → Type 0 = λ x. AreFields kind v x tail → Says context kind (type_in (AudioElement e)) x tail v in
    subst P (sym holds.0) (λ b. record { spelling = canon (fields_of kind (said.Element (view_element e.value))); stands = valid; parts = b }) bits
says_here context kind (MixPresentation m) c tail v valid holds bits are tail_is =
    let P : said.Content → Type 0 = λ x. AreFields kind v x tail → Says context kind (type_in (MixPresentation m)) x tail v in
    subst P (sym holds.0) (λ b. record { spelling = canon (fields_of kind (said.Mix (view_mix m.value))); stands = valid.fields; parts = b }) bits
says_here context kind (ParameterBlock p) c tail v valid holds bits are tail_is =
    let P : said.Content → Type 0 = λ x. AreFields kind v x tail → Says context kind (type_in (ParameterBlock p)) x tail v in
    subst P (sym holds.0) (λ b. record { spelling = canon (fields_of kind (said.Block (view_block p))); stands = valid.0; parts = b }) bits
says_here context kind (TemporalDelimiter bytes) c tail v valid holds bits are tail_is =
    let P : said.Content → Type 0 = λ x. AreFields kind v x tail → Says context kind (type_in (TemporalDelimiter bytes)) x tail v in
    subst P (sym holds.0) (λ b. same_bytes tail v tail_is are (sym b)) bits
says_here context kind (AudioFrame f) c tail v valid holds bits are tail_is =
    let P : said.Content → Type 0 = λ x. AreFields kind v x tail → Says context kind (type_in (AudioFrame f)) x tail v in
    subst P (sym holds.0) (λ b. record { spelling = canon (fields_of kind (said.Frame f.substream)); stands = valid; parts = b }) bits
says_here context kind (Reserved bytes) c tail v valid holds bits are tail_is =
    let P : said.Content → Type 0 = λ x. AreFields kind v x tail → Says context kind (type_in (Reserved bytes)) x tail v in
    subst P (sym holds.0) (λ b. same_bytes tail v tail_is are (sym b)) bits

pub payload_is_of : (context : Context) (kind : ℕ) (content : Content) (c : said.Content) (tail v : List ℕ) → IsValidContent context kind content → type_in content ≡ obu_type_of kind → Holds content c tail
    → AreFields kind v c tail → AreBytes v → AreBytes tail → PayloadOf context kind c tail v
payload_is_of context kind content c tail v valid typed holds bits are tail_is = record {
  says = subst (λ (k : ObuType). Says context kind k c tail v) typed (says_here context kind content c tail v valid holds bits are tail_is);
  bytes = are;
  tail_is = tail_is;
}

-- a valid content says something
pub some_content : (context : Context) (kind : ℕ) (content : Content) → IsValidContent context kind content → (c : said.Content) × (tail : List ℕ) × Holds content c tail
some_content context kind (SequenceHeader h) valid = (said.Header (view_header h), h.tail.now, (refl, refl))
some_content context kind (CodecConfig r) valid = (said.Codec valid.0, r.tail.now, (valid.0, valid.1, valid.2, refl, refl))
some_content context kind (AudioElement e) valid = (said.Element (view_element e.value), e.value.tail.now, (refl, refl))
some_content context kind (MixPresentation m) valid = (said.Mix (view_mix m.value), tail_of m.value, (refl, refl))
some_content context kind (ParameterBlock b) valid = (said.Block (view_block b), bytes_after b, (refl, refl))
some_content context kind (TemporalDelimiter bytes) valid = (said.Nothing, bytes.now, (refl, refl))
some_content context kind (AudioFrame f) valid = (said.Frame f.substream, f.bytes.now, (refl, refl))
some_content context kind (Reserved bytes) valid = (said.Nothing, bytes.now, (refl, refl))
