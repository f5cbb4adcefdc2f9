-- Reading a codec config goes through its fields one after the other.
use Rattle.std.proofs.Common.{◌≡◌, ◌≢◌, ℕ, ◌≤◌, pos, false, Ok, refl, ◌∙◌}
use Rattle.std.specs.Prelude.{◌==◌, nat_lt}
use Rattle.std.proofs.lemmas.Bool.{le-ltb, ne_eqb}
use Rattle.spec_bits.specs.declared.FieldFault.{FieldFault}
use Rattle.spec_bits.specs.Form.{Number, Signed, Leb128}
use Rattle.spec_bits.specs.Cursor.{Cursor, field_at}
use Rattle.spec_syntax.specs.Syntax.{Syntax, End}
use Rattle.spec_syntax.specs.Reading.{read}
use Rattle.spec_syntax.proofs.Reading.{read_bind}
use Rattle.spec_descriptors.specs.declared.fault.DescriptorFault.{DescriptorFault}
use Rattle.spec_descriptors.specs.CodecConfig.{CodingFields, CodecConfigFields, lpcm_config, flac_config, codec_config}

-- the fields before the decoder config, as they are read
pub record Heads (codec : ℕ) (c d : Cursor) (id frame_length : ℕ) : Type 0 where
  pub after_id : Cursor
  pub after_codec : Cursor
  pub after_length : Cursor
  pub id_read : field_at Leb128 c ≡ Ok (id, after_id)
  pub codec_read : field_at (Number 32) after_id ≡ Ok (codec, after_codec)
  pub length_read : field_at Leb128 after_codec ≡ Ok (frame_length, after_length)
  pub length_low : frame_length ≢ 0
  pub length_high : frame_length ≤ 65535
  pub roll_read : field_at (Signed 16) after_length ≡ Ok (pos 0, d)

abbrev pub config_of : ℕ → ℕ → CodingFields → CodecConfigFields
config_of id frame_length coding = record { codec_config_id = id; num_samples_per_frame = frame_length; coding = coding }

abbrev with_coding : ℕ → ℕ → CodingFields → Syntax DescriptorFault CodecConfigFields
with_coding id frame_length coding = End (config_of id frame_length coding)

pub flac_config_read : (wrap : FieldFault → DescriptorFault) (c d e : Cursor) (id frame_length : ℕ) (coding : CodingFields) → Heads 0x664c6143 c d id frame_length → read wrap flac_config d ≡ Ok (coding, e)
    → read wrap codec_config c ≡ Ok (config_of id frame_length coding, e)
unfolding codec_config
flac_config_read wrap c d e id frame_length coding h k =
    let low : (frame_length == 0) ≡ false = ne_eqb _ _ h.length_low in
    let high : nat_lt 65535 frame_length ≡ false = le-ltb _ _ h.length_high in
    rw (h.id_read, h.codec_read, h.length_read, low, high, h.roll_read) (read_bind wrap flac_config (with_coding id frame_length) d ∙ rw k refl)

pub lpcm_config_read : (wrap : FieldFault → DescriptorFault) (c d e : Cursor) (id frame_length : ℕ) (coding : CodingFields) → Heads 0x6970636d c d id frame_length → read wrap lpcm_config d ≡ Ok (coding, e)
    → read wrap codec_config c ≡ Ok (config_of id frame_length coding, e)
unfolding codec_config
lpcm_config_read wrap c d e id frame_length coding h k =
    let low : (frame_length == 0) ≡ false = ne_eqb _ _ h.length_low in
    let high : nat_lt 65535 frame_length ≡ false = le-ltb _ _ h.length_high in
    rw (h.id_read, h.codec_read, h.length_read, low, high, h.roll_read) (read_bind wrap lpcm_config (with_coding id frame_length) d ∙ rw k refl)
