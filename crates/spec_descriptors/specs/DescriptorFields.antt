-- The fields that a sequence header and a codec config stand for, one after the other.
use Rattle.std.specs.Prelude.{ℕ, pos, Bool, List, [], ◌∷◌, ◌++◌, ◌==◌, if◌then◌else◌}
use Rattle.spec_bits.specs.Form.{Number, Signed, Leb128, Bytes, Blocks}
use Rattle.spec_syntax.specs.Payload.{FieldValue, a_field}
use Rattle.spec_descriptors.specs.SequenceHeader.{SequenceHeaderFields}
use Rattle.spec_descriptors.specs.CodecConfig.{StreamInfoFields, CodingFields, Lpcm, Flac, CodecConfigFields}

abbrev pub sequence_header_fields : SequenceHeaderFields → List FieldValue
sequence_header_fields h = a_field (Number 32) 0x69616d66 ∷ a_field (Number 8) h.primary_profile ∷ a_field (Number 8) h.additional_profile ∷ []

abbrev pub lpcm_fields : Bool → ℕ → ℕ → List FieldValue
lpcm_fields is_little depth rate = a_field (Number 8) (if is_little then 1 else 0) ∷ a_field (Number 8) depth ∷ a_field (Number 32) rate ∷ []

abbrev pub stream_info_fields : StreamInfoFields → List FieldValue
stream_info_fields s =
    a_field (Number 1) s.is_last
    ∷ a_field (Number 7) 0
    ∷ a_field (Number 24) 34
    ∷ a_field (Number 16) s.min_block_size
    ∷ a_field (Number 16) s.max_block_size
    ∷ a_field (Number 24) s.min_frame_size
    ∷ a_field (Number 24) s.max_frame_size
    ∷ a_field (Number 20) s.sample_rate
    ∷ a_field (Number 3) s.channels_less_one
    ∷ a_field (Number 5) s.depth_less_one
    ∷ a_field (Number 4) s.total_samples_high
    ∷ a_field (Number 32) s.total_samples_low
    ∷ a_field (Bytes 16) s.digest
    ∷ []

-- the blocks after the first, where there are any
abbrev pub other_blocks : ℕ → List ℕ → List FieldValue
other_blocks is_last others = if is_last == 1 then [] else a_field Blocks others ∷ []

abbrev pub flac_fields : StreamInfoFields → List ℕ → List FieldValue
flac_fields info others = stream_info_fields info ++ other_blocks info.is_last others

abbrev pub coding_fields : CodingFields → List FieldValue
coding_fields (Lpcm is_little depth rate) = lpcm_fields is_little depth rate
coding_fields (Flac info others) = flac_fields info others

-- the codec_id: ipcm or fLaC
abbrev pub codec_id_of : CodingFields → ℕ
codec_id_of (Lpcm is_little depth rate) = 0x6970636d
codec_id_of (Flac info others) = 0x664c6143

abbrev pub codec_config_fields : CodecConfigFields → List FieldValue
codec_config_fields c =
    a_field Leb128 c.codec_config_id
    ∷ a_field (Number 32) (codec_id_of c.coding)
    ∷ a_field Leb128 c.num_samples_per_frame
    ∷ a_field (Signed 16) (pos 0)
    ∷ coding_fields c.coding
