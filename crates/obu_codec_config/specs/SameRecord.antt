-- Two records that are equal as values: their numbers, and the bytes that they point to.
use Rattle.std.specs.Prelude.{◌≡◌, ℕ, List}
use Rattle.spec_bits.specs.Bits.{AreBytes}
use Rattle.obu_codec_config.specs.declared.sequence_header.SequenceHeader.{SequenceHeader}
use Rattle.obu_codec_config.specs.declared.codec_config.Coding.{Coding}
use Rattle.obu_codec_config.specs.declared.codec_config.Coding.TheVariants as coding
use Rattle.obu_codec_config.specs.declared.codec_config.CodecConfig.{CodecConfig}

abbrev pub SameBytes : List ℕ → List ℕ → Type 0
SameBytes xs ys = AreBytes xs → AreBytes ys → xs ≡ ys

pub record SameHeader (h k : SequenceHeader) : Type 0 where
  pub primary : h.primary ≡ k.primary
  pub additional : h.additional ≡ k.additional
  pub tail : SameBytes h.tail.now k.tail.now

abbrev pub SameCoding : Coding → Coding → Type 0
SameCoding (coding.Lpcm little depth rate) (coding.Lpcm little' depth' rate') = (little ≡ little') × (depth ≡ depth') × (rate ≡ rate')
SameCoding (coding.Flac blocks depth rate) (coding.Flac blocks' depth' rate') = SameBytes blocks.now blocks'.now × (depth ≡ depth') × (rate ≡ rate')
SameCoding (coding.Lpcm little depth rate) (coding.Flac blocks' depth' rate') = ⊥
SameCoding (coding.Flac blocks depth rate) (coding.Lpcm little' depth' rate') = ⊥

pub record SameCodec (r q : CodecConfig) : Type 0 where
  pub id : r.id ≡ q.id
  pub frame_length : r.frame_length ≡ q.frame_length
  pub coding_is : SameCoding r.coding q.coding
  pub tail : SameBytes r.tail.now q.tail.now
