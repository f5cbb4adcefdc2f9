-- What a player reserves, and what stands in it after so many units.
use Rattle.std.specs.Prelude.{◌≡◌, ℕ, ◌*◌, ◌/◌, ◌<◌, ◌^◌, Some, length, take, All, unsigned_abs}
use Rattle.spec_sequence.specs.Reading.{values_of}
use Rattle.spec_waves.specs.Wave.{IsShape}
use Rattle.wav_io.specs.Views.{shape_of}
use Rattle.obu_mix_elements.specs.MixGainView.{view_mix_gain}
use Rattle.spec_play.specs.Mixes.{Rendition, rendition_of, codec_of, unit_length}
use Rattle.spec_play.specs.Waves.{wave_shape}
use Rattle.spec_play.specs.Playing.{unit_bytes}
use Rattle.spec_play.specs.Laws.{IsPlayable}
use Rattle.iamf_sequence.specs.SequenceValue.{SequenceValue}
use Rattle.iamf_play.specs.declared.reserved.Reserved.{Reserved}
use Rattle.iamf_play.specs.Gains.{IsReady}
use Rattle.iamf_play.specs.PlayedElements.{AreParts}
use Rattle.iamf_play.specs.Mixing.{mixed_from, kept_of, first_of}

-- the rendition is heard of the sequence, and it is played
pub record IsOf (s : SequenceValue) (r : Rendition) : Type 0 where
  pub mix : ℕ
  pub heard_is : rendition_of (values_of s.entries) mix r.target ≡ Some r
  pub playable : IsPlayable r
  pub shape : IsShape (wave_shape r)
  pub short : unit_length r < 2 ^ 17
  pub few : length r.units < 2 ^ 42

-- Everything is at the start of unit u, and there is room for a unit.
pub record IsReserved (s : SequenceValue) (r : Rendition) (u : ℕ) (v : Reserved) : Type 0 where
  pub of : IsOf s r
  pub shape : shape_of v.shape ≡ wave_shape r
  pub elements : AreParts s r u v.elements.items
  pub output : view_mix_gain v.output.gain.now ≡ r.output
  pub ready : IsReady r v.output u
  pub mixed : length v.mixed.items ≡ unit_length r * (wave_shape r).channels
  pub bytes : length v.bytes.items ≡ unit_length r * (wave_shape r).channels * ((codec_of r).depth / 8)

-- the values and the bytes of unit u stand first
pub record HasPlayed (r : Rendition) (u : ℕ) (v : Reserved) : Type 0 where
  pub kept : v.kept ≡ kept_of r u
  pub mixed : take (v.kept * (wave_shape r).channels) v.mixed.items ≡ mixed_from r u (first_of r u) (kept_of r u)
  pub bytes : take (v.kept * (wave_shape r).channels * ((codec_of r).depth / 8)) v.bytes.items ≡ unit_bytes r u
  pub small : All (λ z. unsigned_abs z < 2 ^ 126) (take (v.kept * (wave_shape r).channels) v.mixed.items)
