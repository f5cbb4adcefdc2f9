-- What a frame's samples are to its bytes, and to the numbers of their depth.
use Rattle.std.specs.Prelude.{◌≡◌, ℕ, ◌+◌, ◌/◌, ◌<◌, ◌≤◌}
use Rattle.spec_samples.specs.Lpcm.{frame_bytes, sample_place}

-- the byte at this place is one of those of sample n of channel c
abbrev pub IsByteOf : (channels depth n c place : ℕ) → Type 0
IsByteOf channels depth n c place = (sample_place channels depth n c ≤ place) × (place < sample_place channels depth n c + depth / 8)

-- The samples of a frame tile its bytes.
pub record SamplesTile (frame_length channels depth : ℕ) : Type 0 where
  -- a sample lies within the frame
  pub within : (n c : ℕ) → n < frame_length → c < channels → sample_place channels depth n c + depth / 8 ≤ frame_bytes frame_length channels depth
  -- each byte of the frame belongs to a sample
  pub covered : (place : ℕ) → place < frame_bytes frame_length channels depth → (n : ℕ) × (c : ℕ) × (n < frame_length) × (c < channels) × IsByteOf channels depth n c place
  -- and to no other
  pub apart : (place n c n' c' : ℕ) → c < channels → c' < channels → IsByteOf channels depth n c place → IsByteOf channels depth n' c' place → (n ≡ n') × (c ≡ c')
