-- The WAV file of some sound: a RIFF file of the form WAVE with the format WAVE_FORMAT_EXTENSIBLE
-- (Microsoft, "Multiple Channel Audio Data and WAVE Files"). Numbers have the least significant byte first.
use Rattle.std.specs.Prelude.{ℕ, ◌+◌, ◌*◌, ◌/◌, ◌%◌, ◌^◌, ◌<◌, ◌≤◌, ℤ, IsTrue, List, [], ◌∷◌, ◌++◌, replicate, codes}
use Rattle.std.specs.List.{flat_map}
use Rattle.std.specs.Int.{bytes_low_first}
use Rattle.spec_bits.specs.Bits.{unsigned_of}
use Rattle.spec_samples.specs.Lpcm.{is_depth}

-- How many channels, which speakers they are (dwChannelMask), samples of a second and channel, bits of a sample, and
-- samples of a channel.
pub record Shape : Type 0 where
  pub channels : ℕ
  pub mask : ℕ
  pub rate : ℕ
  pub depth : ℕ
  pub frames : ℕ

-- bytes of one sample of each channel (nBlockAlign)
abbrev pub align : Shape → ℕ
align s = s.channels * (s.depth / 8)

-- bytes of all samples, and a byte that makes their number even
abbrev pub data_size : Shape → ℕ
data_size s = s.frames * align s

abbrev pub pad : Shape → ℕ
pad s = data_size s % 2

-- what the first size counts: all that follows it
abbrev pub riff_size : Shape → ℕ
riff_size s = 60 + data_size s + pad s

-- The shapes that are written; all their sizes are numbers of 32 bits.
pub record IsShape (s : Shape) : Type 0 where
  pub some : 1 ≤ s.channels
  pub few : s.channels ≤ 225
  pub depth : IsTrue (is_depth s.depth)
  pub rate : s.rate ≤ 96000
  pub small : riff_size s < 2 ^ 32

abbrev pub half : ℕ → List ℕ
half x = bytes_low_first 0 2 x

abbrev pub word : ℕ → List ℕ
word x = bytes_low_first 0 4 x

abbrev pub riff : Shape → List ℕ
riff s = codes "RIFF" ++ (word (riff_size s) ++ codes "WAVE")

-- the chunk `fmt `: its size, wFormatTag, nChannels, nSamplesPerSec, nAvgBytesPerSec, nBlockAlign and wBitsPerSample
abbrev pub format : Shape → List ℕ
format s = codes "fmt " ++ (word 40 ++ (half 0xfffe ++ (half s.channels ++ (word s.rate ++ (word (s.rate * align s) ++ (half (align s) ++ half s.depth))))))

-- KSDATAFORMAT_SUBTYPE_PCM
abbrev pub pcm : List ℕ
pcm = word 1 ++ (half 0 ++ (half 0x10 ++ (0x80 ∷ 0x00 ∷ 0x00 ∷ 0xaa ∷ 0x00 ∷ 0x38 ∷ 0x9b ∷ 0x71 ∷ [])))

-- and the rest of it: cbSize, wValidBitsPerSample, dwChannelMask and SubFormat
abbrev pub extension : Shape → List ℕ
extension s = half 22 ++ (half s.depth ++ (word s.mask ++ pcm))

-- the head of the chunk `data`
abbrev pub data_head : Shape → List ℕ
data_head s = codes "data" ++ word (data_size s)

unfoldable pub header_bytes : Shape → List ℕ
header_bytes s = riff s ++ (format s ++ (extension s ++ data_head s))

-- a sample: two's complement
abbrev pub sample_bytes : ℕ → ℤ → List ℕ
sample_bytes depth z = bytes_low_first 0 (depth / 8) (unsigned_of depth z)

-- the whole file, where the samples are those of all channels at a time, one time after the other
unfoldable pub wave : Shape → List ℤ → List ℕ
wave s samples = header_bytes s ++ (flat_map (λ (z : ℤ). sample_bytes s.depth z) samples ++ replicate (pad s) 0)
