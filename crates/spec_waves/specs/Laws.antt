-- What is known of WAV files.
use Rattle.std.specs.Prelude.{◌≡◌, ℕ, ◌+◌, ◌*◌, ℤ, IsTrue, List, [], ◌∷◌, length}
use Rattle.spec_bits.specs.Bits.{FitsSigned, signed_of}
use Rattle.spec_samples.specs.Lpcm.{is_depth}
use Rattle.spec_waves.specs.Wave.{Shape, riff_size, header_bytes, sample_bytes, wave}

abbrev pub HeaderHasSize : Type 0
HeaderHasSize = (s : Shape) → length (header_bytes s) ≡ 68

-- the first size counts all that follows it
abbrev pub RiffHasSize : Type 0
RiffHasSize = (s : Shape) (samples : List ℤ) → length samples ≡ s.frames * s.channels → length (wave s samples) ≡ 8 + riff_size s

-- the number in bytes, the least significant first
abbrev pub number_in : List ℕ → ℕ
number_in [] = 0
number_in (b ∷ bytes) = b + 256 * number_in bytes

-- a sample's bytes spell it in two's complement
abbrev pub SampleIsSpelled : Type 0
SampleIsSpelled = (depth : ℕ) (z : ℤ) → IsTrue (is_depth depth) → FitsSigned depth z → signed_of depth (number_in (sample_bytes depth z)) ≡ z
