-- IAMF 1.0.0, "LPCM Specific": the samples of a frame one after the other, the channels of each side by side.
use Rattle.std.specs.Prelude.{ℕ, ◌+◌, ◌*◌, ◌/◌, ◌==◌, ◌||◌, ℤ, Bool, List, take, drop, reverse, if◌then◌else◌}
use Rattle.spec_bits.specs.Bits.{number_of, all_bits, signed_of}

-- how many bytes the frame of a substream has
abbrev pub frame_bytes : (frame_length channels depth : ℕ) → ℕ
frame_bytes frame_length channels depth = frame_length * channels * depth / 8

-- how many bits a sample may have (sample_size)
abbrev pub is_depth : ℕ → Bool
is_depth depth = depth == 16 || depth == 24 || depth == 32

-- where sample n of channel c begins, in bytes from the start of the frame
abbrev pub sample_place : (channels depth n c : ℕ) → ℕ
sample_place channels depth n c = (n * channels + c) * (depth / 8)

-- the number in two's complement that bytes spell, the least significant byte first or the most significant first (sample_format_flags)
unfoldable pub signed_number : (little : Bool) (depth : ℕ) (bytes : List ℕ) → ℤ
signed_number little depth bytes = signed_of depth (number_of (all_bits (if little then reverse bytes else bytes)))

-- sample n of channel c
unfoldable pub sample : (frame : List ℕ) (little : Bool) (depth channels n c : ℕ) → ℤ
sample frame little depth channels n c = signed_number little depth (take (depth / 8) (drop (sample_place channels depth n c) frame))
