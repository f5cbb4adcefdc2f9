-- The bytes of a mixed value in a WAV file.
use Rattle.std.specs.Prelude.{ℕ, ℤ, List}
use Rattle.spec_demix.specs.Rounding.{clipped, rounded}
use Rattle.spec_waves.specs.Wave.{sample_bytes}

-- rounded once and clipped once
abbrev pub mixed_bytes : ℕ → ℤ → List ℕ
mixed_bytes depth z = sample_bytes depth (clipped depth (rounded z))
