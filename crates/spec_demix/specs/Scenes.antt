-- The outputs of an ambisonics element: IAMF 1.0.0, "Ambisonics Config Syntax and Semantics".
use Rattle.std.specs.Prelude.{ℕ, zero, suc, ◌+◌, ◌*◌, ◌<◌, ◌≤◌, ◌≡◌, ◌⊎◌, ◌==◌, nat_lt, List, length, All, ℤ, pos, ◌+ℤ◌, ◌-ℤ◌, ◌*ℤ◌, slice_index, slice_index_or, if◌then◌else◌}
use Rattle.spec_descriptors.specs.Ambisonics.{AmbisonicsFields, Mono, Projection}
use Rattle.spec_demix.specs.declared.Fraction.{Fraction}

-- an output by its substream, which has one channel; the substream 255 is silence
abbrev pub mapped : List ℤ → ℕ → ℤ
mapped coded substream = if substream == 255 then pos 0 else slice_index_or coded substream (pos 0)

-- two bytes as a number of 16 bits in two's complement
abbrev pub signed_of : ℕ → ℕ → ℤ
signed_of high low = if nat_lt high 128 then pos (256 * high + low) else pos (256 * high + low) -ℤ pos 65536

-- coefficient i of a matrix that is kept as its bytes, in 1/32768
abbrev pub coefficient : List ℕ → ℕ → ℤ
coefficient matrix i = signed_of (slice_index matrix (2 * i)) (slice_index matrix (2 * i + 1))

-- output c of the first k channels, times 32768: the sum of each channel times its coefficient, in columns of `outputs`
abbrev pub projected : List ℕ → ℕ → List ℤ → ℕ → ℕ → ℤ
projected matrix outputs coded c zero = pos 0
projected matrix outputs coded c (suc k) = projected matrix outputs coded c k +ℤ coefficient matrix (k * outputs + c) *ℤ slice_index_or coded k (pos 0)

-- output c
abbrev pub scene_top : AmbisonicsFields → List ℤ → ℕ → ℤ
scene_top (Mono outputs substreams mapping) coded c = mapped coded (slice_index mapping c)
scene_top (Projection outputs substreams coupled matrix) coded c = projected matrix outputs coded c (substreams + coupled)

abbrev pub scene_bottom : AmbisonicsFields → ℕ
scene_bottom (Mono outputs substreams mapping) = 1
scene_bottom (Projection outputs substreams coupled matrix) = 32768

abbrev pub IsScene : AmbisonicsFields → List ℤ → ℕ → Fraction → Type 0
IsScene config coded c f = f.top *ℤ pos (scene_bottom config) ≡ scene_top config coded c *ℤ f.bottom

-- how many outputs there are
abbrev pub outputs_of : AmbisonicsFields → ℕ
outputs_of (Mono outputs substreams mapping) = outputs
outputs_of (Projection outputs substreams coupled matrix) = outputs

-- how many channels are coded
abbrev pub coded_of : AmbisonicsFields → ℕ
coded_of (Mono outputs substreams mapping) = substreams
coded_of (Projection outputs substreams coupled matrix) = substreams + coupled

-- the mapping has a substream or silence for each output, and the matrix a coefficient for each channel and output
abbrev pub IsWhole : AmbisonicsFields → Type 0
IsWhole (Mono outputs substreams mapping) = (length mapping ≡ outputs) × All (λ n. (n ≡ 255) ⊎ (n < substreams)) mapping
IsWhole (Projection outputs substreams coupled matrix) = (length matrix ≡ 2 * ((substreams + coupled) * outputs)) × (coupled ≤ substreams)
