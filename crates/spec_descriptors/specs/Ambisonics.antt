-- IAMF 1.0.0, "Ambisonics Config Syntax and Semantics".
use Rattle.std.specs.Prelude.{ℕ, ◌+◌, ◌*◌, Bool, not, ◌||◌, List, [], ◌∷◌, nat_lt, ◌==◌}
use Rattle.std.specs.List.{list_any}
use Rattle.spec_bits.specs.Form.{Number, Leb128, Bytes}
use Rattle.spec_syntax.specs.Syntax.{Syntax, End, Choice, field, refuse, each, ◌>>=◌}
use Rattle.spec_descriptors.specs.declared.fault.DescriptorFault.{DescriptorFault}
use Rattle.spec_descriptors.specs.declared.fault.DescriptorFault.TheVariants as fault

-- by channel_mapping, or by demixing_matrix, whose coefficients are kept as their bytes
pub data AmbisonicsFields : Type 0 where
  Mono : (output_channel_count substream_count : ℕ) → List ℕ → AmbisonicsFields
  Projection : (output_channel_count substream_count coupled_substream_count : ℕ) → List ℕ → AmbisonicsFields

-- a square from 1 to 225
unfoldable pub is_output_count : ℕ → Bool
is_output_count n = list_any (λ k. n == k * k) (1 ∷ 2 ∷ 3 ∷ 4 ∷ 5 ∷ 6 ∷ 7 ∷ 8 ∷ 9 ∷ 10 ∷ 11 ∷ 12 ∷ 13 ∷ 14 ∷ 15 ∷ [])

-- an output's substream, or 255 for silence
abbrev pub mapping_in : ℕ → ℕ → List ℕ → Syntax DescriptorFault ℕ
mapping_in substreams after before = field (Number 8) (refuse fault.Ambisonics (λ n. not (n == 255 || nat_lt n substreams)) ∷ [])

unfoldable pub ambisonics_mono : Syntax DescriptorFault AmbisonicsFields
ambisonics_mono = do
  output_channel_count ← field (Number 8) (refuse fault.Ambisonics (λ n. not (is_output_count n)) ∷ [])
  substream_count ← field (Number 8) (refuse fault.Ambisonics (λ n. n == 0) ∷ refuse fault.Ambisonics (λ n. nat_lt output_channel_count n) ∷ [])
  channel_mapping ← each output_channel_count (mapping_in substream_count) []
  End (Mono output_channel_count substream_count channel_mapping)

unfoldable pub ambisonics_projection : Syntax DescriptorFault AmbisonicsFields
ambisonics_projection = do
  output_channel_count ← field (Number 8) (refuse fault.Ambisonics (λ n. not (is_output_count n)) ∷ [])
  substream_count ← field (Number 8) (refuse fault.Ambisonics (λ n. n == 0) ∷ [])
  coupled_substream_count ← field (Number 8) (refuse fault.Ambisonics (λ n. nat_lt substream_count n) ∷ [])
  demixing_matrix ← field (Bytes (2 * ((substream_count + coupled_substream_count) * output_channel_count))) []
  End (Projection output_channel_count substream_count coupled_substream_count demixing_matrix)

unfoldable pub ambisonics_config : Syntax DescriptorFault AmbisonicsFields
ambisonics_config = do
  ambisonics_mode ← field Leb128 (refuse fault.Ambisonics (λ n. nat_lt 1 n) ∷ [])
  Choice (ambisonics_mode == 0) ambisonics_mono ambisonics_projection

abbrev pub substreams_of : AmbisonicsFields → ℕ
substreams_of (Mono outputs substreams mapping) = substreams
substreams_of (Projection outputs substreams coupled matrix) = substreams
