-- What is written of a sequence.
use Rattle.std.specs.Prelude.{◌≡◌, ◌+◌, ◌≤◌, ◌^◌, ℕ, List, length, sum}
use Rattle.spec_rules.specs.Descriptors.{codecs, frame_length}
use Rattle.spec_rules.specs.Rules.{rate_of}
use Rattle.spec_rules.specs.Samples.{kept}
use Rattle.spec_sequence.specs.Parts.{temporal_units}
use Rattle.spec_bodies.specs.Spelled.{Spelled, roles_of, bytes_of, AreSequence}
use Rattle.spec_bodies.specs.SequenceFile.{values_of, starts}
use Rattle.mp4_file.specs.Slices.{joined}
use Rattle.iamf_mux.specs.declared.body.Body.{Body}
use Rattle.iamf_mux.specs.Gathering.{Slices, IsGathered}
use Rattle.iamf_mux.specs.Ranges.{AreRanges, parts}

abbrev pub slices_in : Body → Slices
slices_in b = record { descriptors = joined b.descriptors.items; units = joined b.units.items; unit_lengths = b.unit_lengths.items }

-- The bytes are a sequence, and this is its body, with what a file tells of its samples.
pub record IsBodyOf (b : Body) (bytes : List ℕ) : Type 0 where
  pub short : length bytes ≤ 2 ^ 30
  pub obus : List Spelled
  pub bytes_are : bytes ≡ bytes_of obus
  pub are : AreSequence obus
  pub gathered : IsGathered (slices_in b) obus
  pub sliced : AreRanges bytes 0 (parts b.units.items) (length bytes + 1)
  pub frame_length_is : b.frame_length ≡ frame_length (roles_of obus)
  pub sample_rate_is : b.sample_rate ≡ rate_of (codecs (roles_of obus))
  pub trimmed_is : b.trimmed ≡ sum (starts (temporal_units (values_of obus)))
  pub kept_is : b.kept ≡ kept (roles_of obus)
