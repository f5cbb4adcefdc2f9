-- What is written of a sequence into an MP4 file, and what is built of a file again.
use Rattle.std.specs.Prelude.{◌≡◌, ℕ, List, [], ◌∷◌, map, sum}
use Rattle.spec_values.specs.Value.{ObuValue}
use Rattle.spec_rules.specs.Descriptors.{codecs, frame_length}
use Rattle.spec_rules.specs.Rules.{rate_of}
use Rattle.spec_sequence.specs.Parts.{FrameValue, UnitValue, temporal_units}
use Rattle.spec_rules.specs.Samples.{kept}
use Rattle.spec_boxes.specs.Laws.{Holds}
use Rattle.spec_files.specs.Body.{rebuilt}
use Rattle.spec_files.specs.MovieFile.{Movie, file}
use Rattle.spec_bodies.specs.Spelled.{Spelled, roles_of, bytes_of, AreSequence}
use Rattle.spec_bodies.specs.SequenceBody.{descriptors, units}

abbrev pub values_of : List Spelled → List ObuValue
values_of os = map (λ o. o.value) os

-- how many samples are trimmed at the start of a unit: its trims are those of its first frame
abbrev pub start_of : List FrameValue → ℕ
start_of [] = 0
start_of (f ∷ fs) = f.trim.start

abbrev pub starts : List UnitValue → List ℕ
starts us = map (λ u. start_of u.frames) us

abbrev pub movie_of : List Spelled → Movie
movie_of os = record {
  descriptors = descriptors os;
  units = units os;
  frame_length = frame_length (roles_of os);
  sample_rate = rate_of (codecs (roles_of os));
  trimmed = sum (starts (temporal_units (values_of os)));
  kept = kept (roles_of os);
}

-- The bytes are a sequence, and this is its file.
pub record IsFileOf (bytes written : List ℕ) : Type 0 where
  pub obus : List Spelled
  pub bytes_are : bytes ≡ bytes_of obus
  pub are : AreSequence obus
  pub written_is : written ≡ file (movie_of obus)

-- The file holds a body, and this is the bare sequence that is built of it.
pub record IsBareOf (f bytes : List ℕ) : Type 0 where
  pub config : List ℕ
  pub samples : List (List ℕ)
  pub holds : Holds f config samples
  pub built : bytes ≡ rebuilt config samples
