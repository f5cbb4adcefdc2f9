-- What is read out of a file.
use Rattle.std.specs.Prelude.{◌≡◌, ℕ, true, List, Some, Result, Ok, Err, Vec}
use Rattle.std.specs.Global.{Global}
use Rattle.spec_values.specs.Value.{ObuValue}
use Rattle.spec_sequence.specs.Reading.{Reads, Refuses}
use Rattle.spec_boxes.specs.Rules.{first_of, rules, track}
use Rattle.spec_boxes.specs.Code.{code_of}
use Rattle.spec_boxes.specs.Laws.{Holds, BoxRefuses}
use Rattle.spec_bodies.specs.SequenceFile.{IsBareOf}
use Rattle.spec_files.specs.Body.{rebuilt}
use Rattle.mp4_boxes.specs.declared.track.Track.{Track}
use Rattle.mp4_boxes.specs.TrackViews.{track_seen, track_file}
use Rattle.iamf_mux.specs.declared.demuxing.DemuxError.{DemuxError}
use Rattle.iamf_mux.specs.declared.demuxing.DemuxError.TheVariants as errors

-- The bare sequence of a track.
abbrev pub bare : Track → List ℕ
bare t = rebuilt (track_seen t).config (track_seen t).samples

-- Why the file gives no sequence: the first rule on boxes that fails, or why the bare sequence does not read.
abbrev pub IsNoBare : List ℕ → DemuxError → Type 0
IsNoBare f (errors.Box r) = BoxRefuses f r.at (code_of r.fault) × (first_of (rules true f) ≡ Some r)
IsNoBare f (errors.Inner r) = (bytes : List ℕ) × IsBareOf f bytes × Refuses bytes r.at r.fault
IsNoBare f (errors.Memory e) = Unit {0}

-- No rule on boxes fails of the file, and this is its track, as a part of it.
pub record IsTrackOf (f : List ℕ) (t : Track) : Type 0 where
  pub holds : Holds f (track_seen t).config (track_seen t).samples
  pub trak_is : (track_seen t).trak ≡ (track f).trak
  pub file_is : track_file t ≡ f

-- What is answered of a file, and has a bare sequence that reads; or why there is none.
abbrev pub Finds : {V : Type 0} → (V → Type 0) → (V → List ℕ) → List ℕ → Result V DemuxError → Type 0
Finds IsAnswer bare_of f (Ok v) = IsAnswer v × (s : List ObuValue) × Reads (bare_of v) s
Finds IsAnswer bare_of f (Err error) = IsNoBare f error

abbrev pub Demuxes : List ℕ → Result (Vec ℕ Global) DemuxError → Type 0
Demuxes f r = Finds (λ v. IsBareOf f v.items) (λ v. v.items) f r

abbrev pub FindsTrack : List ℕ → Result Track DemuxError → Type 0
FindsTrack f r = Finds (IsTrackOf f) bare f r
