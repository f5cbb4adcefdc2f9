-- What is seen of a track and of the samples that are left of it.
use Rattle.std.specs.Prelude.{ℕ, List, map}
use Rattle.spec_boxes.specs.Tracks.{sample_bytes}
use Rattle.spec_boxes.specs.Tracks as spec
use Rattle.mp4_boxes.specs.declared.samples.Samples.{Samples}
use Rattle.mp4_boxes.specs.declared.track.Track.{Track}
use Rattle.mp4_boxes.specs.TableViews.{span_list}
use Rattle.mp4_boxes.specs.Cursors.{spans_left}
use Rattle.mp4_boxes.specs.Views.{box_of}

abbrev pub samples_left : Samples → List (List ℕ)
samples_left s = map (sample_bytes s.cursor.file.now) (spans_left s.cursor)

abbrev pub track_seen : Track → spec.Track
track_seen t = record { trak = box_of t.trak; config = t.config.now; samples = map (sample_bytes t.file.now) (span_list t.sizes t.places t.runs) }

-- the file of the track
abbrev pub track_file : Track → List ℕ
track_file t = t.file.now
