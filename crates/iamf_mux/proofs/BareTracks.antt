-- The bare sequence of the track of a file is that of the file.
use Rattle.std.proofs.Common.{ℕ, List, refl}
use Rattle.spec_bodies.specs.SequenceFile.{IsBareOf}
use Rattle.mp4_boxes.specs.declared.track.Track.{Track}
use Rattle.mp4_boxes.specs.TrackViews.{track_seen}
use Rattle.iamf_mux.specs.Demuxing.{bare, IsTrackOf}

pub bare_is : (f : List ℕ) (t : Track) → IsTrackOf f t → IsBareOf f (bare t)
bare_is f t is = record { config = (track_seen t).config; samples = (track_seen t).samples; holds = is.holds; built = refl }
