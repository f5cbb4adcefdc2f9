use Rattle.std.proofs.Common.{length}
use Rattle.mp4_boxes.specs.TrackViews.{samples_left}
use Rattle.iamf_mux.specs.Demuxing.{bare}
use Rattle.iamf_mux.proofs.FedTracks.{HasFed}
use Rattle.iamf_mux.proofs.demuxing.check.Given as goal

abbrev pub invariant-loop-bytes : goal.invariant-loop-bytes
invariant-loop-bytes l = HasFed l.checker (samples_left l.samples) (bare l.track)

abbrev pub decreases-loop-bytes : goal.decreases-loop-bytes
decreases-loop-bytes l = length (samples_left l.samples)
