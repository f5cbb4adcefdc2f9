use Rattle.std.proofs.Common.{length}
use Rattle.mp4_boxes.specs.TrackViews.{samples_left}
use Rattle.mp4_file.proofs.bare.samples_len.Given as goal

abbrev pub decreases-loop-bytes : goal.decreases-loop-bytes
decreases-loop-bytes l = length (samples_left l.rest)
