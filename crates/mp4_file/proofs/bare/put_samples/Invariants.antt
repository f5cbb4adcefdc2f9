use Rattle.std.proofs.Common.{◌≡◌, ◌++◌, length}
use Rattle.std.specs.List.{flat_map}
use Rattle.spec_files.specs.Body.{marked}
use Rattle.mp4_boxes.specs.TrackViews.{samples_left}
use Rattle.mp4_file.proofs.bare.put_samples.Given as goal

abbrev pub invariant-loop-bytes : goal.invariant-loop-bytes
invariant-loop-bytes l = l.out.items ++ flat_map marked (samples_left l.rest) ≡ l.fn.out.items ++ flat_map marked (samples_left l.samples)

abbrev pub decreases-loop-bytes : goal.decreases-loop-bytes
decreases-loop-bytes l = length (samples_left l.rest)
