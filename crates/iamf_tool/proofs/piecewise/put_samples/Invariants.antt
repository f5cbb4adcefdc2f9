use Rattle.std.proofs.Common.{length}
use Rattle.mp4_boxes.specs.TrackViews.{samples_left}
use Rattle.iamf_tool.specs.Ends.{side}
use Rattle.iamf_tool.proofs.Waiting.{HasPassedSamples}
use Rattle.iamf_tool.proofs.piecewise.put_samples.Given as goal

abbrev pub invariant-loop-bytes : goal.invariant-loop-bytes
invariant-loop-bytes g l = HasPassedSamples (samples_left l.samples) (samples_left l.rest) l.fn.waiting.items l.waiting.items (side g.W.Sink.held g.W.Sink.faults l.fn.out l.out)

abbrev pub decreases-loop-bytes : goal.decreases-loop-bytes
decreases-loop-bytes g l = length (samples_left l.rest)
