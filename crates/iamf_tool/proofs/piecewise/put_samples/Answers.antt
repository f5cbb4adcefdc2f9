use Rattle.mp4_boxes.specs.TrackViews.{samples_left}
use Rattle.iamf_tool.specs.Ends.{side}
use Rattle.iamf_tool.proofs.Waiting.{no_samples_passed, sample_passed, sample_failed, samples_passed}
use Rattle.iamf_tool.proofs.piecewise.put_samples.Goals as goal

pub loop-bytes-init : goal.loop-bytes-init
loop-bytes-init g c = no_samples_passed (g.W.Sink.held c.args.out.now) (g.W.Sink.faults c.args.out.now) (samples_left c.args.samples.now) c.args.waiting.now.items

pub returns-in-Err : goal.returns-in-Err
returns-in-Err g c =
    sample_failed (g.W.Sink.held c.args.out.now) (g.W.Sink.held c.loop-bytes.out) (g.W.Sink.held c.put_marked.new.out) (g.W.Sink.faults c.args.out.now) (g.W.Sink.faults c.loop-bytes.out) (g.W.Sink.faults c.put_marked.new.out)
    (samples_left c.args.samples.now) (samples_left c.loop-bytes.rest) (samples_left c.next_sample.new.self) _ c.args.waiting.now.items c.loop-bytes.waiting.items c.in-Some.ensures.next c.loop-bytes.invariant c.in-Err.ensures

pub loop-bytes-preserved : goal.loop-bytes-preserved
loop-bytes-preserved g c =
    sample_passed (g.W.Sink.held c.args.out.now) (g.W.Sink.held c.loop-bytes.out) (g.W.Sink.held c.put_marked.new.out) (g.W.Sink.faults c.args.out.now) (g.W.Sink.faults c.loop-bytes.out) (g.W.Sink.faults c.put_marked.new.out)
    (samples_left c.args.samples.now) (samples_left c.loop-bytes.rest) (samples_left c.next_sample.new.self) _ c.args.waiting.now.items c.loop-bytes.waiting.items c.put_marked.new.waiting.items c.in-Some.ensures.next c.loop-bytes.invariant c.in-Ok.ensures

pub returns : goal.returns
returns g c =
    samples_passed (side g.W.Sink.held g.W.Sink.faults c.args.out.now c.loop-bytes.out) (samples_left c.args.samples.now) (samples_left c.loop-bytes.rest) c.args.waiting.now.items c.loop-bytes.waiting.items c.in_default.ensures.none c.loop-bytes.invariant
