use Rattle.std.proofs.Common.{ap}
use Rattle.std.specs.List.{flat_map}
use Rattle.spec_files.specs.Body.{marked, rebuilt}
use Rattle.mp4_boxes.specs.TrackViews.{track_seen}
use Rattle.iamf_tool.proofs.Waiting.{first_failed, second_failed, both_written}
use Rattle.iamf_tool.proofs.muxing.write_bare.Goals as goal

pub returns-in-Err : goal.returns-in-Err
unfolding rebuilt
returns-in-Err g c =
    first_failed (g.W.Sink.held c.args.out.now) (g.W.Sink.held c.put_piece.new.out) (g.W.Sink.faults c.args.out.now) (g.W.Sink.faults c.put_piece.new.out) c.args.waiting.now.items _ (track_seen c.args.track.now).config (flat_map marked (track_seen c.args.track.now).samples) c.requires c.config.ensures c.in-Err.ensures

pub returns-in-Err-put_samples : goal.returns-in-Err-put_samples
unfolding rebuilt
returns-in-Err-put_samples g c =
    second_failed (g.W.Sink.held c.args.out.now) (g.W.Sink.held c.put_piece.new.out) (g.W.Sink.held c.put_samples.new.out) (g.W.Sink.faults c.args.out.now) (g.W.Sink.faults c.put_piece.new.out) (g.W.Sink.faults c.put_samples.new.out)
    c.args.waiting.now.items _ (track_seen c.args.track.now).config c.put_piece.new.waiting.items _ (flat_map marked (track_seen c.args.track.now).samples) c.requires c.config.ensures (ap (flat_map marked) c.samples.ensures) c.in-Ok.ensures c.in-Err-put_samples.ensures

pub returns-in-Ok-put_samples : goal.returns-in-Ok-put_samples
unfolding rebuilt
returns-in-Ok-put_samples g c =
    both_written c.finish.result (g.W.Sink.held c.args.out.now) (g.W.Sink.held c.put_piece.new.out) (g.W.Sink.held c.put_samples.new.out) (g.W.Sink.held c.finish.new.out) (g.W.Sink.faults c.args.out.now) (g.W.Sink.faults c.put_piece.new.out) (g.W.Sink.faults c.put_samples.new.out) (g.W.Sink.faults c.finish.new.out)
    c.args.waiting.now.items _ (track_seen c.args.track.now).config c.put_piece.new.waiting.items _ (flat_map marked (track_seen c.args.track.now).samples) c.put_samples.new.waiting.items c.requires c.config.ensures (ap (flat_map marked) c.samples.ensures) c.in-Ok.ensures c.in-Ok-put_samples.ensures c.finish.ensures
