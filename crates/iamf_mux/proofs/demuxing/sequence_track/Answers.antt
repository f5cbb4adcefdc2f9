use Rattle.std.proofs.Common.{◌<◌, ◌^◌, length, arith}
use Rattle.mp4_boxes.specs.TrackViews.{track_seen}
use Rattle.iamf_mux.proofs.BareSize.{bare_small}
use Rattle.iamf_mux.proofs.demuxing.sequence_track.Goals as goal

pub check-requires : goal.check-requires
check-requires c =
    let t = track_seen c.in-Ok.track in
    let few : length t.samples < 2 ^ 32 = omega (arith, c.sample_count-samples.ensures) in
    bare_small c.args.file.now t.config t.samples c.requires few c.in-Ok.ensures.holds
