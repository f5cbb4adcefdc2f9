use Rattle.iamf_tool.specs.declared.command.Command.TheVariants as given
use Rattle.iamf_tool.specs.declared.command.Conversion.TheVariants as conversion
use Rattle.iamf_mux.proofs.BareTracks.{bare_is}
use Rattle.iamf_tool.proofs.Refused.{answered_to_demux}
use Rattle.iamf_tool.proofs.muxing.demux.Goals as goal

pub returns-in-Ok : goal.returns-in-Ok
returns-in-Ok g c = let t = c.in-Ok.ensures in c.demux_track.ensures c.args.bytes.now (bare_is c.args.bytes.now c.in-Ok.track t.0) t.1 t.2

pub returns-in-Err : goal.returns-in-Err
returns-in-Err g c =
    c.conclude.ensures (given.Convert conversion.Demux) c.args.bytes.now (answered_to_demux c.answer_to_file.result c.in-Err.error c.args.bytes.now c.answer_to_file.ensures c.in-Err.ensures)
