use Rattle.iamf_tool.specs.declared.command.Command.TheVariants as given
use Rattle.iamf_tool.specs.declared.command.Conversion.TheVariants as conversion
use Rattle.iamf_mux.specs.Demuxing.{bare}
use Rattle.iamf_tool.specs.Ends.{side}
use Rattle.iamf_tool.proofs.Written.{all_written, cut_off}
use Rattle.iamf_tool.proofs.muxing.demux_track.Goals as goal

pub returns-in-Ok-write_bare : goal.returns-in-Ok-write_bare
returns-in-Ok-write_bare g c = λ f is s reads.
    all_written (given.Convert conversion.Demux) f (bare c.args.track.now) (side g.W.Sink.held g.W.Sink.faults c.args.out.now c.write_bare.new.out) (g.N.Sink.held c.args.notes.now) (g.N.Sink.faults c.args.notes.now) (is, s, reads) c.in-Ok-write_bare.ensures

pub returns : goal.returns
returns g c = λ f is s reads.
    cut_off _ (given.Convert conversion.Demux) f (bare c.args.track.now) (side g.W.Sink.held g.W.Sink.faults c.args.out.now c.write_bare.new.out) _ c.ended-in-Err-write_bare.ensures.same (is, s, reads) c.in-Err-write_bare.ensures c.ended-in-Err-write_bare.ensures.noted
