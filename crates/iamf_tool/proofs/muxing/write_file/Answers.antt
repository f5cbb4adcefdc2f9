use Rattle.iamf_tool.specs.declared.command.Command.TheVariants as given
use Rattle.iamf_tool.specs.declared.command.Conversion.TheVariants as conversion
use Rattle.iamf_mux.specs.FileOf.{file_of}
use Rattle.iamf_tool.specs.Ends.{side}
use Rattle.iamf_tool.proofs.Written.{all_written, cut_off}
use Rattle.iamf_tool.proofs.muxing.write_file.Goals as goal

pub returns-in-Ok-write_parts : goal.returns-in-Ok-write_parts
returns-in-Ok-write_parts g c = λ b is.
    all_written (given.Convert conversion.Mux) b (file_of c.args.parts.now) (side g.W.Sink.held g.W.Sink.faults c.args.out.now c.write_parts.new.out) (g.N.Sink.held c.args.notes.now) (g.N.Sink.faults c.args.notes.now) is c.in-Ok-write_parts.ensures

pub returns : goal.returns
returns g c = λ b is.
    cut_off _ (given.Convert conversion.Mux) b (file_of c.args.parts.now) (side g.W.Sink.held g.W.Sink.faults c.args.out.now c.write_parts.new.out) _ c.ended-in-Err-write_parts.ensures.same is c.in-Err-write_parts.ensures
    c.ended-in-Err-write_parts.ensures.noted
