use Rattle.std.proofs.Common.{ap, ◌∙◌}
use Rattle.mp4_file.specs.Slices.{joined}
use Rattle.iamf_tool.specs.declared.command.Command.TheVariants as given
use Rattle.iamf_tool.specs.declared.command.Conversion.TheVariants as conversion
use Rattle.iamf_tool.specs.Ends.{side}
use Rattle.iamf_tool.proofs.Waiting.{joined_is}
use Rattle.iamf_tool.proofs.Written.{all_written, cut_off}
use Rattle.iamf_tool.proofs.canon.write_canonical.Goals as goal

pub returns-in-Ok-write_pieces : goal.returns-in-Ok-write_pieces
returns-in-Ok-write_pieces g c = λ b s reads is.
    let same = ap joined c.deref.ensures.value ∙ joined_is c.in-Ok.pieces.items ∙ c.in-Ok.ensures ∙ is in
    all_written (given.Convert conversion.Canon) b (joined c.deref.result.now) (side g.W.Sink.held g.W.Sink.faults c.args.out.now c.write_pieces.new.out) (g.N.Sink.held c.args.notes.now) (g.N.Sink.faults c.args.notes.now) (s, reads, same) c.in-Ok-write_pieces.ensures

pub returns : goal.returns
returns g c = λ b s reads is.
    let same = ap joined c.deref.ensures.value ∙ joined_is c.in-Ok.pieces.items ∙ c.in-Ok.ensures ∙ is in
    cut_off _ (given.Convert conversion.Canon) b (joined c.deref.result.now) (side g.W.Sink.held g.W.Sink.faults c.args.out.now c.write_pieces.new.out) _ c.ended-in-Err-write_pieces.ensures.same (s, reads, same) c.in-Err-write_pieces.ensures
    c.ended-in-Err-write_pieces.ensures.noted
