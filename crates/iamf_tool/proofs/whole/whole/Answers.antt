use Rattle.std.proofs.Common.{ℕ, List, subst}
use Rattle.iamf_tool.specs.declared.command.Command.TheVariants as given
use Rattle.iamf_tool.specs.Ends.{side, ran, Concludes}
use Rattle.iamf_tool.proofs.Concluded.{concluded}
use Rattle.iamf_tool.proofs.whole.whole.Goals as goal

pub returns-in-Ok : goal.returns-in-Ok
returns-in-Ok g c =
    let out = side g.W.Sink.held g.W.Sink.faults c.args.out.now c.convert.new.out in
    let notes = side g.N.Sink.held g.N.Sink.faults c.args.notes.now c.convert.new.notes in
    concluded c.convert.result (given.Convert c.args.conversion) (ran (side g.R.Source.left g.R.Source.faults c.args.source.now c.read_all.new.source) out notes) c.in-Ok.bytes.items c.in-Ok.ensures.all c.in-Ok.ensures.cause
    (subst (λ (b : List ℕ). Concludes c.convert.result (given.Convert c.args.conversion) b out notes) c.deref.ensures.value c.convert.ensures)
