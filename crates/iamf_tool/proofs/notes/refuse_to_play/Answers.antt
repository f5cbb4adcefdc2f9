use Rattle.std.proofs.Common.{◌∙◌, ℕ, List, subst}
use Rattle.iamf_tool.specs.Ends.{side, Noted}
use Rattle.iamf_tool.proofs.notes.refuse_to_play.Goals as goal

pub returns-in-Ok : goal.returns-in-Ok
returns-in-Ok g c = subst (λ (text : List ℕ). Noted (side g.N.Sink.held g.N.Sink.faults c.args.notes.now c.note.new.notes) text) (c.deref.ensures.value ∙ c.in-Ok.ensures) c.note.ensures
