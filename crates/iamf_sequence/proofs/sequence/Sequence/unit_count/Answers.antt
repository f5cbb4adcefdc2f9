use Rattle.std.proofs.Common.{length, ap, subst, ◌∙◌}
use Rattle.iamf_sequence.specs.SequenceValue.{SequenceValue}
use Rattle.iamf_sequence.specs.SequenceView.{IsSequence}
use Rattle.iamf_sequence.proofs.SequenceParts.{units_counted}
use Rattle.iamf_sequence.proofs.sequence.Sequence.unit_count.Goals as goal

pub returns : goal.returns
returns c =
    let is = subst (λ (v : SequenceValue). IsSequence c.self.inside.parts v) c.self.view_is c.self.invariant in
    ap length c.as_slice.ensures.value ∙ units_counted c.self.inside.parts c.args.self.now is
