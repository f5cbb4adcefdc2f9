use Rattle.std.proofs.Common.{subst}
use Rattle.iamf_sequence.specs.SequenceValue.{SequenceValue}
use Rattle.iamf_sequence.specs.SequenceView.{IsSequence}
use Rattle.iamf_sequence.proofs.sequence.Sequence.codec.Goals as goal

pub returns-clause-tail : goal.returns-clause-tail
returns-clause-tail c =
    let is = subst (λ (v : SequenceValue). IsSequence c.self.inside.parts v) c.self.view_is c.self.invariant in
    is.codec_tail
