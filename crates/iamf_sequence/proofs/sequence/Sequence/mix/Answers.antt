use Rattle.std.proofs.Common.{◌<◌, sym, subst}
use Rattle.iamf_sequence.specs.SequenceValue.{SequenceValue}
use Rattle.iamf_sequence.specs.SequenceView.{IsSequence}
use Rattle.iamf_sequence.proofs.SequenceParts.{mixes_counted, found_at}
use Rattle.iamf_sequence.specs.ContentsView.{mix_and_tail}
use Rattle.iamf_sequence.proofs.sequence.Sequence.mix.Goals as goal

pub returns-clause-tail : goal.returns-clause-tail
returns-clause-tail c =
    let is = subst (λ (v : SequenceValue). IsSequence c.self.inside.parts v) c.self.view_is c.self.invariant in
    let below = subst (λ n. c.args.i < n) (sym (mixes_counted c.self.inside.parts c.args.self.now is)) c.requires in
    found_at mix_and_tail c.self.inside.parts.mixes.items c.as_slice.result.now _ c.args.i c.index-as_slice-i.result c.as_slice.ensures.value c.index-as_slice-i.is below is.mix_tails
