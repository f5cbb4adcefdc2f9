use Rattle.std.proofs.Common.{◌<◌, length, sym, ap, subst, ◌∙◌, arith}
use Rattle.iamf_sequence.specs.SequenceValue.{SequenceValue}
use Rattle.iamf_sequence.specs.SequenceView.{IsSequence}
use Rattle.iamf_sequence.proofs.UnitNumbers.{number_at}
use Rattle.iamf_sequence.proofs.SequenceParts.{obus_counted}
use Rattle.iamf_sequence.proofs.sequence.Sequence.unit_of.Goals as goal

pub returns : goal.returns
returns c =
    let is = subst (λ (v : SequenceValue). IsSequence c.self.inside.parts v) c.self.view_is c.self.invariant in
    c.index_of.ensures ∙ number_at c.self.inside.parts c.args.self.now c.as_slice-obus.result.now c.args.i _ c.as_slice-obus.ensures.value c.requires is

pub prove-unreachable-requires : goal.prove-unreachable-requires
prove-unreachable-requires c =
    let is = subst (λ (v : SequenceValue). IsSequence c.self.inside.parts v) c.self.view_is c.self.invariant in
    let below : c.args.i < length c.as_slice-obus.result.now = subst (λ n. c.args.i < n) (sym (ap length c.as_slice-obus.ensures.value ∙ obus_counted c.self.inside.parts c.args.self.now is)) c.requires in
    omega (arith, below)
