use Rattle.std.proofs.Common.{subst, ◌∙◌}
use Rattle.spec_bits.specs.Bits.{AreBytes}
use Rattle.iamf_sequence.specs.SequenceValue.{SequenceValue}
use Rattle.iamf_sequence.specs.SequenceView.{IsSequence}
use Rattle.iamf_sequence.proofs.ViewsOfObus.{view_of_obu}
use Rattle.iamf_sequence.proofs.WrittenObus.{one_spelling}
use Rattle.iamf_sequence.proofs.encoding.encode_obu.Goals as goal

pub put_obu-requires-clause-view : goal.put_obu-requires-clause-view
put_obu-requires-clause-view c =
    let is = subst (λ (v : SequenceValue). IsSequence c.sequence.inside.parts v) c.sequence.view_is c.sequence.invariant in
    let are = subst AreBytes (c.as_bytes_below_256-bytes.ensures.same ∙ c.bytes.ensures.same) c.as_bytes_below_256-bytes.ensures.below in
    (c.obu.ensures.entry.value, view_of_obu c.sequence.inside.parts c.args.sequence.now c.args.i c.obu.result.now _ _ are is c.obu.ensures (c.from-frame_length.ensures ∙ c.frame_length.ensures c.args.sequence.now.entries is.admission) c.definitions.ensures)

pub returns : goal.returns
returns c =
    let is = subst (λ (v : SequenceValue). IsSequence c.sequence.inside.parts v) c.sequence.view_is c.sequence.invariant in
    let are = subst AreBytes (c.as_bytes_below_256-bytes.ensures.same ∙ c.bytes.ensures.same) c.as_bytes_below_256-bytes.ensures.below in
    let view = view_of_obu c.sequence.inside.parts c.args.sequence.now c.args.i c.obu.result.now _ _ are is c.obu.ensures (c.from-frame_length.ensures ∙ c.frame_length.ensures c.args.sequence.now.entries is.admission) c.definitions.ensures in
    let spelled = subst AreBytes (c.as_bytes_below_256-spelling.ensures.same ∙ c.as_slice.ensures.value) c.as_bytes_below_256-spelling.ensures.below in
    one_spelling _ _ c.obu.result.now c.args.sequence.now.entries c.args.i c.obu.ensures.entry c.finish-spelling.result.items _ _ view c.obu.ensures.there spelled c.finish-spelling.ensures c.in_ok-put_obu.ensures.bits c.new-out.ensures.bits
