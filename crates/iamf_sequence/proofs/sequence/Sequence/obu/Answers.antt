use Rattle.std.proofs.Common.{◌<◌, List, length, sym, ap, subst, ◌∙◌, arith}
use Rattle.iamf_sequence.specs.SequenceValue.{SequenceValue}
use Rattle.iamf_sequence.specs.SequenceView.{AreViews, views_of, IsSequence}
use Rattle.iamf_sequence.proofs.SequenceParts.{obus_counted}
use Rattle.iamf_sequence.proofs.ObuPlaces.{obu_at}
use Rattle.iamf_sequence.specs.declared.parts.Placed.{Placed}
use Rattle.iamf_sequence.specs.Places.{Tiles}
use Rattle.iamf_sequence.proofs.sequence.Sequence.obu.Goals as goal

pub returns : goal.returns
returns c =
    let is = subst (λ (v : SequenceValue). IsSequence c.self.inside.parts v) c.self.view_is c.self.invariant in
    let value = sym c.as_slice-obus.ensures.value in
    let below = subst (λ n. c.args.i < n) (sym (ap length c.as_slice-obus.ensures.value ∙ obus_counted c.self.inside.parts c.args.self.now is)) c.requires in
    obu_at c.args.self.now c.as_slice-obus.result.now c.args.i _ is.read.admitted (subst (λ (ps : List Placed). Tiles c.args.self.now.bytes 0 (views_of ps) (length c.args.self.now.bytes)) value is.tiles) (subst (λ (ps : List Placed). AreViews (views_of ps) c.args.self.now.entries) value is.views) below

pub prove-unreachable-requires : goal.prove-unreachable-requires
prove-unreachable-requires c =
    let is = subst (λ (v : SequenceValue). IsSequence c.self.inside.parts v) c.self.view_is c.self.invariant in
    let below : c.args.i < length c.as_slice-obus.result.now = subst (λ n. c.args.i < n) (sym (ap length c.as_slice-obus.ensures.value ∙ obus_counted c.self.inside.parts c.args.self.now is)) c.requires in
    omega (arith, below)
