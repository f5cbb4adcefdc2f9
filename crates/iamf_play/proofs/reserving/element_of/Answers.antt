use Rattle.std.proofs.Common.{sym, ap, subst}
use Rattle.obu_descriptors.specs.ElementView.{view_element}
use Rattle.obu_mix_elements.specs.MixGainView.{view_mix_gain}
use Rattle.spec_play.specs.declared.target.Target.{Target}
use Rattle.iamf_sequence.specs.SequenceValue.{SequenceValue}
use Rattle.iamf_channels.specs.Heard.{IsHeard}
use Rattle.iamf_play.proofs.PlanParts.{heard_in, made_part, made_channels}
use Rattle.iamf_play.proofs.reserving.element_of.Goals as goal

pub new-requires : goal.new-requires
new-requires c =
    let p = c.args.plan.now in
    let one = c.one_rendition.ensures in
    let el = view_element c.element.result.now in
    let said = c.element.ensures.says one.0 one.1 in
    let heard = heard_in p one.0 c.args.i said.0 el one.1 said.1 said.2 c.element.ensures.valid in
    record { heard = (one.0, subst (λ (t : Target). IsHeard c.sequence.result.now el t one.0) (sym c.target.ensures) (subst (λ (s : SequenceValue). IsHeard s el p.target one.0) (sym c.sequence.ensures) heard)) }

pub returns : goal.returns
returns c = λ r m is long there.
    let p = c.args.plan.now in
    let el = view_element c.element.result.now in
    let a = c.element.ensures.says r is in
    let b = c.element_gain.ensures r is in
    made_part p r c.args.i m a.0 b.0 el (view_mix_gain c.element_gain.result.now) (record { channels = c.in_ok-channels.channels; gains = c.in_ok-gains.gains }) is there a.1 a.2 c.element.ensures.valid b.1 b.2
    (record { channels = made_channels p c.sequence.result.now el c.target.result c.in_ok-channels.channels c.in_ok-channels.ensures c.sequence.ensures c.target.ensures; gain_is = ap view_mix_gain c.in_ok-gains.ensures.gain })
    (c.in_ok-gains.ensures.ready r long)
