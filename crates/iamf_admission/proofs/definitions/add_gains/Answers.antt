use Rattle.std.proofs.Common.{◌∷◌, []}
use Rattle.spec_sequence.specs.ValueRole.{gain_definition}
use Rattle.obu_mix_elements.specs.MixGainView.{view_mix_gain}
use Rattle.iamf_admission.proofs.Defining.{adds_none, adds_more}
use Rattle.iamf_admission.proofs.definitions.add_gains.Goals as goal

pub loop-element-init : goal.loop-element-init
loop-element-init c = adds_none c.args.definitions.now.items

pub loop-element-preserved : goal.loop-element-preserved
loop-element-preserved c =
    adds_more (λ e. gain_definition (view_mix_gain e.gain) ∷ []) c.args.elements.now c.loop-element.element-index c.element-item.result _ _ _ c.loop-element-test.true c.element-item.is c.loop-element.invariant (c.in_ok-add_gain.ensures {u = tt})
