use Rattle.spec_sequence.specs.ValueRole.{sub_mix_definitions}
use Rattle.obu_mix.specs.SubMixView.{view_sub_mix}
use Rattle.iamf_admission.proofs.Defining.{adds_none, adds_more}
use Rattle.iamf_admission.proofs.definitions.add_sub_mixes.Goals as goal

pub loop-sub_mix-init : goal.loop-sub_mix-init
loop-sub_mix-init c = adds_none c.args.definitions.now.items

pub loop-sub_mix-preserved : goal.loop-sub_mix-preserved
loop-sub_mix-preserved c =
    adds_more (λ s. sub_mix_definitions (view_sub_mix s)) c.args.sub_mixes.now c.loop-sub_mix.sub_mix-index c.sub_mix-item.result _ _ _ c.loop-sub_mix-test.true c.sub_mix-item.is c.loop-sub_mix.invariant (c.in_ok-add_sub_mix.ensures {u = tt})
