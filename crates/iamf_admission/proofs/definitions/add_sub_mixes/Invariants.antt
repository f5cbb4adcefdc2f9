use Rattle.std.proofs.Common.{take}
use Rattle.std.specs.List.{flat_map}
use Rattle.spec_sequence.specs.ValueRole.{sub_mix_definitions}
use Rattle.obu_mix.specs.SubMixView.{view_sub_mix}
use Rattle.iamf_admission.specs.Defining.{Defines}
use Rattle.iamf_admission.proofs.definitions.add_sub_mixes.Given as goal

abbrev pub invariant-loop-sub_mix : goal.invariant-loop-sub_mix
invariant-loop-sub_mix l = Defines l.fn.definitions.items l.definitions.items (flat_map (λ s. sub_mix_definitions (view_sub_mix s)) (take l.sub_mix-index l.sub_mixes))
