use Rattle.std.proofs.Common.{◌≡◌, ◌++◌, take}
use Rattle.spec_syntax.specs.Payload.{canon}
use Rattle.spec_syntax.specs.Repetition.{joined}
use Rattle.spec_descriptors.specs.MixFields.{sub_mix_fields}
use Rattle.obu_mix.specs.SubMixView.{view_sub_mix}
use Rattle.obu_mix.proofs.sub_mix.put_all_sub_mixes.Given as goal

abbrev pub invariant-loop-sub_mix : goal.invariant-loop-sub_mix
invariant-loop-sub_mix l = (l.out.used ≡ 0) × (l.out.bits ≡ l.fn.out.bits ++ canon (joined (λ s. sub_mix_fields (view_sub_mix s)) (take l.sub_mix-index l.sub_mixes)))
