use Rattle.std.proofs.Common.{◌≡◌, map, take}
use Rattle.std.specs.List.{flat_map}
use Rattle.iamf_admission.proofs.parts.elements_of.Given as goal

abbrev pub invariant-loop-sub_mix : goal.invariant-loop-sub_mix
invariant-loop-sub_mix l = l.ids.items ≡ flat_map (λ sub_mix. map (λ element. element.element) sub_mix.elements.items) (take l.sub_mix-index l.mix.sub_mixes.items)
