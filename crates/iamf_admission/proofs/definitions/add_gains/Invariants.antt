use Rattle.std.proofs.Common.{take, ◌∷◌, []}
use Rattle.std.specs.List.{flat_map}
use Rattle.spec_sequence.specs.ValueRole.{gain_definition}
use Rattle.obu_mix_elements.specs.MixGainView.{view_mix_gain}
use Rattle.iamf_admission.specs.Defining.{Defines}
use Rattle.iamf_admission.proofs.definitions.add_gains.Given as goal

abbrev pub invariant-loop-element : goal.invariant-loop-element
invariant-loop-element l = Defines l.fn.definitions.items l.definitions.items (flat_map (λ e. gain_definition (view_mix_gain e.gain) ∷ []) (take l.element-index l.elements))
