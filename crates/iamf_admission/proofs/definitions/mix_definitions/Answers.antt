use Rattle.std.proofs.Common.{List, [], subst, sym}
use Rattle.std.proofs.lemmas.List.Folds.{flat_map-map}
use Rattle.spec_blocks.specs.Shape.{Definition}
use Rattle.spec_sequence.specs.ValueRole.{sub_mix_definitions}
use Rattle.obu_mix.specs.SubMixView.{view_sub_mix}
use Rattle.iamf_admission.specs.Defining.{Defines}
use Rattle.iamf_admission.proofs.definitions.mix_definitions.Goals as goal

pub returns : goal.returns
returns c =
    subst (λ (ds : List Definition). Defines [] c.add_sub_mixes.new.definitions.items ds) (sym (flat_map-map sub_mix_definitions view_sub_mix c.args.mix.now.sub_mixes.items))
    (rw (c.as_slice.ensures, c.new-definitions.ensures.items) at (c.in_ok-add_sub_mixes.ensures {u = tt}))
