use Rattle.std.proofs.Common.{◌∙◌}
use Rattle.std.proofs.lemmas.List.Elements.{All-nil}
use Rattle.obu_data.specs.ShapeView.{MayDefine}
use Rattle.obu_data.specs.declared.definition.Definition.{Definition}
use Rattle.iamf_admission.proofs.MixIds.{named_viewed}
use Rattle.iamf_admission.proofs.parts.mix_parts.Goals as goal

pub returns-clause-parts : goal.returns-clause-parts
returns-clause-parts c = record { elements = c.in_ok-elements.ensures ∙ named_viewed c.args.mix.now.sub_mixes.items; definitions = c.in_ok-definitions.ensures }

pub returns-clause-allowed : goal.returns-clause-allowed
returns-clause-allowed c = c.in_ok-definitions.ensures.allowed (All-nil (λ (d : Definition). MayDefine d.shape))
