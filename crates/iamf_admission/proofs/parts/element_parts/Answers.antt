use Rattle.std.proofs.lemmas.List.Elements.{All-nil}
use Rattle.obu_data.specs.ShapeView.{MayDefine}
use Rattle.obu_data.specs.declared.definition.Definition.{Definition}
use Rattle.iamf_admission.proofs.parts.element_parts.Goals as goal

pub returns-clause-allowed : goal.returns-clause-allowed
returns-clause-allowed c = c.in_ok-definitions.ensures.allowed (All-nil (λ (d : Definition). MayDefine d.shape))
