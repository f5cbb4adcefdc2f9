use Rattle.std.proofs.Common.{refl}
use Rattle.obu_descriptors.specs.ElementView.{view_element}
use Rattle.iamf_channels.proofs.ParameterSteps.{first_has}
use Rattle.iamf_channels.proofs.parameters.first_demixing.Goals as goal

pub returns-clause-has : goal.returns-clause-has
returns-clause-has c = λ r e passed.
    first_has r (view_element c.args.element.now) (record { definition = c.definition_of.result; index = 0; params = c.params_of.result }) refl (c.definition_of.ensures.by r e) (c.definition_of.ensures.unreserved r e passed)
    (record { mode = c.params_of.ensures.mode; weight = c.params_of.ensures.weight })
