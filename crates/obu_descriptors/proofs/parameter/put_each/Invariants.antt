use Rattle.std.proofs.Common.{◌≡◌, ◌++◌, take, map}
use Rattle.spec_syntax.specs.Payload.{canon}
use Rattle.spec_syntax.specs.Repetition.{joined}
use Rattle.spec_descriptors.specs.ElementFields.{parameter_fields}
use Rattle.obu_descriptors.specs.ParameterView.{view_param}
use Rattle.obu_descriptors.proofs.parameter.put_each.Given as goal

abbrev pub invariant-loop-param : goal.invariant-loop-param
invariant-loop-param l = (l.out.used ≡ 0) × (l.out.bits ≡ l.fn.out.bits ++ canon (joined parameter_fields (map view_param (take l.param-index l.params))))
