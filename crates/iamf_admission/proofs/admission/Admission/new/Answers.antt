use Rattle.std.proofs.Common.{[], refl}
use Rattle.iamf_admission.proofs.admission.Admission.new.Goals as goal

pub invariant_of-result : goal.invariant_of-result
invariant_of-result c = ([], c.new.ensures, refl)

pub returns : goal.returns
returns c = record { kept_are = c.new.ensures; count = refl }
