-- The roles of OBUs that an admission stands for are admitted.
use Rattle.std.proofs.Common.{List}
use Rattle.std.specs.Prelude.{Option, Some, None}
use Rattle.spec_rules.specs.Admitted.{IsAdmitted}
use Rattle.spec_sequence.specs.Reading.{Entry, roles}
use Rattle.iamf_admission.specs.declared.kept.Kept.{Kept}
use Rattle.iamf_admission.specs.AdmissionView.{AdmissionValue, KeepsAll, Stands}

pub roles_admitted : (a : AdmissionValue) (l : List Entry) → Stands a l → IsAdmitted (roles l)
roles_admitted a l stands = one a.kept stands.kept_are where
  one : (kept : Option Kept) → KeepsAll kept l → IsAdmitted (roles l)
  one None is = absurd is
  one (Some k) is = is.rules.admitted
