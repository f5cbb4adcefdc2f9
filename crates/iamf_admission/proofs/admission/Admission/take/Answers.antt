use Rattle.std.proofs.Common.{◌≡◌, ◌<◌, ◌^◌, length, sym, ap, subst, ◌∙◌, arith}
use Rattle.std.specs.Prelude.{Option, Some, Err}
use Rattle.iamf_bits.specs.declared.unread.Unread.TheVariants as unread
use Rattle.iamf_admission.specs.declared.kept.Kept.{Kept}
use Rattle.iamf_admission.specs.AdmissionView.{AdmissionValue, KeepsAll}
use Rattle.iamf_admission.specs.Standing as kept
use Rattle.iamf_admission.proofs.admission.Admission.take.Goals as goal

pub returns-in-Err-Fault-clause-takes : goal.returns-in-Err-Fault-clause-takes
returns-in-Err-Fault-clause-takes c = λ past st.
    let value : AdmissionValue = c.args.self.now in
    let was : value.kept ≡ Some c.in-Some.kept = ap (λ (v : AdmissionValue). v.kept) (sym c.self.view_is) ∙ c.in-Some.is in
    let same : c.self.inside.admitted ≡ length past = ap (λ (v : AdmissionValue). v.admitted) c.self.view_is ∙ st.count in
    let few : length past < 2 ^ 40 = omega (arith, st.count, c.requires.room) in
    let stands = subst (λ (k : Option Kept). KeepsAll k past) was st.kept_are in
    let steps : kept.Steps c.take.new.self (Err (unread.Fault c.in-Err-Fault.fault)) past c.args.obu.now = rw c.in-Err-Fault.field-0-is at (c.in-Err-Fault.ensures {u = tt} past stands few) in
    (steps.0, record { kept_are = steps.1; count = same })
