use Rattle.std.proofs.Common.{sym, ap, ◌∙◌}
use Rattle.spec_rules.specs.Units.{unit_count}
use Rattle.spec_sequence.specs.Reading.{roles, values_of}
use Rattle.spec_sequence.proofs.Roles.{roles_of_values}
use Rattle.spec_rules.specs.Samples.{kept}
use Rattle.iamf_admission.proofs.kept.Kept.end.Goals as goal

pub returns-in-Some : goal.returns-in-Some
returns-in-Some c = λ past st. sym (c.end_fault.ensures (roles past) st.rules) ∙ c.in-Some.is

pub returns : goal.returns
returns c = λ past st. (
  sym (c.end_fault.ensures (roles past) st.rules) ∙ c.in_default.is,
  c.finish.ensures (values_of past) st.tally (c.units.ensures (roles past) st.rules ∙ ap unit_count (sym (roles_of_values past))) (c.samples.ensures (roles past) st.rules ∙ ap kept (sym (roles_of_values past))),
)
