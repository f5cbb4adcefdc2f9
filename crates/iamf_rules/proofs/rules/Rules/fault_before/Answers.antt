use Rattle.std.proofs.Common.{◌∙◌}
use Rattle.iamf_rules.proofs.Faulting.{early_is}
use Rattle.iamf_rules.proofs.rules.Rules.fault_before.Goals as goal

pub returns : goal.returns
returns c = λ l st. c.early_fault.ensures ∙ early_is c.args.self.now l c.args.obu_type st.unit st.descriptors
