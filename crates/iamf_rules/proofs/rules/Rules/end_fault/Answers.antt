use Rattle.std.proofs.Common.{◌∙◌}
use Rattle.iamf_rules.proofs.Faulting.{last_fault_is}
use Rattle.spec_rules.proofs.Lawful.{lawful}
use Rattle.iamf_rules.proofs.rules.Rules.end_fault.Goals as goal

pub returns : goal.returns
returns c = λ l st. c.last_fault.ensures ∙ last_fault_is c.args.self.now l (lawful l st.admitted).balanced (lawful l st.admitted).orderly st
