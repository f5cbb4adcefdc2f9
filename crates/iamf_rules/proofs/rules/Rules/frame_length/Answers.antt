use Rattle.std.proofs.Common.{◌∙◌}
use Rattle.iamf_rules.proofs.Faulting.{kept_length}
use Rattle.iamf_rules.proofs.rules.Rules.frame_length.Goals as goal

pub returns : goal.returns
returns c = λ l st. c.length.ensures ∙ kept_length c.args.self.now.descriptors l st.descriptors
