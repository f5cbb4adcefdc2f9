use Rattle.std.proofs.Common.{◌∙◌}
use Rattle.iamf_rules.proofs.Faulting.{kept_length}
use Rattle.iamf_rules.proofs.UnitCount.{samples_are}
use Rattle.spec_rules.proofs.Lawful.{lawful}
use Rattle.iamf_rules.proofs.OneMore.{small}
use Rattle.iamf_rules.proofs.rules.Rules.samples.Goals as goal

pub returns : goal.returns
returns c = λ l st. c.samples.ensures (small c.args.self.now l st) ∙ rw (c.length.ensures, kept_length c.args.self.now.descriptors l st.descriptors) (samples_are c.args.self.now.unit l (lawful l st.admitted).counted st.unit)
