use Rattle.std.proofs.Common.{◌∙◌}
use Rattle.iamf_rules.proofs.UnitCount.{units_are}
use Rattle.spec_rules.proofs.Lawful.{lawful}
use Rattle.iamf_rules.proofs.OneMore.{small}
use Rattle.iamf_rules.proofs.rules.Rules.units.Goals as goal

pub returns : goal.returns
returns c = λ l st. c.units.ensures (small c.args.self.now l st) ∙ units_are c.args.self.now.unit l (lawful l st.admitted).counted st.unit
