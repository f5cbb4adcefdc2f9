use Rattle.std.proofs.Common.{◌∙◌}
use Rattle.spec_rules.specs.Descriptors.{elements}
use Rattle.iamf_rules.proofs.KeptDescriptors.{fits_one, fits_many}
use Rattle.iamf_rules.proofs.rules.Rules.fits.Goals as goal

pub returns-then-sub_mixes-eq1 : goal.returns-then-sub_mixes-eq1
returns-then-sub_mixes-eq1 c = λ l m st are count.
    c.fits.ensures (elements l) st.descriptors.totals ∙ fits_one c.args.self.now.descriptors l m c.args.elements.now c.args.sub_mixes st.descriptors are count c.if-sub_mixes-eq1.true

pub returns-else-sub_mixes-eq1 : goal.returns-else-sub_mixes-eq1
returns-else-sub_mixes-eq1 c = λ l m st are count. fits_many c.args.self.now.descriptors l m c.args.sub_mixes st.descriptors count c.if-sub_mixes-eq1.false
