use Rattle.spec_descriptors.proofs.MixSteps.{mix_presentation_syntax}
use Rattle.spec_descriptors.proofs.mix_laws.mix_presentation_law.Goals as goal

pub returns : goal.returns
returns c = mix_presentation_syntax
