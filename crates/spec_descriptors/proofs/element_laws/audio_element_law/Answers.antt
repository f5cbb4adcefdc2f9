use Rattle.spec_descriptors.proofs.ElementIs.{audio_element_syntax}
use Rattle.spec_descriptors.proofs.element_laws.audio_element_law.Goals as goal

pub returns : goal.returns
returns c = audio_element_syntax
