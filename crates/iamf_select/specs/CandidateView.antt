-- What would be heard of a candidate.
use Rattle.std.specs.Prelude.{List}
use Rattle.spec_sequence.specs.Parts.{audio_elements}
use Rattle.spec_sequence.specs.Reading.{values_of}
use Rattle.spec_play.specs.Mixes.{MixedElement, Rendition, rendition, mixed_element}
use Rattle.obu_descriptors.specs.ElementView.{view_element}
use Rattle.obu_mix.specs.SubMixView.{view_sub_mix}
use Rattle.obu_mix_elements.specs.MixGainView.{view_mix_gain}
use Rattle.obu_mix_elements.specs.MixElementView.{view_mix_element}
use Rattle.obu_mix_elements.specs.declared.mix_element.MixElement.{MixElement}
use Rattle.iamf_select.specs.declared.candidate.Candidate.{Candidate}
use Rattle.iamf_select.specs.declared.candidate.Heard.{Heard}

abbrev pub heard : Candidate → Rendition
heard c = rendition (values_of c.sequence.now.entries) c.target (view_sub_mix c.sub_mix.now)

-- the element that the mix names, if it is there
abbrev pub heard_by : Candidate → MixElement → List MixedElement
heard_by c named = mixed_element (audio_elements (values_of c.sequence.now.entries)) (view_mix_element named)

abbrev pub view_heard : Heard → MixedElement
view_heard h = record { element = view_element h.element.now; gain = view_mix_gain h.gain.now }
