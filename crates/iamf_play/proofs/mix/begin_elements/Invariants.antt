use Rattle.spec_play.specs.Mixes.{Rendition}
use Rattle.iamf_play.specs.PlayedElements.{AreParts}
use Rattle.iamf_play.proofs.ElementWalks.{ArePartly}
use Rattle.iamf_play.proofs.mix.begin_elements.Given as goal

abbrev pub invariant-loop-element : goal.invariant-loop-element
invariant-loop-element l = (r : Rendition) → AreParts l.sequence r l.u l.initial.elements → ArePartly l.sequence r l.u l.element-index l.elements
