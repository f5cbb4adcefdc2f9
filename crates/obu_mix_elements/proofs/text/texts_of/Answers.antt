use Rattle.std.proofs.Common.{refl}
use Rattle.spec_syntax.proofs.Reading.{each_goes_on, each_done}
use Rattle.spec_descriptors.specs.MixPresentation.{text_in, texts}
use Rattle.std.proofs.lemmas.List.{map_push}
use Rattle.obu_mix_elements.proofs.text.texts_of.Goals as goal

pub loop-preserved : goal.loop-preserved
loop-preserved c = (
  c.in_ok-text.ensures.on_byte,
  rw (c.in_ok-push.ensures.ok, map_push) (each_goes_on _ text_in _ _ _ _ _ _ _ c.loop-test.true (rw c.in_ok-text.ensures.takes refl) c.loop.invariant.1),
)

pub returns : goal.returns
unfolding texts
returns c = (each_done _ text_in _ _ _ _ _ c.loop-test.false c.loop.invariant.1, c.loop.invariant.0)
