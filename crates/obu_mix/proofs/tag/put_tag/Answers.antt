use Rattle.std.proofs.Common.{[], ◌∷◌, length-append, arith}
use Rattle.spec_bits.specs.Form.{canonical}
use Rattle.obu_mix.proofs.TagsOfTail.{two_texts}
use Rattle.obu_mix.proofs.tag.put_tag.Goals as goal

pub put_text-requires-clause-short : goal.put_text-requires-clause-short
put_text-requires-clause-short c = omega (arith, c.requires.texts.0.short, length-append c.args.tag.now.name.now (0 ∷ []))

pub returns-clause-bits : goal.returns-clause-bits
unfolding canonical
returns-clause-bits c = two_texts _ _ _ c.args.tag.now.name.now c.args.tag.now.value.now c.in_ok-put_text.ensures.bits c.in_ok-put_text-2.ensures.bits
