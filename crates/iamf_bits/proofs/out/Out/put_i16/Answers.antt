use Rattle.std.proofs.Common.{◌≡◌, ap, arith, ◌∙◌}
use Rattle.std.proofs.Math.Facts.{to_z-of_z}
use Rattle.std.proofs.lemmas.Int.{ints}
use Rattle.std.specs.Int.{w16}
use mir.Val.{SFits}
use Rattle.spec_bits.specs.Bits.{unsigned_of}
use Rattle.spec_bits.specs.Form.{canonical}
use Rattle.iamf_bits.proofs.out.Out.put_i16.Goals as goal

pub returns-clause-bits : goal.returns-clause-bits
unfolding canonical
returns-clause-bits c =
    let fits : SFits w16 c.args.value = omega (arith, ints, c.ranges.value.sfits) in
    let same : c.from.result ≡ unsigned_of 16 c.args.value = c.from.ensures ∙ c.unsigned.ensures ∙ ap (unsigned_of 16) (to_z-of_z fits) in
    rw (← same) c.put_bits.ensures.bits
