use Rattle.std.proofs.Common.{refl}
use Rattle.iamf_bits.proofs.Puts.{half_put_start, half_put_more, half_put_end}
use Rattle.iamf_bits.proofs.shortest_leb.shortest.Goals as goal

pub loop-rest-init : goal.loop-rest-init
loop-rest-init c = half_put_start _ c.args.value refl c.ranges.value.fits

pub loop-rest-preserved : goal.loop-rest-preserved
loop-rest-preserved c = half_put_more c.loop-rest.bytes c.loop-rest.count c.loop-rest.rest _ _ c.loop-rest-test.true refl c.loop-rest.invariant

pub returns-clause-bytes : goal.returns-clause-bytes
returns-clause-bytes c = half_put_end c.loop-rest.bytes c.loop-rest.count c.loop-rest.rest _ c.loop-rest-test.false c.loop-rest.invariant
