use Rattle.std.proofs.Common.{arith, refl, ◌∙◌, sym}
use Rattle.spec_bits.specs.Bits.{number_of, all_bits}
use Rattle.spec_bits.proofs.ByteNumbers.{number_more, number_below}
use Rattle.flac_bits.proofs.window.number.Goals as goal

pub loop-byte-init : goal.loop-byte-init
unfolding number_of all_bits
loop-byte-init c = refl

pub overflow_mul-sum : goal.overflow_mul-sum
overflow_mul-sum c = omega (arith, number_below c.args.bytes.now c.loop-byte.byte-index (omega arith) (omega arith))

pub overflow_add-sum : goal.overflow_add-sum
overflow_add-sum c = omega (arith, number_below c.args.bytes.now c.loop-byte.byte-index (omega arith) (omega arith), c.type_inv.bytes c.loop-byte.byte-index)

pub loop-byte-preserved : goal.loop-byte-preserved
loop-byte-preserved c =
    let f = c.type_inv.bytes c.loop-byte.byte-index in
    sym (number_more c.args.bytes.now c.loop-byte.byte-index c.loop-byte-test.true (omega arith) ∙ omega (arith, c.loop-byte.invariant, c.from.ensures))
