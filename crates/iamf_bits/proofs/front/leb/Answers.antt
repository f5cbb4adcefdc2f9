use Rattle.std.proofs.Common.{arith, slice_index_or}
use Rattle.iamf_bits.proofs.LebLoop.{is_begun, is_short, is_endless, is_number, is_large, fits, goes_on}
use Rattle.iamf_bits.proofs.front.leb.Goals as goal

pub loop-i-init : goal.loop-i-init
loop-i-init c = is_begun c.args.bytes.now

pub returns-then-i-bytes : goal.returns-then-i-bytes
returns-then-i-bytes c = is_short _ _ _ _ c.loop-i.invariant c.loop-i-test.true c.if-i-bytes.true

pub overflow_mul-value : goal.overflow_mul-value
overflow_mul-value c = let f = fits _ _ _ _ (slice_index_or c.args.bytes.now c.loop-i.i 0) c.loop-i.invariant c.loop-i-test.true in rw c.from.ensures (omega (arith, f.0))

pub overflow_add-value : goal.overflow_add-value
overflow_add-value c = let f = fits _ _ _ _ (slice_index_or c.args.bytes.now c.loop-i.i 0) c.loop-i.invariant c.loop-i-test.true in rw c.from.ensures (omega (arith, f.1))

pub returns-then-value : goal.returns-then-value
returns-then-value c = rw c.from.ensures (omega arith, is_number _ _ _ _ c.loop-i.invariant c.loop-i-test.true c.if-i-bytes.false c.if-byte-lt128.true (rw c.from.ensures at c.if-value.true))

pub returns-else-value : goal.returns-else-value
returns-else-value c = is_large _ _ _ _ c.loop-i.invariant c.loop-i-test.true c.if-i-bytes.false c.if-byte-lt128.true (rw c.from.ensures at c.if-value.false)

pub overflow_mul-scale : goal.overflow_mul-scale
overflow_mul-scale c = let f = fits _ _ _ _ (slice_index_or c.args.bytes.now c.loop-i.i 0) c.loop-i.invariant c.loop-i-test.true in omega (arith, f.2)

pub loop-i-preserved : goal.loop-i-preserved
loop-i-preserved c = rw c.from.ensures (goes_on _ _ _ _ c.loop-i.invariant c.loop-i-test.true c.if-i-bytes.false c.if-byte-lt128.false)

pub returns : goal.returns
returns c = is_endless _ _ _ _ c.loop-i.invariant c.loop-i-test.false
