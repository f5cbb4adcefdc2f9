use Rattle.std.proofs.Common.{arith}
use Rattle.spec_boxes.proofs.Rows.{sum_words_next}
use Rattle.mp4_boxes.proofs.stts.sum_counts.Goals as goal

pub loop-i-preserved : goal.loop-i-preserved
loop-i-preserved c =
    let e = sum_words_next 8 c.args.count c.args.bytes.now c.args.start c.loop-i.i c.loop-i.total c.loop-i-test.true in
    record { so_far = omega (arith, e, c.loop-i.invariant.so_far, c.from-total.ensures, c.read_word.ensures); small = omega (arith, c.loop-i.invariant.small, c.from-total.ensures, c.read_word.type_inv) }
