use Rattle.std.proofs.Common.{arith}
use Rattle.std.proofs.lemmas.Int.{ints}
use Rattle.mix_fixed.proofs.QuietLemmas.{below_more, side_more, tops_more}
use Rattle.mix_fixed.proofs.scaled.most_of.Goals as goal

pub returns : goal.returns
returns c =
    let s = c.args.sent.now in
    let all = c.both-2.result in
    let inner = c.both.ensures in
    let outer = c.both-2.ensures in
    let m = c.both-middle.ensures in
    let d = c.both-sides.ensures in
    let t = c.both-tops.ensures in
    let w1 = m.whole_left in
    let w2 = m.whole_right in
    let r1 = m.rest_left in
    let r2 = m.rest_right in
    let w3 = inner.whole_left in
    let r3 = inner.rest_left in
    let w4 = outer.whole_left in
    let r4 = outer.rest_left in
    let w5 = d.whole_left in
    let r5 = d.rest_left in
    let w6 = d.whole_right in
    let r6 = d.rest_right in
    let w7 = inner.whole_right in
    let r7 = inner.rest_right in
    let w8 = outer.whole_right in
    let r8 = outer.rest_right in
    let w9 = t.whole_left in
    let r9 = t.rest_left in
    let w0 = t.whole_right in
    let r0 = t.rest_right in
    record {
      mono = below_more c.pair.result all s.mono (omega (arith, ints, w1, w3, w4)) (omega (arith, ints, r1, r3, r4)) c.pair.ensures.left;
      center = below_more c.pair.result all s.center (omega (arith, ints, w1, w3, w4)) (omega (arith, ints, r1, r3, r4)) c.pair.ensures.right;
      low = below_more c.pair-2.result all s.low (omega (arith, ints, w2, w3, w4)) (omega (arith, ints, r2, r3, r4)) c.pair-2.ensures.left;
      left = side_more c.most_of_side.result all s.left (omega (arith, ints, w5, w7, w4)) (omega (arith, ints, r5, r7, r4)) c.most_of_side.ensures;
      right = side_more c.most_of_side-2.result all s.right (omega (arith, ints, w6, w7, w4)) (omega (arith, ints, r6, r7, r4)) c.most_of_side-2.ensures;
      left_top = tops_more c.most_of_tops.result all s.left_top (omega (arith, ints, w9, w8)) (omega (arith, ints, r9, r8)) c.most_of_tops.ensures;
      right_top = tops_more c.most_of_tops-2.result all s.right_top (omega (arith, ints, w0, w8)) (omega (arith, ints, r0, r8)) c.most_of_tops-2.ensures;
    }
