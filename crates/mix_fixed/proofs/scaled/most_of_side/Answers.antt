use Rattle.std.proofs.Common.{arith}
use Rattle.std.proofs.lemmas.Int.{ints}
use Rattle.mix_fixed.proofs.QuietLemmas.{below_more}
use Rattle.mix_fixed.proofs.scaled.most_of_side.Goals as goal

pub returns : goal.returns
returns c =
    let s = c.args.sent.now in
    let all = c.both-2.result in
    let f = c.pair-fronts in
    let m = c.pair-middle in
    let b = c.pair-backs in
    let inner = c.both.ensures in
    let outer = c.both-2.ensures in
    let w1 = inner.whole_left in
    let r1 = inner.rest_left in
    let w2 = inner.whole_right in
    let r2 = inner.rest_right in
    let w3 = outer.whole_left in
    let r3 = outer.rest_left in
    record {
      two = below_more f.result all s.two (omega (arith, ints, w1, w3)) (omega (arith, ints, r1, r3)) f.ensures.left;
      three = below_more f.result all s.three (omega (arith, ints, w1, w3)) (omega (arith, ints, r1, r3)) f.ensures.right;
      five = below_more m.result all s.five (omega (arith, ints, w2, w3)) (omega (arith, ints, r2, r3)) m.ensures.left;
      surround = below_more m.result all s.surround (omega (arith, ints, w2, w3)) (omega (arith, ints, r2, r3)) m.ensures.right;
      side = below_more b.result all s.side outer.whole_right outer.rest_right b.ensures.left;
      rear = below_more b.result all s.rear outer.whole_right outer.rest_right b.ensures.right;
    }
