use Rattle.mix_fixed.proofs.QuietLemmas.{below_more}
use Rattle.mix_fixed.proofs.scaled.most_of_tops.Goals as goal

pub returns : goal.returns
returns c =
    let s = c.args.sent.now in
    let all = c.both.result in
    let t = c.pair-two in
    let f = c.pair-four in
    let k = c.both.ensures in
    record {
      three = below_more t.result all s.three k.whole_left k.rest_left t.ensures.left;
      two = below_more t.result all s.two k.whole_left k.rest_left t.ensures.right;
      four = below_more f.result all s.four k.whole_right k.rest_right f.ensures.left;
      back = below_more f.result all s.back k.whole_right k.rest_right f.ensures.right;
    }
