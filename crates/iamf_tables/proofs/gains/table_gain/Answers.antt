use Rattle.std.proofs.Common.{arith, ◌≡◌, ◌<◌, ◌≤◌}
use Rattle.spec_gains.specs.Gains.{scaled}
use Rattle.spec_gains.proofs.GainLemmas.{scaled_most}
use Rattle.iamf_tables.proofs.gains.table_gain.Goals as goal

pub scale-fine-requires-clause-x : goal.scale-fine-requires-clause-x
scale-fine-requires-clause-x c = let m = c.high.ensures.most in omega arith

pub scale-fine-requires-clause-y : goal.scale-fine-requires-clause-y
scale-fine-requires-clause-y c = let m = c.low.ensures.most in omega arith

pub scale-whole-requires-clause-y : goal.scale-whole-requires-clause-y
scale-whole-requires-clause-y c =
    let m = scaled_most c.high.result c.low.result 1113973859936 1006768659290 c.high.ensures.most c.low.ensures.most in
    let e = c.scale-fine.ensures in
    omega arith

pub shift-requires-clause-q : goal.shift-requires-clause-q
shift-requires-clause-q c =
    let m = scaled_most c.high.result c.low.result 1113973859936 1006768659290 c.high.ensures.most c.low.ensures.most in
    let e = c.scale-fine.ensures in
    let f = c.scale-whole.ensures in
    let fine : c.scale-fine.result ≤ 1200000000000 = omega arith in
    let n = scaled_most c.coarse.result c.scale-fine.result 8912509381337 1200000000000 c.coarse.ensures.most fine in
    omega arith
