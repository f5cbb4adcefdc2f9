use Rattle.std.proofs.Common.{ℕ, ◌+◌, ◌^◌, ◌<◌, ◌≤◌, arith, ap}
use Rattle.std.proofs.Math.Nat.{pow-le-pow_right}
use Rattle.std.proofs.lemmas.Nat.{shl_whole, shl_below, pow_below}
use Rattle.flac_bits.proofs.rice.joined.Goals as goal

pub overflow_add-result : goal.overflow_add-result
overflow_add-result c =
    let k = c.args.parameter in
    let high : c.args.high < 2 ^ 33 = omega arith in
    let p : 2 ^ k ≤ 2 ^ 31 = omega (arith, pow_below k 31 c.requires.parameter) in
    let b = shl_below c.args.high 33 k high in
    let e = shl_whole c.args.high 33 k 64 high (omega arith) in
    let two : 0 < 2 = omega arith in
    let le : 33 + k ≤ 63 = omega arith in
    let q : 2 ^ (33 + k) ≤ 2 ^ 63 = pow-le-pow_right two le in
    omega (arith, e, b, p, q)

pub returns : goal.returns
returns c = ap (λ (n : ℕ). n + c.args.low) (shl_whole c.args.high 33 c.args.parameter 64 (omega arith) (omega arith))
