use Rattle.std.proofs.Common.{arith, ◌^◌, ◌≤◌, ◌-◌}
use Rattle.std.proofs.Math.Pow.{pow_mono}
use Rattle.std.proofs.lemmas.Nat.{pow_pos}
use Rattle.mix_fixed.proofs.output.half_range.Goals as goal

pub returns : goal.returns
returns c =
    let small : 2 ^ (c.args.depth - 1) ≤ 2 ^ 31 = pow_mono {j = 31} (omega arith) in
    let some = pow_pos (c.args.depth - 1) in
    record { value = omega arith; small = small; some = some }
