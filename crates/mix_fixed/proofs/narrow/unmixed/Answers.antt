use Rattle.std.proofs.Common.{arith, ◌≡◌, ◌≤◌, ℕ, ℤ, pos, ◌-ℤ◌, ◌*ℤ◌}
use Rattle.spec_demix.specs.Floor.{floor_of}
use Rattle.mix_fixed.specs.Quiet.{hundredth}
use Rattle.mix_fixed.specs.Within.{AtMost}
use Rattle.mix_fixed.proofs.Held.{held, less_is}
use Rattle.mix_fixed.proofs.FloorSizes.{unmixed_most}
use Rattle.mix_fixed.proofs.narrow.unmixed.Goals as goal

-- one side
of_side : (n : ℕ) (whole part x : ℤ) → 707 ≤ n → n ≤ 866 → AtMost hundredth 422 whole → AtMost hundredth 100 part → x ≡ floor_of (pos 1000 *ℤ held (held whole -ℤ held part)) n
    → (x ≡ floor_of (pos 1000 *ℤ (whole -ℤ part)) n) × AtMost hundredth 740 x
of_side n whole part x least most w p k =
    let e = rw (less_is 422 100 whole part (omega arith) w p) at k in
    (e, rw e (unmixed_most hundredth whole part n (omega arith) least most w p))

pub returns : goal.returns
returns c =
    let left = of_side c.args.coefficient c.args.whole.left c.args.part.left _ c.requires.least c.requires.most c.requires.whole_left c.requires.part_left c.over_both.ensures.left in
    let right = of_side c.args.coefficient c.args.whole.right c.args.part.right _ c.requires.least c.requires.most c.requires.whole_right c.requires.part_right c.over_both.ensures.right in
    record { left = left.0; right = right.0; most_left = left.1; most_right = right.1 }
