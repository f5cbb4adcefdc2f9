-- How large a value is after a gain.
use Rattle.std.proofs.Common.{arith, ◌≡◌, ◌<◌, ◌≤◌, ◌*◌, ℕ, ℤ, pos, ◌*ℤ◌, unsigned_abs}
use Rattle.std.proofs.lemmas.Int.{ints, unsigned_abs-mul}
use Rattle.std.proofs.Math.Nat.{mul-le-mul_left}
use Rattle.spec_gains.specs.Gains.{one}
use Rattle.spec_demix.proofs.FloorLemmas.{floor-low, floor-high}
use Rattle.spec_play.specs.FixedMix.{gained}

-- a gain of 32 dB multiplies by less than 40
pub gained_small : (z : ℤ) (g n : ℕ) → unsigned_abs z < n → g ≤ 39810717055340 → unsigned_abs (gained z g) ≤ 40 * n
gained_small z g n small modest =
    let m : unsigned_abs (z *ℤ pos g) ≡ unsigned_abs z * g = unsigned_abs-mul z (pos g) in
    let first : unsigned_abs z * g ≤ unsigned_abs z * 39810717055340 = mul-le-mul_left (unsigned_abs z) modest in
    let low = floor-low (z *ℤ pos g) one (omega arith) in
    let high = floor-high (z *ℤ pos g) one (omega arith) in
    omega (arith, ints)

pub gained_by_one : (z : ℤ) → z ≡ gained z one
gained_by_one z =
    let low = floor-low (z *ℤ pos one) one (omega arith) in
    let high = floor-high (z *ℤ pos one) one (omega arith) in
    omega (arith, ints)
