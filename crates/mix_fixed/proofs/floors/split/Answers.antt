use Rattle.std.proofs.Common.{arith, ◌≡◌, ◌<◌, pos, ◌+ℤ◌, ◌-ℤ◌, ◌*ℤ◌, unsigned_abs, FitsSigned}
use Rattle.std.specs.Int.{w64}
use Rattle.std.specs.Int.Signed.{quot_z, rem_z}
use Rattle.std.proofs.lemmas.Int.{ints, to_z-of_z, quot-rem, rem_below, quot_fits}
use Rattle.mix_fixed.proofs.FloorParts.{one_less, split_quotient}
use Rattle.mix_fixed.proofs.floors.split.Goals as goal

pub returns : goal.returns
returns c =
    let x = c.args.x in
    let n = c.args.bottom in
    let least = c.requires.least in
    let few = c.requires.most in
    let small = c.requires.small in
    let q = quot_z x (pos n) in
    let r = rem_z x (pos n) in
    let whole : q *ℤ pos n +ℤ r ≡ x = quot-rem x (pos n) in
    let below : unsigned_abs r < n = rem_below x (pos n) (omega (arith, least)) in
    let m = split_quotient x q r n least whole below small in
    let fx : FitsSigned w64 x = c.ranges.x in
    let fn : FitsSigned w64 (pos n) = omega (arith, ints, few) in
    let fq : FitsSigned w64 q = quot_fits w64 x (pos n) fx (omega (arith, ints, least)) in
    let fr : FitsSigned w64 r = omega (arith, ints, below, few) in
    let fl : FitsSigned w64 (q -ℤ pos 1) = omega (arith, ints, m, small, few) in
    let fs : FitsSigned w64 (r +ℤ pos n) = omega (arith, ints, below, few) in
    let e : pos (unsigned_abs (r +ℤ pos n)) ≡ r +ℤ pos n = omega (arith, ints, below) in
    rw c.from-bottom.ensures (simp to_z-of_z (record { whole = rw e (one_less x q r n whole); rest = omega (arith, ints, below, few); small = omega (arith, ints, m, few) }))
