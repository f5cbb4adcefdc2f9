-- How large coded samples are in units.
use Rattle.std.proofs.Common.{arith, ◌≤◌, ℤ, pos, ◌*ℤ◌, ◌*◌, ◌^◌, List, length, unsigned_abs, slice_index_or}
use Rattle.std.proofs.lemmas.Int.{ints, unsigned_abs-mul}
use Rattle.std.proofs.lemmas.List.Elements.{All-get_or}
use Rattle.std.proofs.Math.Nat.{mul-le-mul}
use Rattle.spec_demix.specs.declared.Sent.{Sent}
use Rattle.spec_demix.specs.Floor.{unit}
use Rattle.spec_demix.specs.Sent.{sample_of}
use Rattle.spec_demix.specs.FixedWalk.{units_of}
use Rattle.spec_demix.specs.Sizes.{AreSamples}
use Rattle.demix_channels.specs.Room.{IsSentWithin}
use Rattle.mix_fixed.specs.Within.{AtMost}
use Rattle.spec_demix.proofs.FloorLemmas.{floor-low, floor-high}

units_most : (z : ℤ) → unsigned_abs z ≤ 2 ^ 31 * 39810717055340 → AtMost (2 ^ 58) 100 (units_of z)
units_most z h =
    let l = floor-low (z *ℤ pos unit) 1000000000000 (omega arith) in
    let k = floor-high (z *ℤ pos unit) 1000000000000 (omega arith) in
    omega (arith, ints)

pub sample_most : (coded : List ℤ) (sent : Sent) → IsSentWithin (length coded) sent → AreSamples coded → AtMost (2 ^ 58) 100 (units_of (sample_of coded sent))
sample_most coded sent w s =
    let y : unsigned_abs (slice_index_or coded sent.place (pos 0)) ≤ 2 ^ 31 = All-get_or (λ y. unsigned_abs y ≤ 2 ^ 31) coded sent.place (pos 0) w.place s in
    units_most (sample_of coded sent) (rw unsigned_abs-mul (mul-le-mul y w.factor))
