use Rattle.std.proofs.Common.{pos, ◌*ℤ◌, FitsSigned}
use Rattle.std.specs.Int.{w64}
use Rattle.std.proofs.lemmas.Int.{to_z-of_z}
use Rattle.spec_gains.specs.Modes.{coefficients_of}
use Rattle.spec_demix.specs.Floor.{floor_of}
use Rattle.mix_fixed.specs.Scaled.{side_by}
use Rattle.mix_fixed.proofs.StepLemmas.{side_is}
use Rattle.mix_fixed.proofs.narrow.ears.Goals as goal

pub returns : goal.returns
returns g c =
    let center : FitsSigned w64 c.args.center = c.ranges.center in
    let share = floor_of (pos 707 *ℤ c.args.center) 1000 in
    let three = simp to_z-of_z at c.three-three.ensures in
    let mode = coefficients_of c.args.mode in
    let side = side_is c.args.origins.now mode in
    record {
      left = side c.args.two.left share (side_by c.args.coded.now c.args.sent.now.left) _ _ _ _ _ three.left c.samples-five.ensures.left c.surrounds-surround.ensures.left c.samples-side.ensures.left c.rears-rear.ensures.left;
      right = side c.args.two.right share (side_by c.args.coded.now c.args.sent.now.right) _ _ _ _ _ three.right c.samples-five.ensures.right c.surrounds-surround.ensures.right c.samples-side.ensures.right c.rears-rear.ensures.right;
      most_left = c.surrounds-surround.ensures.most_left;
      most_right = c.surrounds-surround.ensures.most_right;
    }
