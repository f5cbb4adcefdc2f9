use Rattle.std.proofs.Common.{ℤ, ◌-ℤ◌, rules, FitsSigned, w64, to_z-of_z, ap, ◌∙◌}
use Rattle.flac_sub.proofs.Halves.{right_is}
use Rattle.flac_sub.proofs.stereo.right.Goals as goal

pub returns : goal.returns
returns c =
    let f : FitsSigned w64 c.less.result = search rules in
    let l : FitsSigned w64 c.left.result = search rules in
    let m : FitsSigned w64 c.args.middle = search rules in
    let s : FitsSigned w64 c.args.side = search rules in
    let left_is = simp to_z-of_z at c.left.ensures.is in
    let is = simp to_z-of_z at c.less.ensures in
    rw (to_z-of_z f) (is ∙ ap (λ (z : ℤ). z -ℤ c.args.side) left_is ∙ right_is c.args.middle c.args.side)
