use Rattle.std.proofs.Common.{rules, FitsSigned}
use Rattle.std.specs.Int.{w64}
use Rattle.std.proofs.lemmas.Int.{to_z-of_z}
use Rattle.mix_fixed.proofs.RatioLemmas.{held_ratio_floor}
use Rattle.mix_fixed.proofs.floors.over.Goals as goal

pub returns-then-is_near : goal.returns-then-is_near
returns-then-is_near c =
    let fx : FitsSigned w64 c.args.x = c.ranges.x in
    let near = simp to_z-of_z at (c.is_near.ensures c.if-is_near.true) in
    held_ratio_floor c.args.times c.args.bottom c.args.x c.args.ratio _ c.requires.most c.ranges.ratio (search rules) near c.requires.ratio c.by_ratio.ensures
