use Rattle.std.proofs.Common.{rules}
use Rattle.mix_fixed.proofs.RatioLemmas.{held_ratio_floor}
use Rattle.mix_fixed.proofs.floors.over_both.Goals as goal

pub returns-then-are_near : goal.returns-then-are_near
returns-then-are_near c = record {
  left = held_ratio_floor 1000 c.args.bottom c.args.x.left c.args.ratio _ c.requires.most c.ranges.ratio (search rules) (c.are_near.ensures.left c.if-are_near.true) c.requires.ratio c.by_ratio.ensures;
  right = held_ratio_floor 1000 c.args.bottom c.args.x.right c.args.ratio _ c.requires.most c.ranges.ratio (search rules) (c.are_near.ensures.right c.if-are_near.true) c.requires.ratio c.by_ratio-then-are_near.ensures;
}
