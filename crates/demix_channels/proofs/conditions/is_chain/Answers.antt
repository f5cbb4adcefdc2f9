use Rattle.std.proofs.Common.{rules, arith, ◌≡◌, ◌+◌, suc, below_more}
use Rattle.std.specs.Prelude.{IsSome}
use Rattle.spec_layouts.specs.Steps.{IsStep}
use Rattle.spec_demix.specs.Sent.{layer_at}
use Rattle.demix_channels.proofs.SeenLayers.{seen, layout_at}
use Rattle.demix_channels.proofs.conditions.is_chain.Goals as goal

pub loop-i-preserved : goal.loop-i-preserved
loop-i-preserved c =
    let i = c.loop-i.i in
    let layers = c.args.layers.now in
    let some : IsSome c.new_channels.result = search rules in
    let next : i + 1 ≡ suc i = omega arith in
    let s = rw next at (c.new_channels.ensures.allowed.0 some) in
    below_more (λ j. IsStep (layer_at (seen layers) j).layout (layer_at (seen layers) (suc j)).layout) i c.loop-i.invariant
    (rw (layout_at layers i (omega arith), layout_at layers (suc i) (omega arith)) s)

pub returns-then-is_none : goal.returns-then-is_none
returns-then-is_none c =
    let i = c.loop-i.i in
    let layers = c.args.layers.now in
    let next : i + 1 ≡ suc i = omega arith in (
      λ no. cc,
      λ chain.
          let s = rw (layout_at layers i (omega arith), layout_at layers (suc i) (omega arith)) at (chain.steps i (omega arith)) in
          let t = rw (← next) at s in
          let some : IsSome c.new_channels.result = c.new_channels.ensures.allowed.1 t in
          absurd (search rules),
    )
