use Rattle.std.proofs.Common.{arith, rules, ◌≡◌, length, ap, sym, ◌∙◌}
use Rattle.spec_layouts.specs.declared.Layout.{Layout}
use Rattle.spec_layouts.specs.Layouts.{channels}
use Rattle.demix_channels.proofs.SeenLayers.{layout_at}
use Rattle.demix_channels.proofs.Standing.{few_channels}
use Rattle.demix_tests.proofs.layers.assert_layers.Goals as goal

pub returns-clause-count : goal.returns-clause-count
returns-clause-count g c =
    let e = layout_at c.args.layers.now c.args.target (omega arith) in
    let n : c.args.count ≡ c.channel_count.result = search rules in
    n ∙ c.channel_count.ensures ∙ ap (λ (layout : Layout). length (channels layout)) (sym e)

pub returns-clause-few : goal.returns-clause-few
returns-clause-few g c =
    let n : c.args.count ≡ c.channel_count.result = search rules in
    rw (n, c.channel_count.ensures) (few_channels _)
