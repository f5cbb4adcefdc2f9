use Rattle.std.proofs.Common.{arith, length, map, ap, sym, ◌∙◌}
use Rattle.spec_layouts.specs.declared.Layout.{Layout}
use Rattle.spec_layouts.specs.Layouts.{channels}
use Rattle.spec_gains.specs.Modes.{coefficients_of}
use Rattle.spec_gains.proofs.ModeLemmas.{mode_bounded}
use Rattle.spec_demix.specs.Kinds.{kind_of}
use Rattle.spec_demix.specs.Sent.{layer_at}
use Rattle.spec_demix.specs.Fits.{target_channels}
use Rattle.demix_channels.proofs.SeenLayers.{seen, layout_at}
use Rattle.demix_channels.proofs.Standing.{few_channels}
use Rattle.demix_layers.specs.Quotients.{fraction_at}
use Rattle.demix_layers.proofs.WrittenRow.{row_fits, row_small}
use Rattle.demix_layers.proofs.rows.demix_exact.Goals as goal

pub walk-bed-requires-clause-mode : goal.walk-bed-requires-clause-mode
walk-bed-requires-clause-mode g c = mode_bounded c.args.params.mode c.requires.mode

pub whole-channels-requires : goal.whole-channels-requires
whole-channels-requires g c = mode_bounded c.args.params.mode c.requires.mode

pub gather-requires : goal.gather-requires
gather-requires g c =
    let layers = c.args.layers.now in
    let target = c.args.target in
    let e = layout_at layers target c.requires.target in
    let few = few_channels (layer_at (seen layers) target).layout in (
      omega (arith, few, c.requires.count),
      (rw (← e) (c.requires.chain.speakers target (omega arith)), c.requires.count ∙ ap (λ (layout : Layout). length (channels layout)) e),
    )

pub returns : goal.returns
returns g c =
    let layers = c.args.layers.now in
    let target = c.args.target in
    let mode = c.args.params.mode in
    let whole = c.whole-channels.result in
    let e = layout_at layers target c.requires.target in
    let k = c.kind.ensures.value ∙ ap kind_of (sym e) in
    let row = c.gather.ensures ∙ ap (λ (layout : Layout). map (fraction_at whole) (channels layout)) (sym e) in
    record {
      fits = rw row (row_fits (seen layers) target mode c.args.params.weight c.args.coded.now whole c.requires.chain c.requires.mode c.requires.weight
          (rw (k, c.walk-bed.ensures.value) at c.whole-channels.ensures));
      small = rw row (row_small c.kind.result (coefficients_of mode) c.walk-bed.result whole (target_channels (seen layers) target) (mode_bounded mode c.requires.mode) c.walk-bed.ensures.within c.whole-channels.ensures);
    }
