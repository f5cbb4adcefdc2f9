use Rattle.std.proofs.Common.{arith, rules, ◌≤◌, length, map, take, ap, sym, subst, ◌∙◌}
use Rattle.spec_gains.specs.Modes.{coefficients_of}
use Rattle.spec_gains.proofs.ModeLemmas.{mode_bounded}
use Rattle.spec_demix.specs.Kinds.{kind_of}
use Rattle.spec_demix.specs.Values.{value_of}
use Rattle.spec_demix.specs.Sent.{layer_at, place_after, IsLayers}
use Rattle.spec_demix.specs.Fits.{target_channels}
use Rattle.spec_demix.specs.FixedWalk.{fixed_row}
use Rattle.spec_demix.specs.Sizes.{AreModest}
use Rattle.demix_channels.specs.Room.{AreWithin}
use Rattle.mix_fixed.specs.declared.origins.Origins.{Origins}
use Rattle.mix_fixed.specs.Kernel.{target_of}
use Rattle.mix_fixed.specs.Origins.{bed_from}
use Rattle.mix_fixed.proofs.Rows.{row_near, row_small}
use Rattle.mix_fixed.proofs.KeptOrigins.{at_once, origins_within}
use Rattle.mix_fixed.proofs.kernel.Kernel.demix.Goals as goal

pub write-requires : goal.write-requires
write-requires g c =
    let layers = c.args.self.now in
    let n = length c.args.coded.now in
    let chain : IsLayers layers (target_of layers) = rw c.self.view_is at c.self.invariant.0.chain in
    let modest : AreModest layers (target_of layers) = rw c.self.view_is at c.self.invariant.0.modest in
    let kept = rw c.self.view_is at c.self.invariant.0.kept in
    let room : place_after layers (target_of layers) ≤ n = omega (arith, c.requires.count, c.requires.room) in
    let within = subst (λ (o : Origins). AreWithin n o.sent) (sym kept) (origins_within layers (target_of layers) n chain modest room (target_of layers) (omega arith)) in
    let mode = mode_bounded c.args.params.mode c.requires.mode in
    let prepared = c.self.invariant.1 in
    search rules

pub returns : goal.returns
returns g c =
    let layers = take c.self.inside.count c.self.inside.layers in
    let target = target_of layers in
    let mode = c.args.params.mode in
    let w = c.args.params.weight in
    let coded = c.args.coded.now in
    let bed = ap (λ o. bed_from o (coefficients_of mode) w coded) c.self.invariant.0.kept
    ∙ at_once layers target (coefficients_of mode) w coded c.self.invariant.0.chain target (omega arith) in
    let value = c.write.ensures
    ∙ ap (λ bed. map (value_of (kind_of (layer_at layers target).layout) bed) (target_channels layers target)) bed
    ∙ ap (λ l. fixed_row l (target_of l) (coefficients_of mode) w coded) c.self.view_is in
    let chain : IsLayers c.args.self.now (target_of c.args.self.now) = rw c.self.view_is at c.self.invariant.0.chain in
    let modest : AreModest c.args.self.now (target_of c.args.self.now) = rw c.self.view_is at c.self.invariant.0.modest in
    record {
      value = value;
      near = λ bottom x f. rw value (row_near c.args.self.now (target_of c.args.self.now) mode w coded bottom x chain c.requires.mode c.requires.weight f);
      small = rw value (row_small c.args.self.now (target_of c.args.self.now) mode w coded chain c.requires.mode c.requires.weight c.requires.samples modest);
    }
