use Rattle.std.proofs.Common.{arith, ◌≡◌, ◌<◌, ◌+◌, ◌*◌, ◌/◌, ◌^◌, ℕ, ℤ, refl, sym, ap, subst, ◌∙◌, List, length, take, unsigned_abs}
use Rattle.std.specs.List.{All, flat_map}
use Rattle.std.specs.Vec.{with_items}
use Rattle.std.proofs.lemmas.List.{with_items_is}
use Rattle.spec_descriptors.specs.MixGain.{MixGainFields}
use Rattle.spec_sequence.specs.Parts.{UnitValue, temporal_units}
use Rattle.spec_sequence.specs.Reading.{values_of}
use Rattle.obu_mix_elements.specs.MixGainView.{view_mix_gain}
use Rattle.spec_play.specs.Mixes.{unit_length, codec_of}
use Rattle.spec_play.specs.Waves.{wave_shape}
use Rattle.iamf_mixing.specs.Bytes.{mixed_bytes}
use Rattle.iamf_mixing.specs.Tracks.{HasGains}
use Rattle.iamf_play.specs.PlayedElements.{AreParts, AreBegun}
use Rattle.iamf_play.proofs.GainRows.{unit_there}
use Rattle.iamf_play.proofs.ReservedSteps.{parts_after, channels_of, depth_of, units_of, unit_among, at_unit, kept_is, mixed_is, bytes_is}
use Rattle.iamf_play.proofs.reserved.Reserved.play.Goals as goal

pub unit-requires : goal.unit-requires
unit-requires c = let at = c.requires in unit_among c.args.sequence.now at.0 c.args.u at.1.of at.2

pub fill-requires-clause-begun : goal.fill-requires-clause-begun
fill-requires-clause-begun c = let at = c.requires in unit_among c.args.sequence.now at.0 c.args.u at.1.of at.2

pub mix_unit-requires-clause-at : goal.mix_unit-requires-clause-at
mix_unit-requires-clause-at c =
    let v = c.args.self.now in
    let s = c.args.sequence.now in
    let u = c.args.u in
    let r = c.requires.0 in
    let is = c.requires.1 in
    let begun = c.begin_elements.ensures r (subst (λ ps. AreParts s r u ps) (sym c.as_mut_slice.ensures.value) is.elements) in
    let count : length c.begin_elements.new.elements ≡ v.elements.len = omega (arith, c.as_mut_slice.ensures.len) in
    let again = c.as_mut_slice-2.ensures.value ∙ with_items_is v.elements c.begin_elements.new.elements count in
    let filled = c.fill.ensures.fills r (units_of s r is.of) is.ready in
    let gains = subst (λ (g : MixGainFields). HasGains r g u c.fill.new.self.row.items) is.output filled.1 in (
      s,
      r,
      u,
      at_unit s r u c.from-channels.result c.as_mut_slice-2.result.now is.of c.requires.2 (subst (λ ps. AreBegun s r u ps) (sym again) begun) (c.from-channels.ensures ∙ channels_of s r u v is),
      subst (λ (row : List ℕ). HasGains r r.output u row) (sym c.as_slice-2.ensures.value) gains,
      ap length c.as_slice-2.ensures.value ∙ filled.0.long,
    )

pub mix_unit-requires-clause-ticks : goal.mix_unit-requires-clause-ticks
mix_unit-requires-clause-ticks c = λ some.
    let r = c.requires.0 in
    let is = c.requires.1 in
    let filled = c.fill.ensures.fills r (units_of c.args.sequence.now r is.of) is.ready in
    let before : length c.as_slice.result.now ≡ unit_length r = ap length c.as_slice.ensures.value ∙ is.ready.long in
    let after : length c.as_slice-2.result.now ≡ unit_length r = ap length c.as_slice-2.ensures.value ∙ filled.0.long in
    omega (arith, c.kept_ticks-kept.ensures, before, after)

pub returns-clause-reserved : goal.returns-clause-reserved
returns-clause-reserved c = λ r is.
    let v = c.args.self.now in
    let s = c.args.sequence.now in
    let u = c.args.u in
    let begun = c.begin_elements.ensures r (subst (λ ps. AreParts s r u ps) (sym c.as_mut_slice.ensures.value) is.elements) in
    let count : length c.begin_elements.new.elements ≡ v.elements.len = omega (arith, c.as_mut_slice.ensures.len) in
    let again = c.as_mut_slice-2.ensures.value ∙ with_items_is v.elements c.begin_elements.new.elements count in
    let same = c.mix_unit.ensures.same ∙ again in
    let count_after : length c.mix_unit.new.elements ≡ v.elements.len = ap length same ∙ count in
    let filled = c.fill.ensures.fills r (units_of s r is.of) is.ready in
    let values : length c.mix_unit.new.mixed ≡ v.mixed.len = omega (arith, c.as_mut_slice-3.ensures.len) in
    let mixed_long : length c.mix_unit.new.mixed ≡ length v.mixed.items = omega (arith, ap length c.as_mut_slice-3.ensures.value) in
    let bytes_count : length c.put_kept.new.bytes ≡ v.bytes.len = omega (arith, c.as_mut_slice-4.ensures.len) in
    let bytes_long : length c.put_kept.new.bytes ≡ length v.bytes.items = omega (arith, ap length c.as_mut_slice-4.ensures.value) in
    record {
      of = is.of;
      shape = is.shape;
      elements = subst (λ ps. AreParts s r (u + 1) ps) (sym (with_items_is (with_items v.elements c.begin_elements.new.elements) c.mix_unit.new.elements count_after ∙ same)) (parts_after s r u c.begin_elements.new.elements begun);
      output = ap view_mix_gain c.fill.ensures.gain ∙ is.output;
      ready = filled.0;
      mixed = ap length (with_items_is v.mixed c.mix_unit.new.mixed values) ∙ mixed_long ∙ is.mixed;
      bytes = ap length (with_items_is v.bytes c.put_kept.new.bytes bytes_count) ∙ bytes_long ∙ is.bytes;
    }

pub returns-clause-played : goal.returns-clause-played
returns-clause-played c = λ r is.
    let v = c.args.self.now in
    let s = c.args.sequence.now in
    let u = c.args.u in
    let channels = c.from-channels.result in
    let kept = c.kept_ticks-kept.result in
    let trim = c.trim-trim.result in
    let begun = c.begin_elements.ensures r (subst (λ ps. AreParts s r u ps) (sym c.as_mut_slice.ensures.value) is.elements) in
    let count : length c.begin_elements.new.elements ≡ v.elements.len = omega (arith, c.as_mut_slice.ensures.len) in
    let again = c.as_mut_slice-2.ensures.value ∙ with_items_is v.elements c.begin_elements.new.elements count in
    let filled = c.fill.ensures.fills r (units_of s r is.of) is.ready in
    let gains = subst (λ (g : MixGainFields). HasGains r g u c.fill.new.self.row.items) is.output filled.1 in
    let below = subst (λ (us : List UnitValue). u < length us) (units_of s c.requires.0 c.requires.1.of ∙ sym (units_of s r is.of)) c.requires.2 in
    let wide = c.from-channels.ensures ∙ channels_of s r u v is in
    let at = at_unit s r u channels c.as_mut_slice-2.result.now is.of below (subst (λ ps. AreBegun s r u ps) (sym again) begun) wide in
    let value = c.mix_unit.ensures.value s r u at (subst (λ (row : List ℕ). HasGains r r.output u row) (sym c.as_slice-2.ensures.value) gains) (ap length c.as_slice-2.ensures.value ∙ filled.0.long) in
    let before : length c.as_slice.result.now ≡ unit_length r = ap length c.as_slice.ensures.value ∙ is.ready.long in
    let trim_is = c.trim-trim.ensures _ (unit_there r (temporal_units (values_of s.entries)) u c.unit.result.now (units_of s r is.of) c.unit.ensures.is) in
    let kept_now = kept_is r u (length c.as_slice.result.now) kept trim c.kept_ticks-kept.ensures before trim_is in
    let values : length c.mix_unit.new.mixed ≡ v.mixed.len = omega (arith, c.as_mut_slice-3.ensures.len) in
    let items = with_items_is v.mixed c.mix_unit.new.mixed values in
    let bytes_count : length c.put_kept.new.bytes ≡ v.bytes.len = omega (arith, c.as_mut_slice-4.ensures.len) in
    let bytes_items = with_items_is v.bytes c.put_kept.new.bytes bytes_count in
    let mixed = mixed_is r u kept trim.start channels c.mix_unit.new.mixed trim value kept_now trim_is refl wide in
    let source = c.as_slice-3.ensures.value ∙ items in
    let put = c.put_kept.ensures ∙ ap (λ (xs : List ℤ). flat_map (mixed_bytes v.shape.depth) (take (kept * channels) xs)) source in
    record {
      kept = kept_now;
      mixed = ap (take (kept * (wave_shape r).channels)) items ∙ mixed;
      bytes = ap (take (kept * (wave_shape r).channels * ((codec_of r).depth / 8))) bytes_items ∙ bytes_is r u kept channels v.shape.depth c.mix_unit.new.mixed c.put_kept.new.bytes put wide (depth_of s r u v is) mixed;
      small = subst (λ (xs : List ℤ). All (λ z. unsigned_abs z < 2 ^ 126) (take (kept * (wave_shape r).channels) xs)) (sym items) (subst (λ (n : ℕ). All (λ z. unsigned_abs z < 2 ^ 126) (take (kept * n) c.mix_unit.new.mixed)) wide c.mix_unit.ensures.small);
    }
