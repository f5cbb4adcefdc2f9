use Rattle.std.proofs.Common.{arith, ◌≡◌, ◌<◌, ◌≤◌, ◌*◌, ◌/◌, ◌^◌, Some, sym, ap, subst, ◌∙◌, [], ◌∷◌, length}
use Rattle.spec_rules.specs.Units.{unit_count}
use Rattle.spec_descriptors.specs.CodecConfig.{CodecConfigFields}
use Rattle.spec_sequence.specs.Parts.{codec_configs}
use Rattle.spec_sequence.specs.Reading.{values_of, roles}
use Rattle.spec_waves.specs.Wave.{Shape}
use Rattle.obu_mix_elements.specs.MixGainView.{view_mix_gain}
use Rattle.spec_play.specs.declared.target.Target.{Target}
use Rattle.spec_play.specs.Mixes.{rendition_of, unit_length}
use Rattle.spec_play.specs.Waves.{wave_shape}
use Rattle.iamf_sequence.specs.SequenceValue.{SequenceValue}
use Rattle.iamf_select.proofs.Plans.{plan_is_playable}
use Rattle.iamf_play.proofs.Renditions.{codec_is, short_unit, unit_count_is}
use Rattle.iamf_play.proofs.PlanShapes.{target_of}
use Rattle.iamf_play.proofs.WaveShapes.{shape_written}
use Rattle.iamf_play.proofs.reserving.reserve.Goals as goal

pub returns : goal.returns
returns c = λ r is.
    let p = c.args.plan.now in
    let l = p.sequence.entries in
    let said = c.codec.ensures.says in
    let one = subst (λ (s : SequenceValue). codec_configs (values_of s.entries) ≡ said.0 ∷ []) c.sequence.ensures said.1 in
    let ticks : unit_length r ≡ c.codec.result.now.frame_length = ap (λ (k : CodecConfigFields). k.num_samples_per_frame) (codec_is (values_of l) p.mix p.target r said.0 is.heard_is one) ∙ sym said.2.frame_length in
    let shape = c.wave_of-shape.ensures.is r is in
    let channels : c.wave_of-shape.result.channels ≡ (wave_shape r).channels = ap (λ (x : Shape). x.channels) shape in
    let some : 1 ≤ (wave_shape r).channels = subst (λ n. 1 ≤ n) channels c.wave_of-shape.ensures.some in
    let few : (wave_shape r).channels ≤ 225 = subst (λ n. n ≤ 225) channels c.wave_of-shape.ensures.few in
    let counted = subst (λ (s : SequenceValue). unit_count (roles s.entries) < 2 ^ 42) c.sequence-2.ensures c.few_units.ensures in
    let playable = plan_is_playable p r is in
    let values = ap (λ n. n * c.from.result) (sym ticks) ∙ ap (λ n. unit_length r * n) (c.from.ensures ∙ channels) in
    let size = c.from-2.ensures ∙ ap (λ n. n / 8) (ap (λ (x : Shape). x.depth) shape) in
    let mixed_long : length c.in_ok-mixed.mixed.items ≡ c.codec.result.now.frame_length * c.from.result = omega (arith, c.in_ok-mixed.ensures.len, c.in_ok-mixed.mixed.ok.0) in
    let bytes_long : length c.in_ok-bytes.bytes.items ≡ c.codec.result.now.frame_length * c.from.result * c.from-2.result = omega (arith, c.in_ok-bytes.ensures.len, c.in_ok-bytes.bytes.ok.0) in
    record {
      of = record {
        mix = p.mix;
        heard_is = subst (λ (t : Target). rendition_of (values_of l) p.mix t ≡ Some r) (sym (target_of p r is)) is.heard_is;
        playable = playable;
        shape = shape_written p r is playable some few;
        short = short_unit p.sequence.bytes l p.mix p.target r is.read is.heard_is;
        few = subst (λ n. n < 2 ^ 42) (sym (unit_count_is l p.mix p.target r is.heard_is)) counted;
      };
      shape = shape;
      elements = c.in_ok-elements.ensures r is ticks;
      output = ap view_mix_gain c.in_ok-output.ensures.gain ∙ sym (c.output_gain.ensures r is);
      ready = c.in_ok-output.ensures.ready r ticks;
      mixed = mixed_long ∙ values;
      bytes = bytes_long ∙ ap (λ n. n * c.from-2.result) values ∙ ap (λ n. unit_length r * (wave_shape r).channels * n) size;
    }
