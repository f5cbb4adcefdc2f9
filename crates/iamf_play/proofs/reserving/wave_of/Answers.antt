use Rattle.std.proofs.Common.{◌≡◌, sym, ap, subst, ◌∙◌, [], ◌∷◌}
use Rattle.spec_descriptors.specs.CodecConfig.{CodecConfigFields}
use Rattle.spec_rules.specs.Samples.{kept}
use Rattle.spec_sequence.specs.ValueRole.{role_of_codec}
use Rattle.spec_sequence.specs.Parts.{codec_configs}
use Rattle.spec_sequence.specs.Reading.{values_of, roles}
use Rattle.spec_sequence.proofs.Roles.{roles_of_values}
use Rattle.spec_play.specs.Waves.{mask_for, wave_shape}
use Rattle.wav_io.specs.Views.{shape_of}
use Rattle.iamf_sequence.specs.SequenceValue.{SequenceValue}
use Rattle.iamf_play.proofs.Renditions.{codec_is, kept_is}
use Rattle.iamf_play.proofs.PlanShapes.{same_shape, target_of}
use Rattle.iamf_play.proofs.reserving.wave_of.Goals as goal

pub returns-clause-is : goal.returns-clause-is
returns-clause-is c = λ r is.
    let p = c.args.plan.now in
    let said = c.codec.ensures.says in
    let one = subst (λ (s : SequenceValue). codec_configs (values_of s.entries) ≡ said.0 ∷ []) c.sequence-sequence.ensures said.1 in
    let codec : said.0 ≡ r.codec = sym (codec_is (values_of p.sequence.entries) p.mix p.target r said.0 is.heard_is one) in
    same_shape (shape_of (record { channels = c.wave_channels.result; mask = c.wave_mask.result; rate = c.depth_and_rate-depth.result.1; depth = c.depth_and_rate-depth.result.0; frames = c.kept.result })) (wave_shape r) (c.wave_channels.ensures.count r is)
    (c.wave_mask.ensures ∙ ap mask_for (c.target.ensures ∙ sym (target_of p r is)))
    (c.depth_and_rate-depth.ensures.rate said.0 said.2 ∙ ap (λ (k : CodecConfigFields). (role_of_codec k).rate) codec)
    (c.depth_and_rate-depth.ensures.depth said.0 said.2 ∙ ap (λ (k : CodecConfigFields). (role_of_codec k).depth) codec)
    (c.kept.ensures ∙ ap (λ (s : SequenceValue). kept (roles s.entries)) c.sequence-sequence.ensures ∙ ap kept (sym (roles_of_values p.sequence.entries)) ∙ sym (kept_is (values_of p.sequence.entries) p.mix p.target r is.heard_is))
