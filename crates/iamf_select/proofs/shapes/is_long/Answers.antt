use Rattle.std.proofs.Common.{rules, ◌≡◌, ℕ, ap, sym, ◌∙◌}
use Rattle.std.specs.Prelude.{◌/◌, List, slice_index_or}
use Rattle.spec_rules.specs.Samples.{kept}
use Rattle.spec_sequence.specs.ValueRole.{role_of_codec}
use Rattle.spec_sequence.proofs.Roles.{roles_of_values}
use Rattle.spec_descriptors.specs.CodecConfig.{CodecConfigFields}
use Rattle.spec_play.specs.Mixes.{no_codec}
use Rattle.iamf_select.proofs.CountedElements.{size_is}
use Rattle.iamf_select.proofs.shapes.is_long.Goals as goal

pub returns : goal.returns
returns c =
    let entries = c.args.candidate.now.sequence.now.entries in
    let codec = c.codec.ensures.says in
    let depth = c.depth_of.ensures codec.0 codec.2 ∙ ap (λ (cs : List CodecConfigFields). (role_of_codec (slice_index_or cs 0 no_codec)).depth) (sym codec.1) in
    let frames = c.kept.ensures ∙ ap kept (sym (roles_of_values entries)) in
    let widened : c.from-bytes.result ≡ c.depth_of.result / 8 = search rules in
    let bytes = widened ∙ ap (λ (d : ℕ). d / 8) depth in
    c.is_long_wave.ensures ∙ size_is _ _ _ _ _ _ frames c.wave_channels.ensures.value bytes
