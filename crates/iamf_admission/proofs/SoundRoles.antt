-- The roles of OBUs that were read are sound.
use Rattle.std.proofs.Common.{◌<◌, ℕ, length, sym, subst}
use Rattle.spec_descriptors.specs.CodecConfig.{CodecConfigFields, codec_config}
use Rattle.spec_descriptors.specs.DescriptorFields.{codec_config_fields}
use Rattle.spec_descriptors.proofs.CodecNumbers.{valid_numbers}
use Rattle.spec_syntax.specs.Payload.{IsValid}
use Rattle.spec_values.specs.Content.{Context}
use Rattle.spec_rules.specs.Role as roles
use Rattle.spec_rules.specs.declared.codec_role.CodecRole.{CodecRole}
use Rattle.spec_sequence.specs.ValueRole.{role_of_codec}
use Rattle.spec_sequence.proofs.RoleNumbers.{role_length}
use Rattle.obu_element_config.specs.ConfigView.{view_config}
use Rattle.iamf_obu.specs.declared.content.Content.{Content}
use Rattle.iamf_obu.specs.declared.content.Content.TheVariants as contents
use Rattle.iamf_obu.specs.ContentView.{IsValidContent}
use Rattle.iamf_admission.specs.declared.parts.Parts.{Parts}
use Rattle.iamf_admission.specs.PartsView.{HasParts, role_with}
use Rattle.iamf_admission.specs.Standing.{AreAllChannels, IsSound}
use Rattle.iamf_admission.proofs.ChannelCounts.{of_config}
use Rattle.iamf_admission.proofs.CodecDepths.{valid_depth}
use Rattle.iamf_admission.proofs.ContentRoles.{codec_is}

sound_codec : (w : CodecConfigFields) → IsValid codec_config codec_config_fields w → IsSound (roles.CodecConfig (role_of_codec w))
sound_codec w valid = (subst (λ (n : ℕ). 0 < n) (sym (role_length w.codec_config_id w.num_samples_per_frame w.coding)) (valid_numbers w valid).some, valid_depth w valid)

pub sound : (context : Context) (kind n : ℕ) (content : Content) (p : Parts) → IsValidContent context kind content → HasParts n content p → IsSound (role_with content p)
sound context kind n (contents.SequenceHeader h) p valid parts = tt
sound context kind n (contents.CodecConfig r) p valid parts = subst (λ (c : CodecRole). IsSound (roles.CodecConfig c)) (sym (codec_is r valid.0 valid.1)) (sound_codec valid.0 valid.2)
sound context kind n (contents.AudioElement e) p valid parts = subst AreAllChannels (sym parts.channels) (of_config (view_config (length e.value.substreams.items) e.value.config))
sound context kind n (contents.MixPresentation m) p valid parts = tt
sound context kind n (contents.ParameterBlock b) p valid parts = tt
sound context kind n (contents.TemporalDelimiter bytes) p valid parts = tt
sound context kind n (contents.AudioFrame f) p valid parts = tt
sound context kind n (contents.Reserved bytes) p valid parts = tt
