-- The role that a value of the code's type stands for.
use Rattle.std.specs.Prelude.{map}
use Rattle.std.specs.List.{All}
use Rattle.std.specs.Option.{option_map}
use Rattle.spec_rules.specs.Role as specs
use Rattle.obu_data.specs.ShapeView.{MayDefine}
use Rattle.obu_data.specs.DefinitionView.{view_definition}
use Rattle.iamf_rules.specs.declared.role.Role.{Role}
use Rattle.iamf_rules.specs.declared.role.Role.TheVariants as roles

abbrev pub view_role : Role → specs.Role
view_role roles.Ignored = specs.Ignored
view_role (roles.SequenceHeader primary_profile) = specs.SequenceHeader primary_profile
view_role (roles.CodecConfig codec) = specs.CodecConfig codec
view_role (roles.AudioElement id codec substreams channels definitions) = specs.AudioElement (record {
  id = id;
  codec = codec;
  substreams = substreams.now;
  channels = option_map (λ c. c.now) channels;
  definitions = map view_definition definitions.now;
})
view_role (roles.MixPresentation id elements sub_mixes definitions) = specs.MixPresentation (record {
  id = id;
  elements = elements.now;
  sub_mixes = sub_mixes;
  definitions = map view_definition definitions.now;
})
view_role roles.Delimiter = specs.Delimiter
view_role (roles.ParameterBlock id duration) = specs.ParameterBlock (record { id = id; duration = duration })
view_role (roles.AudioFrame substream trim bytes) = specs.AudioFrame (record { substream = substream; trim = trim; bytes = bytes.now })

-- its definitions are such as stand in descriptors that read
abbrev pub CanDefine : Role → Type 0
CanDefine (roles.AudioElement id codec substreams channels definitions) = All (λ d. MayDefine d.shape) definitions.now
CanDefine (roles.MixPresentation id elements sub_mixes definitions) = All (λ d. MayDefine d.shape) definitions.now
CanDefine _ = Unit {0}
