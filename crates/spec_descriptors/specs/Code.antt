-- The numbers of the refusals.
use Rattle.std.specs.Prelude.{ℕ}
use Rattle.spec_descriptors.specs.declared.fault.DescriptorFault.{DescriptorFault}
use Rattle.spec_descriptors.specs.declared.fault.DescriptorFault.TheVariants as descriptor
use Rattle.spec_descriptors.specs.declared.fault.MixFault.{MixFault}
use Rattle.spec_descriptors.specs.declared.fault.MixFault.TheVariants as mix

abbrev pub descriptor_code : DescriptorFault → ℕ
descriptor_code (descriptor.Field f) = 10
descriptor_code descriptor.Code = 11
descriptor_code descriptor.Profile = 12
descriptor_code descriptor.Opus = 13
descriptor_code descriptor.Aac = 14
descriptor_code descriptor.CodecOther = 15
descriptor_code descriptor.FrameLength = 16
descriptor_code descriptor.Roll = 17
descriptor_code descriptor.LpcmConfig = 18
descriptor_code descriptor.FlacConfig = 19
descriptor_code descriptor.ParamKind = 20
descriptor_code descriptor.ParamShape = 21
descriptor_code descriptor.Layers = 22
descriptor_code descriptor.Substreams = 23
descriptor_code descriptor.Ambisonics = 24

abbrev pub mix_code : MixFault → ℕ
mix_code (mix.Field f) = 10
mix_code mix.ParamShape = 21
mix_code mix.LayoutType = 25
