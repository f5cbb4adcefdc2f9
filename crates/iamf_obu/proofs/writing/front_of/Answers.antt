use Rattle.iamf_obu.proofs.ContentParts.{header_front, codec_front, element_front, mix_front, block_front}
use Rattle.iamf_obu.proofs.writing.front_of.Goals as goal

pub returns-in-SequenceHeader : goal.returns-in-SequenceHeader
returns-in-SequenceHeader c = header_front (λ v. v.items) c.args.content.now c.in-SequenceHeader.header c.write_fields.result c.in-SequenceHeader.is c.write_fields.ensures

pub returns-in-CodecConfig : goal.returns-in-CodecConfig
returns-in-CodecConfig c = codec_front (λ v. v.items) c.args.content.now c.in-CodecConfig.codec c.write_fields-in-CodecConfig.result c.in-CodecConfig.is c.write_fields-in-CodecConfig.ensures

pub returns-in-AudioElement : goal.returns-in-AudioElement
returns-in-AudioElement c = element_front (λ v. v.items) c.args.content.now c.in-AudioElement.element c.write_fields-in-AudioElement.result c.in-AudioElement.is (rw c.deref.ensures at c.write_fields-in-AudioElement.ensures)

pub returns-in-MixPresentation : goal.returns-in-MixPresentation
returns-in-MixPresentation c = mix_front (λ v. v.items) c.args.content.now c.in-MixPresentation.mix c.write_fields-in-MixPresentation.result c.in-MixPresentation.is (rw c.deref-in-MixPresentation.ensures at c.write_fields-in-MixPresentation.ensures)

pub returns-in-ParameterBlock : goal.returns-in-ParameterBlock
returns-in-ParameterBlock c = block_front (λ v. v.items) c.args.content.now c.in-ParameterBlock.block c.write_block_fields.result c.in-ParameterBlock.is c.write_block_fields.ensures
