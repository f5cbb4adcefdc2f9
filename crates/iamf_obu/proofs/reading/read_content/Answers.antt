use Rattle.std.proofs.Common.{refl}
use Rattle.iamf_obu.specs.ContentWriting.{context}
use Rattle.iamf_obu.proofs.TypedContent.{reads_typed}
use Rattle.iamf_obu.proofs.reading.read_content.Goals as goal

pub returns-in-SequenceHeader-clause-reads : goal.returns-in-SequenceHeader-clause-reads
returns-in-SequenceHeader-clause-reads c =
    reads_typed _ _ _ _ _ _ c.in-SequenceHeader.ensures c.as_bytes_below_256-payload.ensures.same (c.read_sequence_header.ensures.reads (context c.args.frame_length c.args.definitions.now) c.args.view.now.head.kind)

pub returns-in-SequenceHeader-clause-valid : goal.returns-in-SequenceHeader-clause-valid
returns-in-SequenceHeader-clause-valid c = c.read_sequence_header.ensures.valid (context c.args.frame_length c.args.definitions.now) c.args.view.now.head.kind

pub returns-in-CodecConfig-clause-reads : goal.returns-in-CodecConfig-clause-reads
returns-in-CodecConfig-clause-reads c =
    reads_typed _ _ _ _ _ _ c.in-CodecConfig.ensures c.as_bytes_below_256-payload.ensures.same (c.read_codec_config.ensures.reads (context c.args.frame_length c.args.definitions.now) c.args.view.now.head.kind)

pub returns-in-CodecConfig-clause-valid : goal.returns-in-CodecConfig-clause-valid
returns-in-CodecConfig-clause-valid c = c.read_codec_config.ensures.valid (context c.args.frame_length c.args.definitions.now) c.args.view.now.head.kind

pub returns-in-AudioElement-clause-reads : goal.returns-in-AudioElement-clause-reads
returns-in-AudioElement-clause-reads c =
    reads_typed _ _ _ _ _ _ c.in-AudioElement.ensures c.as_bytes_below_256-payload.ensures.same (c.read_audio_element.ensures.reads (context c.args.frame_length c.args.definitions.now) c.args.view.now.head.kind refl)

pub returns-in-AudioElement-clause-valid : goal.returns-in-AudioElement-clause-valid
returns-in-AudioElement-clause-valid c = c.read_audio_element.ensures.valid (context c.args.frame_length c.args.definitions.now) c.args.view.now.head.kind refl

pub returns-in-MixPresentation-clause-reads : goal.returns-in-MixPresentation-clause-reads
returns-in-MixPresentation-clause-reads c =
    reads_typed _ _ _ _ _ _ c.in-MixPresentation.ensures c.as_bytes_below_256-payload.ensures.same (c.read_mix_presentation.ensures.reads (context c.args.frame_length c.args.definitions.now) c.args.view.now.head.kind)

pub returns-in-MixPresentation-clause-valid : goal.returns-in-MixPresentation-clause-valid
returns-in-MixPresentation-clause-valid c = c.read_mix_presentation.ensures.valid (context c.args.frame_length c.args.definitions.now) c.args.view.now.head.kind

pub returns-in-ParameterBlock-clause-reads : goal.returns-in-ParameterBlock-clause-reads
returns-in-ParameterBlock-clause-reads c =
    reads_typed _ _ _ _ _ _ c.in-ParameterBlock.ensures c.as_bytes_below_256-payload.ensures.same (c.read_parameter_block.ensures.reads (context c.args.frame_length c.args.definitions.now) c.args.view.now.head.kind refl)

pub returns-in-ParameterBlock-clause-valid : goal.returns-in-ParameterBlock-clause-valid
returns-in-ParameterBlock-clause-valid c = c.read_parameter_block.ensures.valid (context c.args.frame_length c.args.definitions.now) c.args.view.now.head.kind refl

pub returns-in-AudioFrame-clause-reads : goal.returns-in-AudioFrame-clause-reads
returns-in-AudioFrame-clause-reads c =
    reads_typed _ _ _ _ _ _ c.in-AudioFrame.ensures refl (c.read_audio_frame.ensures.reads (context c.args.frame_length c.args.definitions.now))

pub returns-in-AudioFrame-clause-valid : goal.returns-in-AudioFrame-clause-valid
returns-in-AudioFrame-clause-valid c = c.read_audio_frame.ensures.valid (context c.args.frame_length c.args.definitions.now)
