-- Each kind of OBU is kept by a lemma of its own.
use Rattle.iamf_sequence.proofs.Keeping.{keeps_header, keeps_codec, keeps_element, keeps_mix, keeps_reserved, kept_frame, kept_block, kept_delimiter}
use Rattle.iamf_sequence.proofs.contents.Contents.keep_content.Goals as goal

pub returns-in-SequenceHeader : goal.returns-in-SequenceHeader
returns-in-SequenceHeader c = rw c.in-SequenceHeader.is (keeps_header c.args.self.now c.in-SequenceHeader.header c.args.unit)

pub returns-in-CodecConfig : goal.returns-in-CodecConfig
returns-in-CodecConfig c = rw c.in-CodecConfig.is (keeps_codec c.args.self.now c.in-CodecConfig.codec c.args.unit)

pub returns-in_ok-push-in-AudioElement : goal.returns-in_ok-push-in-AudioElement
returns-in_ok-push-in-AudioElement c = rw c.in-AudioElement.is (keeps_element c.args.self.now c.push.new.self c.in-AudioElement.element c.args.unit (rw c.into_inner.ensures at c.in_ok-push-in-AudioElement.ensures.items))

pub returns-in_ok-push-in-MixPresentation : goal.returns-in_ok-push-in-MixPresentation
returns-in_ok-push-in-MixPresentation c = rw c.in-MixPresentation.is (keeps_mix c.args.self.now c.push-in-MixPresentation.new.self c.in-MixPresentation.mix c.args.unit (rw c.into_inner-in-MixPresentation.ensures at c.in_ok-push-in-MixPresentation.ensures.items))

pub returns-in-ParameterBlock : goal.returns-in-ParameterBlock
returns-in-ParameterBlock c =
    rw c.in-ParameterBlock.is (kept_block c.keep_block.result c.args.self.now c.keep_block.new.units c.in-ParameterBlock.block c.args.unit c.keep_block.ensures.is c.keep_block.ensures.consistent)

pub returns-in-TemporalDelimiter : goal.returns-in-TemporalDelimiter
returns-in-TemporalDelimiter c =
    rw c.in-TemporalDelimiter.is (kept_delimiter c.open.result c.args.self.now c.open.new.units c.in-TemporalDelimiter.field-0 c.args.unit c.open.ensures.is c.open.ensures.consistent)

pub returns-in-AudioFrame : goal.returns-in-AudioFrame
returns-in-AudioFrame c = rw c.in-AudioFrame.is (kept_frame c.keep_frame.result c.args.self.now c.keep_frame.new.units c.in-AudioFrame.frame c.args.unit c.keep_frame.ensures.is c.keep_frame.ensures.consistent)

pub returns-in-Reserved : goal.returns-in-Reserved
returns-in-Reserved c = rw c.in-Reserved.is (keeps_reserved c.args.self.now c.in-Reserved.field-0 c.args.unit)
