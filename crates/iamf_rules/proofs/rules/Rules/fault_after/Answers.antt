use Rattle.std.proofs.Common.{◌∙◌, sym, map}
use Rattle.std.specs.Option.{option_map}
use Rattle.spec_rules.specs.Role.{ElementRole, MixRole}
use Rattle.obu_data.specs.DefinitionView.{view_definition}
use Rattle.iamf_rules.proofs.Faulting.{codec_fault_is, element_is, mix_is, delimiter_fault_is, block_fault_is, frame_fault_is}
use Rattle.spec_rules.proofs.Lawful.{lawful}
use Rattle.iamf_rules.proofs.Decoding.{can_decode}
use Rattle.iamf_rules.proofs.rules.Rules.fault_after.Goals as goal

pub returns-in-CodecConfig-clause-fault : goal.returns-in-CodecConfig-clause-fault
returns-in-CodecConfig-clause-fault c = λ l st coded. rw c.in-CodecConfig.is (c.codec_fault.ensures ∙ codec_fault_is c.args.self.now.descriptors l c.in-CodecConfig.codec st.descriptors)

pub returns-in-AudioElement-clause-fault : goal.returns-in-AudioElement-clause-fault
returns-in-AudioElement-clause-fault c = λ l st coded.
    let e : ElementRole = record { id = c.in-AudioElement.id; codec = c.in-AudioElement.codec; substreams = c.in-AudioElement.substreams.now; channels = option_map (λ c. c.now) c.in-AudioElement.channels; definitions = map view_definition c.in-AudioElement.definitions.now } in
    rw (c.in-AudioElement.is, sym (element_is l e)) (c.element_fault.ensures l st)

pub returns-in-MixPresentation-clause-fault : goal.returns-in-MixPresentation-clause-fault
returns-in-MixPresentation-clause-fault c = λ l st coded.
    let m : MixRole = record { id = c.in-MixPresentation.id; elements = c.in-MixPresentation.elements.now; sub_mixes = c.in-MixPresentation.sub_mixes; definitions = map view_definition c.in-MixPresentation.definitions.now } in
    rw (c.in-MixPresentation.is, sym (mix_is l m)) (c.mix_fault.ensures l st)

pub returns-in-Delimiter-clause-fault : goal.returns-in-Delimiter-clause-fault
returns-in-Delimiter-clause-fault c = λ l st coded. rw c.in-Delimiter.is (c.delimiter_fault.ensures ∙ rw c.len.ensures (delimiter_fault_is c.args.self.now l (lawful l st.admitted).orderly st))

pub returns-in-ParameterBlock-clause-fault : goal.returns-in-ParameterBlock-clause-fault
returns-in-ParameterBlock-clause-fault c = λ l st coded. rw c.in-ParameterBlock.is (c.block_fault.ensures ∙ block_fault_is c.args.self.now l (record { id = c.in-ParameterBlock.id; duration = c.in-ParameterBlock.duration }) st)

pub returns-in-AudioFrame-clause-fault : goal.returns-in-AudioFrame-clause-fault
returns-in-AudioFrame-clause-fault c = λ l st coded. rw c.in-AudioFrame.is (c.frame_fault.ensures.fault (can_decode c.args.self.now l c.in-AudioFrame.substream c.args.planes.now st coded)
    ∙ frame_fault_is c.args.self.now l (record { substream = c.in-AudioFrame.substream; trim = c.in-AudioFrame.trim; bytes = c.in-AudioFrame.bytes.now }) (lawful l st.admitted).balanced st)
