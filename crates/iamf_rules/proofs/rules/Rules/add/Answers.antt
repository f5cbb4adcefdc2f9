use Rattle.std.proofs.Common.{map, subst}
use Rattle.std.specs.Option.{option_map}
use Rattle.spec_rules.specs.Admitted.{HasNoFault}
use Rattle.spec_rules.specs.Role.{ElementRole, MixRole, BlockRole, FrameRole}
use Rattle.spec_rules.specs.Role as specs
use Rattle.iamf_rules.specs.declared.role.Role.{Role}
use Rattle.obu_data.specs.DefinitionView.{view_definition}
use Rattle.iamf_rules.specs.RoleView.{view_role}
use Rattle.iamf_rules.proofs.OneMore.{stands-ignored, stands-header, stands-codec, stands-element, stands-mix, stands-delimiter, stands-block, stands-frame}
use Rattle.iamf_rules.proofs.rules.Rules.add.Goals as goal

pub returns-in-Ignored-clause-stands : goal.returns-in-Ignored-clause-stands
returns-in-Ignored-clause-stands c = λ l st few none.
    let h : HasNoFault l specs.Ignored = subst (λ (r : Role). HasNoFault l (view_role r)) c.in-Ignored.is none in
    rw c.in-Ignored.is (stands-ignored c.args.self.now l st few h)

pub returns-in-SequenceHeader-clause-stands : goal.returns-in-SequenceHeader-clause-stands
returns-in-SequenceHeader-clause-stands c = λ l st few none.
    let h : HasNoFault l (specs.SequenceHeader c.in-SequenceHeader.primary_profile) = subst (λ (r : Role). HasNoFault l (view_role r)) c.in-SequenceHeader.is none in
    rw (c.in-SequenceHeader.is, c.add_header.ensures) (stands-header c.args.self.now l c.in-SequenceHeader.primary_profile st few h)

pub returns-in-CodecConfig-clause-stands : goal.returns-in-CodecConfig-clause-stands
returns-in-CodecConfig-clause-stands c = λ l st few none.
    let h : HasNoFault l (specs.CodecConfig c.in-CodecConfig.codec) = subst (λ (r : Role). HasNoFault l (view_role r)) c.in-CodecConfig.is none in
    rw (c.in-CodecConfig.is, c.add_codec.ensures.added) (stands-codec c.args.self.now l c.in-CodecConfig.codec st few h c.add_codec.ensures.short)

pub returns-in_ok-add_element-in-AudioElement-clause-stands : goal.returns-in_ok-add_element-in-AudioElement-clause-stands
returns-in_ok-add_element-in-AudioElement-clause-stands c = λ l st few none.
    let e : ElementRole = record { id = c.in-AudioElement.id; codec = c.in-AudioElement.codec; substreams = c.in-AudioElement.substreams.now; channels = option_map (λ c. c.now) c.in-AudioElement.channels; definitions = map view_definition c.in-AudioElement.definitions.now } in
    let h : HasNoFault l (specs.AudioElement e) = subst (λ (r : Role). HasNoFault l (view_role r)) c.in-AudioElement.is none in
    rw c.in-AudioElement.is (stands-element c.args.self.now c.add_element.new.self l e st few h (c.in_ok-add_element-in-AudioElement.ensures {u = tt}))

pub returns-in_ok-add_mix-in-MixPresentation-clause-stands : goal.returns-in_ok-add_mix-in-MixPresentation-clause-stands
returns-in_ok-add_mix-in-MixPresentation-clause-stands c = λ l st few none.
    let m : MixRole = record { id = c.in-MixPresentation.id; elements = c.in-MixPresentation.elements.now; sub_mixes = c.in-MixPresentation.sub_mixes; definitions = map view_definition c.in-MixPresentation.definitions.now } in
    let h : HasNoFault l (specs.MixPresentation m) = subst (λ (r : Role). HasNoFault l (view_role r)) c.in-MixPresentation.is none in
    rw c.in-MixPresentation.is (stands-mix c.args.self.now c.add_mix.new.self l m st few h (c.in_ok-add_mix-in-MixPresentation.ensures {u = tt}))

pub returns-in-Delimiter-clause-stands : goal.returns-in-Delimiter-clause-stands
returns-in-Delimiter-clause-stands c = λ l st few none.
    let h : HasNoFault l specs.Delimiter = subst (λ (r : Role). HasNoFault l (view_role r)) c.in-Delimiter.is none in
    rw c.in-Delimiter.is (stands-delimiter c.args.self.now c.add_delimiter.new.self l st few h c.add_delimiter.ensures)

pub returns-in-ParameterBlock-clause-stands : goal.returns-in-ParameterBlock-clause-stands
returns-in-ParameterBlock-clause-stands c = λ l st few none.
    let x : BlockRole = record { id = c.in-ParameterBlock.id; duration = c.in-ParameterBlock.duration } in
    let h : HasNoFault l (specs.ParameterBlock x) = subst (λ (r : Role). HasNoFault l (view_role r)) c.in-ParameterBlock.is none in
    rw c.in-ParameterBlock.is (stands-block c.args.self.now c.add_block.new.self l x st few h c.add_block.ensures)

pub returns-in-AudioFrame-clause-stands : goal.returns-in-AudioFrame-clause-stands
returns-in-AudioFrame-clause-stands c = λ l st few none.
    let f : FrameRole = record { substream = c.in-AudioFrame.substream; trim = c.in-AudioFrame.trim; bytes = c.in-AudioFrame.bytes.now } in
    let h : HasNoFault l (specs.AudioFrame f) = subst (λ (r : Role). HasNoFault l (view_role r)) c.in-AudioFrame.is none in
    rw c.in-AudioFrame.is (stands-frame c.args.self.now c.add_frame.new.self l f st few h c.add_frame.ensures)
