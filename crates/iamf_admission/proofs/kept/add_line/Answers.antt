use Rattle.std.proofs.Common.{List, length, refl, sym, ap, subst, ◌∙◌}
use Rattle.std.proofs.lemmas.List.{length-map}
use Rattle.spec_obu.specs.declared.obu_type.ObuType.TheVariants as types
use Rattle.spec_rules.specs.Role.{Role}
use Rattle.spec_rules.specs.Profile.{fits}
use Rattle.spec_sequence.specs.Reading.{roles, values_of}
use Rattle.spec_sequence.specs.ValueRole.{mix_role}
use Rattle.spec_sequence.proofs.Roles.{roles_of_values}
use Rattle.obu_mix.specs.MixView.{view_mix}
use Rattle.obu_mix.specs.declared.mix_presentation.MixPresentation.{MixPresentation}
use Rattle.obu_mix.specs.SubMixView.{view_sub_mix}
use Rattle.iamf_obu.specs.declared.content.Content.{Content}
use Rattle.iamf_obu.specs.declared.content.Content.TheVariants as contents
use Rattle.iamf_admission.specs.PartsView.{HasMixParts}
use Rattle.iamf_admission.specs.Taking.{IsSaid}
use Rattle.iamf_admission.proofs.TallyMore.{faultless, more, says, tagged, no_descriptor, other}
use Rattle.iamf_admission.proofs.kept.add_line.Goals as goal

pub returns-in-SequenceHeader : goal.returns-in-SequenceHeader
returns-in-SequenceHeader c = λ past e n t r is parts.
    let content = contents.SequenceHeader c.in-SequenceHeader.header in
    let s : IsSaid content past e = subst (λ (x : Content). IsSaid x past e) c.in-SequenceHeader.is is in
    more _ past e (c.add_header.ensures (values_of past) e.value t (says content past e types.SequenceHeader _ s refl (λ x. cc) s.holds.0) (faultless past e s.faultless))

pub returns-in-CodecConfig : goal.returns-in-CodecConfig
returns-in-CodecConfig c = λ past e n t r is parts.
    let content = contents.CodecConfig c.in-CodecConfig.config in
    let s : IsSaid content past e = subst (λ (x : Content). IsSaid x past e) c.in-CodecConfig.is is in
    more _ past e (c.add_codec.ensures (values_of past) e.value s.holds.0 t s.holds.1 (says content past e types.CodecConfig _ s refl (λ x. cc) s.holds.3) (faultless past e s.faultless))

pub returns-in_ok-add_element-in-AudioElement : goal.returns-in_ok-add_element-in-AudioElement
returns-in_ok-add_element-in-AudioElement c = λ past e n t r is parts.
    let content = contents.AudioElement c.in-AudioElement.element in
    let s : IsSaid content past e = subst (λ (x : Content). IsSaid x past e) c.in-AudioElement.is is in
    more _ past e ((rw c.deref.ensures at c.in_ok-add_element-in-AudioElement.ensures.adds) (values_of past) e.value t (says content past e types.AudioElement _ s refl (λ x. cc) s.holds.0) (faultless past e s.faultless))

pub returns-in_ok-add_mix-in-MixPresentation : goal.returns-in_ok-add_mix-in-MixPresentation
returns-in_ok-add_mix-in-MixPresentation c = λ past e n t r is parts.
    let m = c.in-MixPresentation.mix.value in
    let content = contents.MixPresentation c.in-MixPresentation.mix in
    let s : IsSaid content past e = subst (λ (x : Content). IsSaid x past e) c.in-MixPresentation.is is in
    let has : HasMixParts m c.args.parts.now = rw c.in-MixPresentation.is at parts in
    let marked = c.fits-fits.ensures (roles past) (mix_role (view_mix m)) r (sym has.elements ∙ sym c.as_slice.ensures.value) (length-map m.sub_mixes.items view_sub_mix ∙ ap (λ (x : MixPresentation). length x.sub_mixes.items) (sym c.deref-in-MixPresentation.ensures) ∙ sym c.len.ensures.value)
    ∙ ap (λ (l : List Role). fits l (mix_role (view_mix m))) (sym (roles_of_values past)) in
    more _ past e ((rw c.deref-in-MixPresentation-2.ensures at c.in_ok-add_mix-in-MixPresentation.ensures.adds) (values_of past) e.value t (says content past e types.MixPresentation _ s refl (λ x. cc) s.holds.0) (tagged m e.value.tail s.valid s.holds.1) marked (faultless past e s.faultless))

pub add_element-requires : goal.add_element-requires
add_element-requires c = rw c.deref.ensures (c.requires.0.frame_length, rw c.in-AudioElement.is at c.requires.2)

pub add_mix-requires : goal.add_mix-requires
add_mix-requires c = rw c.deref-in-MixPresentation-2.ensures (rw c.in-MixPresentation.is at c.requires.2)

pub returns-in_default : goal.returns-in_default
returns-in_default c = λ past e n t r is parts.
    let content = c.args.content.now in
    let arm = c.in_default in
    let none = no_descriptor content arm.not-SequenceHeader arm.not-CodecConfig arm.not-AudioElement arm.not-MixPresentation in
    more _ past e (c.other_obus_law.ensures c.args.tally.now (values_of past) e.value t (other content past e is none))
