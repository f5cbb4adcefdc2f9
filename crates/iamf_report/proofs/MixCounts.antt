-- How many sub-mixes and elements a valid mix presentation has.
use Rattle.std.proofs.Common.{◌≡◌, ◌<◌, ◌^◌, List, [], map, length, ap, subst, ◌∙◌}
use Rattle.std.proofs.lemmas.List.{length-map}
use Rattle.spec_syntax.specs.Payload.{IsValid}
use Rattle.spec_syntax.specs.Repetition.{joined}
use Rattle.spec_syntax.specs.Fitting.{AllFit}
use Rattle.spec_syntax.proofs.Fitting.{stands_fit, fit_rest}
use Rattle.spec_syntax.proofs.Writing.{joined_map}
use Rattle.spec_descriptors.specs.MixPresentation.{MixPresentationFields, mix_presentation}
use Rattle.spec_descriptors.specs.MixFields.{text_fields, sub_mix_fields, sub_mixes_fields, mix_presentation_fields}
use Rattle.obu_mix.specs.declared.sub_mix.SubMix.{SubMix}
use Rattle.obu_mix.specs.SubMixView.{view_sub_mix}

sub_mixes_fit : (m : MixPresentationFields) → IsValid mix_presentation mix_presentation_fields m → AllFit (sub_mixes_fields m.sub_mixes)
unfolding mix_presentation_fields
sub_mixes_fit m valid =
    fit_rest (joined text_fields m.localized_presentation_annotations) (sub_mixes_fields m.sub_mixes)
    (fit_rest (joined text_fields m.annotations_languages) _ (stands_fit mix_presentation [] (mix_presentation_fields m) m _ valid).1.1)

pub few_sub_mixes : (m : MixPresentationFields) (xs : List SubMix) → m.sub_mixes ≡ map view_sub_mix xs → IsValid mix_presentation mix_presentation_fields m → length xs < 2 ^ 32
few_sub_mixes m xs are valid = subst (λ n. n < 2 ^ 32) (ap length are ∙ length-map xs view_sub_mix) (sub_mixes_fit m valid).0

pub all_fit : (m : MixPresentationFields) (xs : List SubMix) → m.sub_mixes ≡ map view_sub_mix xs → IsValid mix_presentation mix_presentation_fields m → AllFit (joined (λ s. sub_mix_fields (view_sub_mix s)) xs)
all_fit m xs are valid =
    subst AllFit (ap (joined sub_mix_fields) are ∙ joined_map sub_mix_fields view_sub_mix xs) (sub_mixes_fit m valid).1
