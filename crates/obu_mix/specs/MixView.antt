-- The fields, the tags and the tail that a mix presentation stands for.
use Rattle.std.specs.Prelude.{ℕ, List, ◌++◌, map, Option, option_map}
use Rattle.spec_syntax.specs.Payload.{IsValid}
use Rattle.spec_descriptors.specs.MixPresentation.{MixPresentationFields, mix_presentation}
use Rattle.spec_descriptors.specs.MixFields.{mix_presentation_fields}
use Rattle.spec_descriptors.specs.Tags as fields
use Rattle.obu_mix.specs.declared.mix_presentation.MixPresentation.{MixPresentation}
use Rattle.obu_mix.specs.SubMixView.{view_sub_mix}
use Rattle.obu_mix.specs.TagView.{view_tag, tags_bytes, CanBeTagged}

abbrev pub view_mix : MixPresentation → MixPresentationFields
view_mix m = record {
  mix_presentation_id = m.id;
  annotations_languages = map (λ t. t.now) m.languages.items;
  localized_presentation_annotations = map (λ t. t.now) m.names.items;
  sub_mixes = map view_sub_mix m.sub_mixes.items;
}

abbrev pub tags_in : MixPresentation → Option (List fields.Tag)
tags_in m = option_map (λ ts. map view_tag ts.items) m.tags

-- all bytes after the fields: the tags and the bytes after them
abbrev pub tail_of : MixPresentation → List ℕ
tail_of m = tags_bytes (tags_in m) ++ m.tail.now

-- The fields can be written, and the tags, so that all is read again.
pub record IsValidMix (m : MixPresentation) : Type 0 where
  pub fields : IsValid mix_presentation mix_presentation_fields (view_mix m)
  pub tags : CanBeTagged (tags_in m) m.tail.now
