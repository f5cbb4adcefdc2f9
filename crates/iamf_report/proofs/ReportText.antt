-- The text of what the report says of a sequence is the report.
use Rattle.std.proofs.Common.{◌≡◌, ℕ, List, [], ◌∷◌, ◌++◌, map, refl, ap, ◌∙◌}
use Rattle.std.specs.Prelude.{codes, length}
use Rattle.std.specs.List.{flat_map}
use Rattle.std.proofs.lemmas.List.Folds.{flat_map-map}
use Rattle.spec_descriptors.specs.AudioElement.{ConfigFields, Scalable, Ambisonics, Other, AudioElementFields, coded_channels_of}
use Rattle.spec_values.specs.Value.{ObuValue}
use Rattle.spec_sequence.specs.ValueRole.{role_of_codec}
use Rattle.spec_sequence.specs.Parts.{roles_of, codec_configs, audio_elements, mix_values}
use Rattle.spec_report.specs.Report.{ended, and_number, codec_line, config_name, known_channels, element_line, report}
use Rattle.iamf_report.specs.Lines.{Facts, config_kind, element_facts, mix_facts, descriptor_facts, facts_of}
use Rattle.iamf_report.specs.Text.{kind_name, element_text, mix_texts, text_of}

kind_is : (c : ConfigFields) → kind_name (config_kind c) ≡ config_name c
kind_is (Scalable layers) = refl
kind_is (Ambisonics config) = refl
kind_is (Other audio_element_type bytes) = refl

elements_text : (es : List AudioElementFields) → flat_map element_text (map element_facts es) ≡ flat_map element_line es
elements_text [] = refl
elements_text (e ∷ es) =
    ap (λ (kind : List ℕ). ended (and_number (and_number (and_number (codes "element") e.audio_element_id ++ 32 ∷ kind) (length e.audio_substream_ids)) (known_channels (coded_channels_of e.config))) ++ flat_map element_text (map element_facts es)) (kind_is e.config)
    ∙ ap (λ t. element_line e ++ t) (elements_text es)

parts : (h a b c d e f k : List ℕ) → a ≡ b → c ≡ d → e ≡ f → h ++ (a ++ (c ++ (e ++ k))) ≡ h ++ (b ++ (d ++ (f ++ k)))
parts h a b c d e f k ab cd ef = cc

text_of-facts_of : (s : List ObuValue) → text_of (facts_of s) ≡ report s
unfolding text_of facts_of descriptor_facts report
text_of-facts_of s =
    parts _ _ _ _ _ _ _ _ (flat_map-map codec_line role_of_codec (codec_configs s)) (elements_text (audio_elements s)) (flat_map-map mix_texts (mix_facts (roles_of s)) (mix_values s))

pub is_report : (y : Facts) (s : List ObuValue) → y ≡ facts_of s → text_of y ≡ report s
is_report y s is = ap text_of is ∙ text_of-facts_of s
