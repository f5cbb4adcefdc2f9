-- The report is the same by the rules without the wide profile, where the profile is Simple or Base.
use Rattle.std.proofs.Common.{◌≡◌, ℕ, Bool, List, [], ◌∷◌, ◌++◌, refl, ap, ap₂}
use Rattle.std.specs.List.{flat_map}
use Rattle.spec_sequence.specs.ValueRole.{mix_role}
use Rattle.spec_sequence.specs.Parts.{roles_of, MixValue, sequence_headers, codec_configs, audio_elements, mix_values}
use Rattle.spec_sequence.specs.ValueRole.{role_of_codec}
use Rattle.spec_sequence.proofs.NarrowSequences.{fits_same}
use Rattle.spec_report.specs.Report.{header_line, codec_line, element_line, marked_line, tag_lines, mix_lines, counts, report}
use Rattle.spec_report.specs.Narrow.{narrow_mix_lines, narrow_report}
use Rattle.spec_report.specs.Laws.{NarrowReport}

flat_map_same : {A : Type 0} (f g : A → List ℕ) (xs : List A) → ((x : A) → f x ≡ g x) → flat_map f xs ≡ flat_map g xs
flat_map_same f g [] same = refl
flat_map_same f g (x ∷ xs) same = ap₂ (λ (a b : List ℕ). a ++ b) (same x) (flat_map_same f g xs same)

pub narrow_report_same : NarrowReport
unfolding report narrow_report
narrow_report_same s small =
    ap (λ (lines : List ℕ). flat_map header_line (sequence_headers s) ++ (flat_map (λ c. codec_line (role_of_codec c)) (codec_configs s) ++ (flat_map element_line (audio_elements s) ++ (lines ++ counts (roles_of s)))))
    (flat_map_same (mix_lines (roles_of s)) (narrow_mix_lines (roles_of s)) (mix_values s) (λ (m : MixValue). ap (λ (fit : Bool). marked_line fit m.fields ++ tag_lines m.tail) (fits_same (roles_of s) (mix_role m.fields) small)))
