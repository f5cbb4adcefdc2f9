-- No definitions, which are in spec_report: the text of the report by what its lines print, in place of the fields that say it.
-- The lines of headers, codec configs and tags are the definitions' own.
use Rattle.std.specs.Prelude.{ℕ, List, ◌∷◌, ◌++◌, codes}
use Rattle.std.specs.List.{flat_map}
use Rattle.spec_report.specs.Report.{ended, and_number, header_line, codec_line, tag_line, fits_mark}
use Rattle.iamf_report.specs.Lines.{MixFacts, Facts}
use Rattle.iamf_report.specs.declared.line.ElementKind.{ElementKind}
use Rattle.iamf_report.specs.declared.line.ElementKind.TheVariants as kinds
use Rattle.iamf_report.specs.declared.line.ElementLine.{ElementLine}
use Rattle.iamf_report.specs.declared.line.MixLine.{MixLine}

abbrev pub kind_name : ElementKind → List ℕ
kind_name kinds.Scalable = codes "scalable"
kind_name kinds.Scene = codes "scene"
kind_name kinds.Other = codes "other"

abbrev pub element_text : ElementLine → List ℕ
element_text e = ended (and_number (and_number (and_number (codes "element") e.id ++ 32 ∷ kind_name e.kind) e.substreams) e.channels)

abbrev pub mix_text : MixLine → List ℕ
mix_text m = ended (and_number (and_number (and_number (codes "mix") m.id) m.sub_mixes) m.elements ++ 32 ∷ fits_mark m.fits)

-- the line of a mix, and then those of its tags
abbrev pub mix_texts : MixFacts → List ℕ
mix_texts m = mix_text m.mix ++ flat_map tag_line m.tags

abbrev pub count_text : ℕ → ℕ → List ℕ
count_text units samples = ended (and_number (codes "units") units) ++ ended (and_number (codes "samples") samples)

unfoldable pub text_of : Facts → List ℕ
text_of f =
    flat_map header_line f.descriptors.headers
    ++ (flat_map codec_line f.descriptors.codecs
    ++ (flat_map element_text f.descriptors.elements ++ (flat_map mix_texts f.descriptors.mixes ++ count_text f.units f.samples)))
