-- What a tally holds of the OBUs of a list: the lines of the report on them.
use Rattle.std.specs.Prelude.{◌≡◌, ◌⊎◌, true, false, List, []}
use Rattle.spec_values.specs.Content.{Content, Header, Codec, Element, Mix}
use Rattle.spec_values.specs.Value.{ObuValue}
use Rattle.spec_sequence.specs.Parts.{sequence_headers, mix_values}
use Rattle.iamf_report.specs.Lines.{descriptor_facts}
use Rattle.iamf_report.specs.LinesView.{view_lines}
use Rattle.iamf_report.specs.declared.line.Lines.{Lines}

-- Mixes stand after a header, by whose profile they fit or not.
pub record AreLines (lines : Lines) (s : List ObuValue) : Type 0 where
  pub are : view_lines lines ≡ descriptor_facts s
  pub headed : sequence_headers s ≡ [] → mix_values s ≡ []

-- it says this, and is no redundant copy
pub record Says (o : ObuValue) (content : Content) : Type 0 where
  pub plain : o.head.redundant ≡ false
  pub content_is : o.content ≡ content

abbrev pub IsDescriptor : Content → Type 0
IsDescriptor (Header h) = Unit {0}
IsDescriptor (Codec c) = Unit {0}
IsDescriptor (Element e) = Unit {0}
IsDescriptor (Mix m) = Unit {0}
IsDescriptor _ = ⊥

-- a redundant copy, or an OBU that is no descriptor
abbrev pub IsOther : ObuValue → Type 0
IsOther o = (o.head.redundant ≡ true) ⊎ (IsDescriptor o.content → ⊥)
