-- The fields that a layout and its loudness stand for.
use Rattle.std.specs.Prelude.{map}
use Rattle.spec_descriptors.specs.MixPresentation.{AnchorFields, LoudnessFields}
use Rattle.obu_loudness.specs.declared.loudness.Anchor.{Anchor}
use Rattle.obu_loudness.specs.declared.loudness.LayoutLoudness.{LayoutLoudness}

abbrev pub view_anchor : Anchor → AnchorFields
view_anchor a = record { anchor_element = a.kind; anchored_loudness = a.loudness }

abbrev pub view_loudness : LayoutLoudness → LoudnessFields
view_loudness l = record {
  sound_system = l.system;
  info_type = l.info;
  integrated_loudness = l.integrated;
  digital_peak = l.peak;
  true_peak = l.true_peak;
  anchors = map view_anchor l.anchors.items;
  info_type_bytes = l.extra.now;
}
