use Rattle.std.proofs.Common.{◌≡◌, ℕ, sym, ap, subst, ◌∙◌, List, map, take, drop, length, ◌++◌}
use Rattle.std.specs.Prelude.{Option}
use Rattle.std.specs.List.{All}
use Rattle.spec_descriptors.specs.SequenceHeader.{SequenceHeaderFields}
use Rattle.spec_descriptors.specs.CodecConfig.{CodecConfigFields}
use Rattle.spec_sequence.specs.Parts.{temporal_units, header_in, codec_in}
use Rattle.spec_sequence.specs.Reading.{values_of}
use Rattle.obu_codec_config.specs.declared.sequence_header.SequenceHeader.{SequenceHeader}
use Rattle.obu_codec_config.specs.declared.codec_config.CodecConfig.{CodecConfig}
use Rattle.iamf_sequence.specs.declared.unit.Unit.{Unit as Temporal}
use Rattle.iamf_sequence.specs.Tails.{with_tails}
use Rattle.iamf_sequence.specs.ContentsView.{AreHeaders, AreCodecs}
use Rattle.iamf_sequence.specs.UnitView.{view_unit, IsConsistent, AreUnits}
use Rattle.iamf_sequence.proofs.AdmittedRoles.{roles_admitted}
use Rattle.iamf_sequence.proofs.Finishing.{no_header_left, no_codec_left, elements_without, mixes_without, sorted_units, refilled}
use Rattle.iamf_sequence.proofs.WithTails.{headers_are, codecs_are}
use Rattle.iamf_sequence.proofs.decoding.finish.Goals as goal

pub unreachable-requires : goal.unreachable-requires
unreachable-requires c =
    let r = c.requires in
    no_header_left r.1 (roles_admitted c.args.admission r.1 r.2.stands) r.2.read.whole (subst (λ (o : Option SequenceHeader). AreHeaders o (with_tails header_in (values_of r.1))) c.in_default.is r.3.contents.header)

pub unreachable-requires-in_default-codec : goal.unreachable-requires-in_default-codec
unreachable-requires-in_default-codec c =
    let r = c.requires in
    no_codec_left r.1 (roles_admitted c.args.admission r.1 r.2.stands) r.2.read.whole (subst (λ (o : Option CodecConfig). AreCodecs o (with_tails codec_in (values_of r.1))) c.in_default-codec.is r.3.contents.codec)

pub returns : goal.returns
returns c = λ bytes l short walked is.
    let admitted = roles_admitted c.args.admission l walked.stands in
    let header = subst (λ (o : Option SequenceHeader). AreHeaders o (with_tails header_in (values_of l))) c.in-Some.is is.contents.header in
    let codec = subst (λ (o : Option CodecConfig). AreCodecs o (with_tails codec_in (values_of l))) c.in-Some-codec.is is.contents.codec in
    let value = c.as_mut_slice.ensures.value in
    let units = sorted_units l c.as_mut_slice.result.now c.sort_units.new.units c.in_ok-sort_units.ensures.count c.in_ok-sort_units.ensures.sorts admitted (ap (map view_unit) value ∙ is.contents.units)
    (subst (λ (us : List Temporal). All IsConsistent us) (sym value) is.contents.consistent) in
    let old = c.args.draft.contents.units in
    let new = c.sort_units.new.units in
    let full : List Temporal = take old.len (new ++ drop (length new) old.items) in
    let count : old.len ≡ length new = old.ok.0 ∙ sym (ap length value) ∙ sym c.in_ok-sort_units.ensures.count in
    let all : AreUnits full (temporal_units (values_of l)) = subst (λ (us : List Temporal). AreUnits us (temporal_units (values_of l))) (sym (refilled old.len new (drop (length new) old.items) count)) units in
    record {
      read = walked.read;
      short = short;
      views = is.views;
      tiles = is.tiles;
      numbers = is.numbers;
      header = sym (headers_are (values_of l)) ∙ ap (map (λ (p : SequenceHeaderFields × List ℕ). p.0)) header;
      header_tail = header;
      codec = (codec.0, sym (codecs_are (values_of l)) ∙ ap (map (λ (p : CodecConfigFields × List ℕ). p.0)) codec.1, codec.2);
      codec_tail = codec;
      elements = elements_without c.args.draft.contents.elements.items (values_of l) is.contents.elements;
      element_tails = is.contents.elements;
      valid = is.contents.valid;
      mixes = mixes_without c.args.draft.contents.mixes.items (values_of l) is.contents.mixes;
      mix_tails = is.contents.mixes;
      valid_mixes = is.contents.valid_mixes;
      units = all;
      admission = walked.stands;
    }
