use Rattle.std.proofs.Common.{arith, ◌≡◌, ℕ, List, get_or, sym, ap, subst, ◌∙◌}
use Rattle.std.proofs.lemmas.Option.{get_or_from_slice_get}
use Rattle.spec_descriptors.specs.CodecConfig.{CodecConfigFields}
use Rattle.spec_sequence.specs.Parts.{FrameValue}
use Rattle.spec_play.specs.Mixes.{no_codec, no_unit}
use Rattle.spec_play.specs.CodedSamples.{frame_sample, bytes_of, stream_bytes}
use Rattle.spec_play.specs.Laws.{IsCodedBy}
use Rattle.iamf_sequence.specs.UnitView.{view_frame}
use Rattle.iamf_elements.proofs.UnitCounts.{count_of_units}
use Rattle.iamf_channels.specs.Heard.{codec_in, units_in, unit_in}
use Rattle.iamf_channels.proofs.StreamFrames.{found_is, not_missing, frame_by_code, samples_by_code}
use Rattle.iamf_channels.proofs.frames.decode_stream.Goals as goal
use Rattle.iamf_channels.proofs.frames.decode_stream.Goals.{After-codec}

-- the codec is that of the sequence, and the frame is the one that the unit has
codec_is : (c : After-codec) → codec_in c.args.sequence.now ≡ c.codec.ensures.says.0
codec_is c = ap (λ (cs : List CodecConfigFields). get_or cs 0 no_codec) c.codec.ensures.says.1

frame_is : (c : After-codec) → c.requires.whole.frame ≡ view_frame c.in-Some.frame.now
frame_is c =
    let found = c.unit.ensures.is in
    let same = get_or_from_slice_get (units_in c.args.sequence.now) c.args.u found.0 no_unit found.1 in
    let whole = c.requires.whole in
    found_is (unit_in c.args.sequence.now c.args.u) found.0 whole.frame c.args.substream c.frame.result c.in-Some.frame same whole.found (c.frame.ensures found.0 found.2) c.in-Some.is

pub unit-requires : goal.unit-requires
unit-requires c = omega (arith, count_of_units c.args.sequence.now.entries)

pub decode_into-requires-clause-whole : goal.decode_into-requires-clause-whole
decode_into-requires-clause-whole c =
    let codec = codec_in c.args.sequence.now in
    let says = c.codec.ensures.says in
    let is = codec_is (goal.at.decode_into-requires-clause-whole c).After-codec in
    let whole = c.requires.whole in
    let frame = frame_is (goal.at.decode_into-requires-clause-whole c).After-codec in
    let coded = subst (λ (f : FrameValue). IsCodedBy codec c.args.rows.now.channels f.bytes) frame whole.coded in
    frame_by_code c.codec.result.now codec says.0 c.args.rows.now.length c.args.rows.now.channels c.in-Some.frame.now.bytes.now is says.2 c.requires.depth whole.few coded c.requires.length

pub unreachable-requires : goal.unreachable-requires
unreachable-requires c =
    let found = c.unit.ensures.is in
    let unit = unit_in c.args.sequence.now c.args.u in
    let same = get_or_from_slice_get (units_in c.args.sequence.now) c.args.u found.0 no_unit found.1 in
    not_missing unit found.0 c.requires.whole.frame c.args.substream c.frame.result same c.requires.whole.found (c.frame.ensures found.0 found.2) c.in-None.is

pub returns-clause-holds : goal.returns-clause-holds
returns-clause-holds c =
    let unit = unit_in c.args.sequence.now c.args.u in
    let codec = codec_in c.args.sequence.now in
    let says = c.codec.ensures.says in
    let is = codec_is (goal.at.returns-clause-holds c).After-codec in
    let whole = c.requires.whole in
    let frame = frame_is (goal.at.returns-clause-holds c).After-codec in
    let rows = c.args.rows.now in
    let made = c.decode_into.new.rows in
    let bytes : c.in-Some.frame.now.bytes.now ≡ stream_bytes unit c.args.substream = sym (ap bytes_of whole.found ∙ ap (λ (f : FrameValue). f.bytes) frame) in
    let wide : made.channels ≡ rows.channels = c.decode_into.ensures.channels in
    let long : made.length ≡ rows.length = c.decode_into.ensures.length in
    record {
      samples = λ k n there within.
          c.decode_into.ensures.samples k n (omega arith) (omega arith)
          ∙ samples_by_code c.codec.result.now codec says.0 rows.length rows.channels c.in-Some.frame.now.bytes.now n k is says.2 c.requires.length
          ∙ ap (λ (b : List ℕ). frame_sample codec rows.channels b n k) bytes ∙ ap (λ (m : ℕ). frame_sample codec m (stream_bytes unit c.args.substream) n k) (sym wide);
      small = λ k n there within. c.decode_into.ensures.small k n (omega arith) (omega arith);
    }
