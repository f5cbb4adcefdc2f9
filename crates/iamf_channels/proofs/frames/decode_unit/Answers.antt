use Rattle.std.proofs.Common.{arith, ◌≡◌, ◌<◌, ℕ, length, get_or, sym, ap, subst, ◌∙◌}
use Rattle.spec_play.specs.Laws.{HasFrame}
use Rattle.iamf_bits.specs.Rows.{Rows}
use Rattle.iamf_channels.specs.Heard.{codec_in, unit_in}
use Rattle.iamf_channels.specs.Decoded.{no_rows, Holds}
use Rattle.iamf_channels.proofs.RowLists.{same_default, same_count, same_at, map_set, done_more}
use Rattle.iamf_channels.proofs.frames.decode_unit.Goals as goal

pub decode_stream-requires-clause-length : goal.decode_stream-requires-clause-length
decode_stream-requires-clause-length c =
    let planes = c.loop-i.planes in
    let first = c.args.planes.now in
    let i = c.loop-i.i in
    let count : length planes ≡ length first = same_count (λ (p : Rows). p.length) first planes c.loop-i.invariant.lengths in
    let there : i < length first = omega arith in
    let inside : i < length planes = omega arith in
    ap (λ (p : Rows). p.length) (same_default planes i c.index-planes-i.result no_rows inside) ∙ sym (same_at (λ (p : Rows). p.length) first planes i c.loop-i.invariant.lengths there) ∙ c.requires.lengths i there

pub decode_stream-requires-clause-whole : goal.decode_stream-requires-clause-whole
decode_stream-requires-clause-whole c =
    let planes = c.loop-i.planes in
    let first = c.args.planes.now in
    let i = c.loop-i.i in
    let count : length planes ≡ length first = same_count (λ (p : Rows). p.length) first planes c.loop-i.invariant.lengths in
    let there : i < length first = omega arith in
    let inside : i < length planes = omega arith in
    let wide : (get_or first i no_rows).channels ≡ (get_or planes i c.index-planes-i.result).channels =
    same_at (λ (p : Rows). p.channels) first planes i c.loop-i.invariant.channels there ∙ ap (λ (p : Rows). p.channels) (same_default planes i no_rows c.index-planes-i.result inside) in
    subst (λ (n : ℕ). HasFrame (codec_in c.args.sequence.now) (unit_in c.args.sequence.now c.args.u) (get_or c.args.substreams.now i 0, n)) wide (c.requires.whole i there)

pub loop-i-preserved : goal.loop-i-preserved
loop-i-preserved c =
    let planes = c.loop-i.planes in
    let first = c.args.planes.now in
    let i = c.loop-i.i in
    let made = c.decode_stream.new.rows in
    let count : length planes ≡ length first = same_count (λ (p : Rows). p.length) first planes c.loop-i.invariant.lengths in
    let inside : i < length planes = omega arith in
    record {
      channels = map_set (λ (p : Rows). p.channels) planes i made c.index-planes-i.result inside c.decode_stream.ensures.channels ∙ c.loop-i.invariant.channels;
      lengths = map_set (λ (p : Rows). p.length) planes i made c.index-planes-i.result inside c.decode_stream.ensures.length ∙ c.loop-i.invariant.lengths;
      done = done_more (λ (k : ℕ) (p : Rows). Holds (codec_in c.args.sequence.now) (unit_in c.args.sequence.now c.args.u) (get_or c.args.substreams.now k 0) p) planes i made inside c.loop-i.invariant.done c.decode_stream.ensures.holds;
    }
