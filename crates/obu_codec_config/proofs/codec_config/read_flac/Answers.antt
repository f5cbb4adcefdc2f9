use Rattle.std.proofs.Common.{refl, arith}
use Rattle.spec_bits.specs.Cursor.{IsOnByte}
use Rattle.spec_descriptors.specs.declared.fault.DescriptorFault.TheVariants as fault
use Rattle.spec_descriptors.specs.CodecConfig.{Flac}
use Rattle.std.proofs.lemmas.Bool.{not-false, not-true}
use Rattle.obu_codec_config.proofs.FlacBytes.{FlacRead, flac_alone, flac_more, flac_entry, flac_onward}
use Rattle.obu_codec_config.proofs.codec_config.read_flac.Goals as goal
use Rattle.obu_codec_config.proofs.codec_config.read_flac.Goals.{then-not-info+in_ok-read_blocks, else-not-info}

pub since-requires-clause-within : goal.since-requires-clause-within
since-requires-clause-within c =
    let g = c.in_ok-info.ensures.gives in
    let all : FlacRead (λ f. fault.Field f) c.args.view.now c.if-not-info.view c.in_ok-info.info.depth c.in_ok-info.info.rate =
    elim c.if-not-info.branch [
      | then-not-info+in_ok-read_blocks w ↦ rw w.view-is (flac_more _ _ _ _ c.in_ok-info.info g.0 _ g.1 (not-true _ w.if-not-info.true) g.2 w.in_ok-read_blocks.ensures.gives)
      | else-not-info w ↦ rw w.view-is (flac_alone _ _ _ c.in_ok-info.info g.0 g.1 (not-false _ w.if-not-info.false) g.2)
    ] in
    let onward = flac_onward _ _ _ _ _ all in
    omega (arith, c.at-start.ensures.place)

pub returns-clause-gives : goal.returns-clause-gives
returns-clause-gives c =
    let g = c.in_ok-info.ensures.gives in
    let all : FlacRead (λ f. fault.Field f) c.args.view.now c.if-not-info.view c.in_ok-info.info.depth c.in_ok-info.info.rate =
    elim c.if-not-info.branch [
      | then-not-info+in_ok-read_blocks w ↦ rw w.view-is (flac_more _ _ _ _ c.in_ok-info.info g.0 _ g.1 (not-true _ w.if-not-info.true) g.2 w.in_ok-read_blocks.ensures.gives)
      | else-not-info w ↦ rw w.view-is (flac_alone _ _ _ c.in_ok-info.info g.0 g.1 (not-false _ w.if-not-info.false) g.2)
    ] in
    let on_byte : IsOnByte c.if-not-info.view =
    elim c.if-not-info.branch [
      | then-not-info+in_ok-read_blocks w ↦ rw w.view-is w.in_ok-read_blocks.ensures.on_byte
      | else-not-info w ↦ rw w.view-is c.in_ok-info.ensures.on_byte
    ] in
    let entry = flac_entry _ _ _ _ _ _ _ all c.requires on_byte c.at-start.ensures.place refl in
    (Flac all.info all.others, rw c.since.ensures.range entry, all.is_read)
