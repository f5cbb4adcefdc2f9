use Rattle.std.proofs.lemmas.Int.{to_z-of_z}
use Rattle.std.proofs.Common.{rules, ap, w16, SFits, to_z, ◌≡◌, ◌∙◌, pos, sym, Ok, refl}
use Rattle.spec_descriptors.specs.CodecConfig.{lpcm_config, flac_config}
use Rattle.spec_syntax.specs.Reading.{read}
use Rattle.obu_codec_config.specs.CodecView.{StandsForCoding}
use Rattle.obu_codec_config.proofs.CodecReading.{Heads, config_of, flac_config_read, lpcm_config_read}
use Rattle.obu_codec_config.proofs.codec_config.CodecConfig.read_from.Goals as goal
use Rattle.obu_codec_config.proofs.codec_config.CodecConfig.read_from.Goals.{else-codec_id-ne1716281667-via-then-codec_id-ne1716281667+else-codec_id-ne1768973165, else-codec_id-ne1716281667-via-else-codec_id-ne1716281667, then-codec_id-eq1716281667+in_ok-coding, else-codec_id-eq1716281667+in_ok-coding-2}

pub returns-clause-gives : goal.returns-clause-gives
returns-clause-gives c =
    let roll : c.in_ok-take_i16.field-0 ≡ pos 0 = let fits : SFits w16 c.in_ok-take_i16.field-0 = search rules in sym (to_z-of_z w16 c.in_ok-take_i16.field-0 fits) ∙ ap (to_z w16) c.if-branch-ne0.false in
    elim c.if-codec_id-eq1716281667.branch [
      | then-codec_id-eq1716281667+in_ok-coding w ↦
          let k = w.in_ok-coding.ensures.gives in
          let heads : Heads 0x664c6143 c.args.view.now c.take_i16.new.self c.in_ok-id.id c.in_ok-frame_length.frame_length = record {
            after_id = c.take_leb.new.self;
            after_codec = c.take_bits.new.self;
            after_length = c.take_leb-2.new.self;
            id_read = c.in_ok-id.ensures.takes;
            codec_read = rw w.if-codec_id-eq1716281667.true at c.in_ok-codec_id.ensures.takes;
            length_read = c.in_ok-frame_length.ensures.takes;
            length_low = c.if-frame_length-eq0.false;
            length_high = c.if-frame_length-gt65535.false;
            roll_read = rw roll at c.in_ok-take_i16.ensures.takes;
          } in
          let stands : StandsForCoding c.if-codec_id-eq1716281667.coding k.0 = rw w.coding-is k.1 in
          let is_read : read _ flac_config c.take_i16.new.self ≡ Ok (k.0, c.if-codec_id-eq1716281667.view) = rw w.view-is k.2 in
          (config_of c.in_ok-id.id c.in_ok-frame_length.frame_length k.0, c.if-codec_id-eq1716281667.view, record { id = refl; frame_length = refl; coding_is = stands }, flac_config_read _ _ _ _ _ _ _ heads is_read, sym c.rest.ensures.bits)
      | else-codec_id-eq1716281667+in_ok-coding-2 w ↦
          let k = w.in_ok-coding-2.ensures.gives in
          let lpcm : c.in_ok-codec_id.codec_id ≡ 0x6970636d =
          elim c.else-codec_id-ne1716281667.branch [
            | else-codec_id-ne1716281667-via-then-codec_id-ne1716281667+else-codec_id-ne1768973165 v ↦ v.if-codec_id-ne1768973165.false
            | else-codec_id-ne1716281667-via-else-codec_id-ne1716281667 v ↦ absurd (w.if-codec_id-eq1716281667.false v.if-codec_id-ne1716281667.false)
          ] in
          let heads : Heads 0x6970636d c.args.view.now c.take_i16.new.self c.in_ok-id.id c.in_ok-frame_length.frame_length = record {
            after_id = c.take_leb.new.self;
            after_codec = c.take_bits.new.self;
            after_length = c.take_leb-2.new.self;
            id_read = c.in_ok-id.ensures.takes;
            codec_read = rw lpcm at c.in_ok-codec_id.ensures.takes;
            length_read = c.in_ok-frame_length.ensures.takes;
            length_low = c.if-frame_length-eq0.false;
            length_high = c.if-frame_length-gt65535.false;
            roll_read = rw roll at c.in_ok-take_i16.ensures.takes;
          } in
          let stands : StandsForCoding c.if-codec_id-eq1716281667.coding k.0 = rw w.coding-is k.1 in
          let is_read : read _ lpcm_config c.take_i16.new.self ≡ Ok (k.0, c.if-codec_id-eq1716281667.view) = rw w.view-is k.2 in
          (config_of c.in_ok-id.id c.in_ok-frame_length.frame_length k.0, c.if-codec_id-eq1716281667.view, record { id = refl; frame_length = refl; coding_is = stands }, lpcm_config_read _ _ _ _ _ _ _ heads is_read, sym c.rest.ensures.bits)
    ]
