-- An audio frame is the id of a substream, where its type does not give it, and a codec's frame.
use Rattle.std.proofs.Common.{Result, Ok, Err}
use Rattle.spec_bits.specs.declared.FieldFault.{FieldFault}
use Rattle.spec_bits.specs.Bits.{all_bits}
use Rattle.spec_syntax.specs.Reading.{read, start_of}
use Rattle.spec_syntax.proofs.PayloadLaws.{payload_read}
use Rattle.spec_blocks.specs.AudioFrame.{audio_frame}
use Rattle.spec_blocks.proofs.BlockFields.{frame_syntax}
use Rattle.obu_header.specs.declared.view.ObuView.{ObuView}
use Rattle.obu_data.specs.declared.frame.FrameView.{FrameView}
use Rattle.obu_data.specs.FrameReading.{ReadsFrame, SpellsFrame}

pub frame_spells : (obu : ObuView) (r : Result FrameView FieldFault) → ReadsFrame r (read (λ f. f) (audio_frame obu.head.kind) (start_of obu.payload.now)) → SpellsFrame obu r
frame_spells obu (Ok frame) h = payload_read (frame_syntax obu.head.kind) obu.payload.now frame.substream h.0 (all_bits frame.bytes.now) h.1 h.2
frame_spells obu (Err f) h = (frame_syntax obu.head.kind).reading.fails obu.payload.now f h
