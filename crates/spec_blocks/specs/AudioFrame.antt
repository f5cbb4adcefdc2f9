-- IAMF 1.0.0, "Audio Frame OBU Syntax and Semantics": the substream's id, which stands in the payload for type 5 and is
-- the type less 6 for the types 6 to 23, and then the codec's frame.
use Rattle.std.specs.Prelude.{ℕ, ◌-◌, [], ◌==◌}
use Rattle.spec_bits.specs.declared.FieldFault.{FieldFault}
use Rattle.spec_bits.specs.Form.{Leb128}
use Rattle.spec_syntax.specs.Syntax.{Syntax, End, Choice, field}

-- the frame is the payload's tail
unfoldable pub audio_frame : ℕ → Syntax FieldFault ℕ
audio_frame obu_type = Choice (obu_type == 5) (field Leb128 []) (End (obu_type - 6))
