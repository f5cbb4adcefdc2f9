use Rattle.std.proofs.Common.{length, ap, arith, length-drop}
use Rattle.spec_bits.specs.Cursor.{Cursor, bytes_left}
use Rattle.iamf_stream.proofs.Fronts.{size_len}
use Rattle.iamf_stream.proofs.front.obu_length.Goals as goal

pub overflow_sub-result : goal.overflow_sub-result
overflow_sub-result c =
    let left = size_len _ _ _ c.in-Ok.ensures.bytes in
    omega (arith, left, c.left.ensures.bytes c.in-Ok.ensures.on_byte, ap (λ (v : Cursor). length (bytes_left v)) c.whole-view.ensures, length-drop 1 c.args.bytes.now)
