use Rattle.std.proofs.Common.{ap, sym, ◌∙◌}
use Rattle.spec_bits.specs.Cursor.{Cursor}
use Rattle.spec_syntax.specs.Reading.{read}
use Rattle.spec_flac.specs.Faults.{short}
use Rattle.spec_flac.specs.Frame.{frame}
use Rattle.flac_sub.proofs.WholeFrames.{decoded, is_fault}
use Rattle.flac_sub.proofs.frame.decode_two.Goals as goal

pub returns-in-Ok : goal.returns-in-Ok
returns-in-Ok c =
    let e = ap (λ (d : Cursor). read short (frame c.args.shape) d) (sym c.new-reader.ensures) ∙ c.in-Ok.ensures.gives in
    decoded c.args.shape c.args.bytes.now _ c.two_from.new.reader c.tail.result e c.tail.ensures.none c.tail.ensures.some

pub returns-in-Err : goal.returns-in-Err
returns-in-Err c = is_fault c.args.shape c.args.bytes.now c.in-Err.fault (ap (λ (d : Cursor). read short (frame c.args.shape) d) (sym c.new-reader.ensures) ∙ c.in-Err.ensures.gives)
