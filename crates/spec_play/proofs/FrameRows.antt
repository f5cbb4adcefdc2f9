-- The rows of a FLAC frame are those that its fields stand for.
use Rattle.std.proofs.Common.{[], ap}
use Rattle.spec_syntax.proofs.SyntaxLaws.{reads_exactly}
use Rattle.spec_flac.specs.Faults.{short}
use Rattle.spec_flac.specs.Frame.{frame}
use Rattle.spec_play.specs.CodedSamples.{rows_read, flac_rows}
use Rattle.spec_play.specs.Laws.{RowsAreOfFrame}

pub rows_are_of_frame : RowsAreOfFrame
unfolding flac_rows
rows_are_of_frame shape bytes rows is =
    let again = (reads_exactly short (frame shape)).again bytes is.fields rows [] is.payload in
    ap rows_read again.1
