use Rattle.spec_syntax.proofs.Reading.{answers_same}
use Rattle.flac_sub.proofs.WholeFrames.{end_ok, end_err}
use Rattle.flac_sub.proofs.footer.end_from.Goals as goal

pub returns-in-Ok : goal.returns-in-Ok
returns-in-Ok c = record { gives = answers_same _ _ _ _ (end_ok c.args.reader.now c.padding_from.new.reader c.in-Ok.ensures.gives) c.footer_from.ensures.gives }

pub returns-in-Err : goal.returns-in-Err
returns-in-Err c = record { gives = end_err c.args.reader.now c.in-Err.fault c.in-Err.ensures.gives }
