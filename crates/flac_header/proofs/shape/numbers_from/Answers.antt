use Rattle.spec_syntax.proofs.Reading.{answers_same}
use Rattle.flac_header.proofs.HeaderParts.{numbers_no_rate, numbers_then}
use Rattle.flac_header.proofs.shape.numbers_from.Goals as goal

pub returns-in-Err-sample_rate_from-clause-gives : goal.returns-in-Err-sample_rate_from-clause-gives
returns-in-Err-sample_rate_from-clause-gives c = numbers_no_rate c.args.shape _ c.in-Ok.size c.args.reader.now c.block_size_from.new.reader c.in-Err-sample_rate_from.fault c.in-Ok.ensures.gives c.in-Err-sample_rate_from.ensures.gives

pub returns-clause-gives : goal.returns-clause-gives
returns-clause-gives c = answers_same _ _ _ _ (numbers_then c.args.shape _ c.in-Ok.size c.in-Ok-sample_rate_from.rate c.args.reader.now c.block_size_from.new.reader c.sample_rate_from.new.reader c.in-Ok.ensures.gives c.in-Ok-sample_rate_from.ensures.gives) (c.tested.ensures c.sample_rate_from.new.reader)
