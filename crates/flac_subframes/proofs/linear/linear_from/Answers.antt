use Rattle.std.proofs.Common.{take, length, arith}
use Rattle.spec_syntax.proofs.Reading.{answers_same}
use Rattle.flac_subframes.proofs.PredictedSubframes.{linear_then, linear_no_warm, linear_no_weights}
use Rattle.flac_subframes.proofs.linear.linear_from.Goals as goal

pub returns-in-Err-clause-gives : goal.returns-in-Err-clause-gives
returns-in-Err-clause-gives g c = linear_no_warm g.row.N c.args.depth (length c.args.row.now) c.args.reader.now c.in-Err.fault c.in-Err.ensures.gives

pub returns-in-Ok-weights_from-clause-gives : goal.returns-in-Ok-weights_from-clause-gives
returns-in-Ok-weights_from-clause-gives g c =
    answers_same _ _ _ _ (linear_then g.row.N c.args.depth (length c.args.row.now) (length c.warm_up.new.row) (take g.row.N c.warm_up.new.row) _ c.args.reader.now c.warm_up.new.reader _ (omega arith) c.in-Ok.ensures.gives c.in-Ok-weights_from.ensures.gives) c.weighted_from.ensures.gives

pub returns-in-Err-weights_from-clause-gives : goal.returns-in-Err-weights_from-clause-gives
returns-in-Err-weights_from-clause-gives g c = linear_no_weights g.row.N c.args.depth (length c.args.row.now) (take g.row.N c.warm_up.new.row) c.args.reader.now c.warm_up.new.reader c.in-Err-weights_from.fault c.in-Ok.ensures.gives c.in-Err-weights_from.ensures.gives
