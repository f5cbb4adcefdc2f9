use Rattle.std.proofs.Common.{take, length, arith, rules, FitsSigned, w64, to_z-of_z}
use Rattle.spec_syntax.proofs.Reading.{answers_same}
use Rattle.flac_subframes.proofs.PredictedSubframes.{predicted_then, predicted_fails}
use Rattle.flac_subframes.proofs.predicted.predicted_from.Goals as goal

pub returns-in-Ok-clause-gives : goal.returns-in-Ok-clause-gives
returns-in-Ok-clause-gives g c =
    let fh : FitsSigned w64 c.half.result = search rules in
    let gives = simp to_z-of_z at c.residual_from.ensures.gives in
    answers_same _ _ _ _ (predicted_then c.args.order (g.P.Predictor.next c.args.predictor.now) c.args.depth (length c.args.row.now) (length c.warm_up.new.row) c.half.result (take c.args.order c.warm_up.new.row) c.args.reader.now c.warm_up.new.reader (omega arith) c.half.ensures.is c.in-Ok.ensures.gives) gives

pub returns-in-Err-clause-gives : goal.returns-in-Err-clause-gives
returns-in-Err-clause-gives g c = predicted_fails c.args.order (g.P.Predictor.next c.args.predictor.now) c.args.depth (length c.args.row.now) c.args.reader.now c.in-Err.fault c.in-Err.ensures.gives
