use Rattle.std.proofs.Common.{◌≡◌, length, take, arith, rules, FitsSigned, w64, to_z-of_z}
use Rattle.std.proofs.lemmas.List.{length-take-le}
use Rattle.spec_syntax.proofs.Reading.{answers_same}
use Rattle.flac_subframes.proofs.Partitions.{partition_plain, partition_coded, partition_short, width_short}
use Rattle.flac_subframes.proofs.partition.partition_from.Goals as goal

pub returns-in-Err-clause-gives : goal.returns-in-Err-clause-gives
returns-in-Err-clause-gives g c = partition_short c.args.half (g.P.Predictor.next c.args.predictor.now) c.args.count c.args.to (take c.args.from c.args.row.now) c.args.reader.now c.in-Err.fault c.in-Err.ensures.takes.0 c.in-Err.ensures.takes.1

pub returns-in-Err-small_from-clause-gives : goal.returns-in-Err-small_from-clause-gives
returns-in-Err-small_from-clause-gives g c =
    width_short c.args.half (g.P.Predictor.next c.args.predictor.now) c.args.count c.args.to (take c.args.from c.args.row.now) c.args.reader.now _ c.in-Ok.parameter c.in-Err-small_from.fault (omega (arith, c.if-parameter-escape.true, c.escape.ensures.is)) c.in-Ok.ensures.takes c.in-Err-small_from.ensures.takes.0 c.in-Err-small_from.ensures.takes.1

pub returns-then-parameter-escape-clause-gives : goal.returns-then-parameter-escape-clause-gives
returns-then-parameter-escape-clause-gives g c =
    let fh : FitsSigned w64 c.args.half = search rules in
    let gives = simp to_z-of_z at c.samples_from.ensures.gives in
    let len : length (take c.args.from c.args.row.now) ≡ c.args.from = length-take-le c.args.from c.args.row.now (omega arith) in
    answers_same _ _ _ _ (partition_plain c.args.half (g.P.Predictor.next c.args.predictor.now) c.args.count c.args.to (take c.args.from c.args.row.now) c.args.reader.now _ _ c.in-Ok.parameter c.in-Ok-small_from.width c.args.from len (omega (arith, c.if-parameter-escape.true, c.escape.ensures.is)) c.in-Ok.ensures.takes c.in-Ok-small_from.ensures.takes) gives

pub returns-clause-gives : goal.returns-clause-gives
returns-clause-gives g c =
    let fh : FitsSigned w64 c.args.half = search rules in
    let gives = simp to_z-of_z at c.samples_from-2.ensures.gives in
    let len : length (take c.args.from c.args.row.now) ≡ c.args.from = length-take-le c.args.from c.args.row.now (omega arith) in
    answers_same _ _ _ _ (partition_coded c.args.half (g.P.Predictor.next c.args.predictor.now) c.args.count c.args.to (take c.args.from c.args.row.now) c.args.reader.now _ c.in-Ok.parameter c.args.from len (λ same. c.if-parameter-escape.false (omega (arith, same, c.escape.ensures.is))) c.in-Ok.ensures.takes) gives

pub returns-then-parameter-le-MOST_SHORT-clause-gives : goal.returns-then-parameter-le-MOST_SHORT-clause-gives
returns-then-parameter-le-MOST_SHORT-clause-gives g c =
    let fh : FitsSigned w64 c.args.half = search rules in
    let gives = simp to_z-of_z at c.rice_samples_from.ensures.gives in
    let len : length (take c.args.from c.args.row.now) ≡ c.args.from = length-take-le c.args.from c.args.row.now (omega arith) in
    answers_same _ _ _ _ (partition_coded c.args.half (g.P.Predictor.next c.args.predictor.now) c.args.count c.args.to (take c.args.from c.args.row.now) c.args.reader.now _ c.in-Ok.parameter c.args.from len (λ same. c.if-parameter-escape.false (omega (arith, same, c.escape.ensures.is))) c.in-Ok.ensures.takes) gives
