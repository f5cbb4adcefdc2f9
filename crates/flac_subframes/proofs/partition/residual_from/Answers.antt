use Rattle.std.proofs.Common.{◌≡◌, ◌+◌, ◌/◌, length, take, arith, rules, FitsSigned, w64, to_z-of_z, refl}
use Rattle.std.proofs.lemmas.List.{length-take-le}
use Rattle.spec_syntax.proofs.Reading.{answers_same}
use Rattle.flac_subframes.proofs.Partitions.{residual_is, method_short, method_reserved, order_short, order_splits, order_large}
use Rattle.flac_subframes.proofs.partition.residual_from.Goals as goal

pub returns-in-Err-clause-gives : goal.returns-in-Err-clause-gives
returns-in-Err-clause-gives g c = method_short c.args.half (g.P.Predictor.next c.args.predictor.now) (length c.args.row.now) (take c.args.from c.args.row.now) c.args.reader.now c.in-Err.fault c.in-Err.ensures.takes.0 c.in-Err.ensures.takes.1

pub returns-then-method-gt1-clause-gives : goal.returns-then-method-gt1-clause-gives
returns-then-method-gt1-clause-gives g c = method_reserved c.args.half (g.P.Predictor.next c.args.predictor.now) (length c.args.row.now) (take c.args.from c.args.row.now) c.args.reader.now _ c.in-Ok.method c.if-method-gt1.true c.in-Ok.ensures.takes

pub returns-in-Err-small_from-clause-gives : goal.returns-in-Err-small_from-clause-gives
returns-in-Err-small_from-clause-gives g c = order_short c.args.half (g.P.Predictor.next c.args.predictor.now) (length c.args.row.now) (take c.args.from c.args.row.now) c.args.reader.now _ c.in-Ok.method c.in-Err-small_from.fault (omega arith) c.in-Ok.ensures.takes c.in-Err-small_from.ensures.takes.0 c.in-Err-small_from.ensures.takes.1

pub returns-then-row-count-ne0-clause-gives : goal.returns-then-row-count-ne0-clause-gives
returns-then-row-count-ne0-clause-gives g c = order_splits c.args.half (g.P.Predictor.next c.args.predictor.now) (length c.args.row.now) (take c.args.from c.args.row.now) c.args.reader.now _ _ c.in-Ok.method c.in-Ok-small_from.order c.partition_count-count.result (omega arith) c.partition_count-count.ensures c.if-row-count-ne0.true c.in-Ok.ensures.takes c.in-Ok-small_from.ensures.takes

pub returns-then-size-from-clause-gives : goal.returns-then-size-from-clause-gives
returns-then-size-from-clause-gives g c =
    let len : length (take c.args.from c.args.row.now) ≡ c.args.from = length-take-le c.args.from c.args.row.now (omega arith) in
    order_large c.args.half (g.P.Predictor.next c.args.predictor.now) (length c.args.row.now) (take c.args.from c.args.row.now) c.args.reader.now _ _ c.in-Ok.method c.in-Ok-small_from.order c.partition_count-count.result (length c.args.row.now / c.partition_count-count.result) c.args.from len (omega arith) c.partition_count-count.ensures (omega (arith, c.if-row-count-ne0.false)) refl c.if-size-from.true c.in-Ok.ensures.takes c.in-Ok-small_from.ensures.takes

pub returns-clause-gives : goal.returns-clause-gives
returns-clause-gives g c =
    let fh : FitsSigned w64 c.args.half = search rules in
    let gives = simp to_z-of_z at c.partitions_from.ensures.gives in
    let len : length (take c.args.from c.args.row.now) ≡ c.args.from = length-take-le c.args.from c.args.row.now (omega arith) in
    answers_same _ _ _ _ (residual_is c.args.half (g.P.Predictor.next c.args.predictor.now) (length c.args.row.now) (take c.args.from c.args.row.now) c.args.reader.now _ _ c.in-Ok.method c.in-Ok-small_from.order (length c.args.row.now / c.partition_count-count.result) c.partition_count-count.result c.args.from (c.in-Ok.method + 4) len (omega arith) c.partition_count-count.ensures (omega (arith, c.if-row-count-ne0.false)) refl (omega (arith, c.if-size-from.false)) refl c.in-Ok.ensures.takes c.in-Ok-small_from.ensures.takes) gives
