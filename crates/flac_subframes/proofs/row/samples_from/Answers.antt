use Rattle.std.proofs.Common.{◌≡◌, ℕ, ◌<◌, length, take, arith, rules, FitsSigned, w64, to_z-of_z, ap, ◌∙◌, Ok}
use Rattle.flac_subframes.proofs.WrittenRows.{take_written, small_written, samples_go_on, samples_fail, samples_done}
use Rattle.flac_subframes.proofs.row.samples_from.Goals as goal

pub returns-in-Err-clause-gives : goal.returns-in-Err-clause-gives
returns-in-Err-clause-gives g c =
    let fh : FitsSigned w64 c.args.half = search rules in
    let reads = simp to_z-of_z at c.loop-n.invariant.reads in
    let fp : FitsSigned w64 c.predict-prediction.result = search rules in
    let gives = simp to_z-of_z at c.in-Err.ensures.gives in
    samples_fail c.args.half (g.C.Code.residual c.args.code.now) (g.P.Predictor.next c.args.predictor.now) (take c.loop-n.n c.loop-n.row) c.args.to c.loop-n.n c.loop-n.ahead c.predict-prediction.result c.in-Err.fault _ c.loop-n-test.true c.predict-prediction.ensures.value gives reads

pub loop-n-preserved : goal.loop-n-preserved
loop-n-preserved g c =
    let fh : FitsSigned w64 c.args.half = search rules in
    let reads = simp to_z-of_z at c.loop-n.invariant.reads in
    let small = simp to_z-of_z at c.loop-n.invariant.small in
    let value = simp to_z-of_z at c.in-Ok.ensures.small in
    let f : FitsSigned w64 c.in-Ok.value = search rules in
    let fp : FitsSigned w64 c.predict-prediction.result = search rules in
    let gives = simp to_z-of_z at c.in-Ok.ensures.gives in
    let lt : c.loop-n.n < length c.loop-n.row = omega arith in
    let row = take_written c.loop-n.row c.loop-n.n c.in-Ok.value lt in
    let goes = samples_go_on c.args.half (g.C.Code.residual c.args.code.now) (g.P.Predictor.next c.args.predictor.now) (take c.loop-n.n c.loop-n.row) c.args.to c.loop-n.n c.loop-n.ahead _ c.predict-prediction.result c.in-Ok.value _ c.loop-n-test.true c.predict-prediction.ensures.value gives reads in
    simp to_z-of_z (record {
      small = small_written c.args.half c.loop-n.row c.loop-n.n c.in-Ok.value lt small value;
      reads = rw row goes;
    })

pub returns-clause-gives : goal.returns-clause-gives
returns-clause-gives g c =
    let fh : FitsSigned w64 c.args.half = search rules in
    let reads = simp to_z-of_z at c.loop-n.invariant.reads in
    let e : c.loop-n.n ≡ c.args.to = omega arith in
    samples_done c.args.half (g.C.Code.residual c.args.code.now) (g.P.Predictor.next c.args.predictor.now) (take c.loop-n.n c.loop-n.row) c.args.to c.loop-n.n c.loop-n.ahead _ c.loop-n-test.false reads ∙ ap (λ (k : ℕ). Ok (take k c.loop-n.row, c.loop-n.ahead)) e
