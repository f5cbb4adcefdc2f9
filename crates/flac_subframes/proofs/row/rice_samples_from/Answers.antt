use Rattle.std.proofs.Common.{◌≡◌, ℕ, ◌<◌, length, take, arith, rules, FitsSigned, w64, to_z-of_z, ap, ◌∙◌, Ok}
use Rattle.spec_flac.specs.Residual.{coded_residual}
use Rattle.flac_subframes.proofs.WrittenRows.{take_written, small_written, samples_go_on, samples_fail, samples_done}
use Rattle.flac_subframes.proofs.row.rice_samples_from.Goals as goal

pub returns-in-Err-sample_from-clause-gives : goal.returns-in-Err-sample_from-clause-gives
returns-in-Err-sample_from-clause-gives g c =
    let fh : FitsSigned w64 c.args.half = search rules in
    let reads = simp to_z-of_z at c.loop-n.invariant.reads in
    let same : c.in-Ok.next ≡ c.loop-n.n = omega (arith, c.in-Ok.ensures.onward) in
    let goes_on = rw same at (simp to_z-of_z at c.in-Ok.ensures.goes_on) in
    let fp : FitsSigned w64 c.predict-prediction.result = search rules in
    let gives = simp to_z-of_z at c.in-Err-sample_from.ensures.gives in
    samples_fail c.args.half (coded_residual c.args.parameter) (g.P.Predictor.next c.args.predictor.now) (take c.loop-n.n c.near_samples.new.row) c.args.to c.loop-n.n c.near_samples.new.reader c.predict-prediction.result c.in-Err-sample_from.fault _ c.loop-n-test.true c.predict-prediction.ensures.value gives (goes_on ∙ reads)

pub loop-n-preserved : goal.loop-n-preserved
loop-n-preserved g c =
    let fh : FitsSigned w64 c.args.half = search rules in
    let reads = simp to_z-of_z at c.loop-n.invariant.reads in
    let same : c.in-Ok.next ≡ c.loop-n.n = omega (arith, c.in-Ok.ensures.onward) in
    let goes_on = rw same at (simp to_z-of_z at c.in-Ok.ensures.goes_on) in
    let small = rw same at (simp to_z-of_z at c.in-Ok.ensures.small) in
    let fp : FitsSigned w64 c.predict-prediction.result = search rules in
    let fz : FitsSigned w64 c.in-Ok-sample_from.value = search rules in
    let gives = simp to_z-of_z at c.in-Ok-sample_from.ensures.gives in
    let value = simp to_z-of_z at c.in-Ok-sample_from.ensures.small in
    let row_now = c.near_samples.new.row in
    let lt : c.loop-n.n < length row_now = omega arith in
    let row = take_written row_now c.loop-n.n c.in-Ok-sample_from.value lt in
    let goes = samples_go_on c.args.half (coded_residual c.args.parameter) (g.P.Predictor.next c.args.predictor.now) (take c.loop-n.n row_now) c.args.to c.loop-n.n c.near_samples.new.reader _ c.predict-prediction.result c.in-Ok-sample_from.value _ c.loop-n-test.true c.predict-prediction.ensures.value gives (goes_on ∙ reads) in
    simp to_z-of_z (record {
      onward = omega arith;
      within = omega arith;
      small = small_written c.args.half row_now c.loop-n.n c.in-Ok-sample_from.value lt small value;
      reads = rw row goes;
    })

pub returns-clause-gives : goal.returns-clause-gives
returns-clause-gives g c =
    let fh : FitsSigned w64 c.args.half = search rules in
    let reads = simp to_z-of_z at c.loop-n.invariant.reads in
    let e : c.loop-n.n ≡ c.args.to = omega arith in
    samples_done c.args.half (coded_residual c.args.parameter) (g.P.Predictor.next c.args.predictor.now) (take c.loop-n.n c.loop-n.row) c.args.to c.loop-n.n c.loop-n.reader _ c.loop-n-test.false reads ∙ ap (λ (k : ℕ). Ok (take k c.loop-n.row, c.loop-n.reader)) e
