use Rattle.std.proofs.Common.{◌≡◌, ◌<◌, ◌+ℤ◌, length, take, ap, arith, rules, FitsSigned, w64, to_z-of_z, Some, None}
use Rattle.spec_flac.specs.Residual.{coded_residual}
use Rattle.flac_subframes.specs.Rows.{sample_or}
use Rattle.flac_subframes.proofs.Samples.{sample_ok, sample_out}
use Rattle.flac_subframes.proofs.WrittenRows.{take_written, small_written, samples_go_on, samples_fail}
use Rattle.flac_subframes.proofs.row.near_samples.Goals as goal

pub returns-in-None-summed-clause-goes_on : goal.returns-in-None-summed-clause-goes_on
returns-in-None-summed-clause-goes_on g c =
    let fh : FitsSigned w64 c.args.half = search rules in
    let before : c.loop-n.n < c.args.to = omega arith in
    let reads = simp to_z-of_z at c.loop-n.invariant.reads in
    let fp : FitsSigned w64 c.predict-prediction.result = search rules in
    let fr : FitsSigned w64 c.in-Some-take_residual.residual = search rules in
    let gives = c.in-Some-take_residual.ensures.some in
    let is : None ≡ sample_or c.args.half (c.predict-prediction.result +ℤ c.in-Some-take_residual.residual) = simp to_z-of_z at c.in-None-summed.ensures.is in
    let code = coded_residual c.args.parameter in
    let out = sample_out c.args.half c.predict-prediction.result c.in-Some-take_residual.residual code c.loop-n.near _ gives is in
    samples_fail c.args.half code (g.P.Predictor.next c.args.predictor.now) (take c.loop-n.n c.loop-n.row) c.args.to c.loop-n.n c.loop-n.near c.predict-prediction.result _ _ before c.predict-prediction.ensures.value out reads

pub loop-n-preserved : goal.loop-n-preserved
loop-n-preserved g c =
    let fh : FitsSigned w64 c.args.half = search rules in
    let before : c.loop-n.n < c.args.to = omega arith in
    let reads = simp to_z-of_z at c.loop-n.invariant.reads in
    let small = simp to_z-of_z at c.loop-n.invariant.small in
    let fp : FitsSigned w64 c.predict-prediction.result = search rules in
    let fr : FitsSigned w64 c.in-Some-take_residual.residual = search rules in
    let fz : FitsSigned w64 c.in-Some-summed.value = search rules in
    let gives = c.in-Some-take_residual.ensures.some in
    let is : Some c.in-Some-summed.value ≡ sample_or c.args.half (c.predict-prediction.result +ℤ c.in-Some-take_residual.residual) = simp to_z-of_z at c.in-Some-summed.ensures.is in
    let code = coded_residual c.args.parameter in
    let one = sample_ok c.args.half c.predict-prediction.result c.in-Some-take_residual.residual c.in-Some-summed.value code c.loop-n.near _ gives is in
    let lt : c.loop-n.n < length c.loop-n.row = omega arith in
    let row = take_written c.loop-n.row c.loop-n.n c.in-Some-summed.value lt in
    let value = simp to_z-of_z at c.in-Some-summed.ensures.small in
    let goes = samples_go_on c.args.half code (g.P.Predictor.next c.args.predictor.now) (take c.loop-n.n c.loop-n.row) c.args.to c.loop-n.n c.loop-n.near _ c.predict-prediction.result c.in-Some-summed.value _ before c.predict-prediction.ensures.value one reads in
    simp to_z-of_z (record {
      onward = omega arith;
      ahead = λ more. omega (arith, c.loop-n.invariant.ahead c.loop-n-test.true, ap length c.in-Some-take_residual.ensures.bytes, c.in-Some-take_residual.ensures.onward);
      within = omega arith;
      small = small_written c.args.half c.loop-n.row c.loop-n.n c.in-Some-summed.value lt small value;
      reads = rw row goes;
    })
