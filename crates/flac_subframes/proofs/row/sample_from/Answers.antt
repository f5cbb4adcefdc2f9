use Rattle.std.proofs.Common.{◌≡◌, ◌+ℤ◌, rules, FitsSigned, w64, to_z-of_z, Some, None}
use Rattle.flac_subframes.specs.Rows.{sample_or}
use Rattle.flac_subframes.proofs.Samples.{sample_ok, sample_out, sample_err}
use Rattle.flac_subframes.proofs.row.sample_from.Goals as goal

pub returns-in-Err-clause-gives : goal.returns-in-Err-clause-gives
returns-in-Err-clause-gives g c = sample_err c.args.half c.args.prediction (g.C.Code.residual c.args.code.now) c.args.reader.now c.in-Err.fault c.in-Err.ensures.gives

pub returns-in-Some-clause-gives : goal.returns-in-Some-clause-gives
returns-in-Some-clause-gives g c =
    let f : FitsSigned w64 c.args.prediction = search rules in
    let h : FitsSigned w64 c.args.half = search rules in
    let j : FitsSigned w64 c.in-Ok.residual = search rules in
    let i : FitsSigned w64 c.in-Some.value = search rules in
    let is : Some c.in-Some.value ≡ sample_or c.args.half (c.args.prediction +ℤ c.in-Ok.residual) = simp to_z-of_z at c.in-Some.ensures.is in
    simp to_z-of_z (sample_ok c.args.half c.args.prediction c.in-Ok.residual c.in-Some.value (g.C.Code.residual c.args.code.now) c.args.reader.now _ c.in-Ok.ensures.gives is)

pub returns-in-None-clause-gives : goal.returns-in-None-clause-gives
returns-in-None-clause-gives g c =
    let f : FitsSigned w64 c.args.prediction = search rules in
    let h : FitsSigned w64 c.args.half = search rules in
    let j : FitsSigned w64 c.in-Ok.residual = search rules in
    let is : None ≡ sample_or c.args.half (c.args.prediction +ℤ c.in-Ok.residual) = simp to_z-of_z at c.in-None.ensures.is in
    sample_out c.args.half c.args.prediction c.in-Ok.residual (g.C.Code.residual c.args.code.now) c.args.reader.now _ c.in-Ok.ensures.gives is
