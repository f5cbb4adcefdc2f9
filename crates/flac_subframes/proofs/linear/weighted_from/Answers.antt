use Rattle.std.proofs.Common.{◌≡◌, take, length, arith, rules, FitsSigned, w64, to_z-of_z}
use Rattle.std.proofs.lemmas.List.{take_all}
use Rattle.spec_syntax.proofs.Reading.{answers_same}
use Rattle.flac_subframes.proofs.PredictedSubframes.{weighted_then, weighted_fails, coefficients_small}
use Rattle.flac_subframes.proofs.linear.weighted_from.Goals as goal

pub returns-in-Err-clause-gives : goal.returns-in-Err-clause-gives
returns-in-Err-clause-gives g c = weighted_fails g.row.N c.args.depth (record { precision = c.args.precision; shift = c.args.shift }) (length c.args.row.now) (take g.row.N c.args.row.now) c.args.reader.now c.in-Err.fault c.in-Err.ensures.gives

pub invariant_of-linear-clause-small : goal.invariant_of-linear-clause-small
invariant_of-linear-clause-small g c = coefficients_small c.args.precision c.verbatim_from.new.row g.row.N c.requires.precision (omega arith) c.in-Ok.ensures.small

pub returns-clause-gives : goal.returns-clause-gives
returns-clause-gives g c =
    let fh : FitsSigned w64 c.half.result = search rules in
    let gives = simp to_z-of_z at c.residual_from.ensures.gives in
    let all : take g.row.N c.verbatim_from.new.row ≡ c.verbatim_from.new.row = take_all g.row.N c.verbatim_from.new.row (omega arith) in
    answers_same _ _ _ _ (weighted_then g.row.N c.args.depth (record { precision = c.args.precision; shift = c.args.shift }) (length c.args.row.now) c.half.result (take g.row.N c.args.row.now) (take g.row.N c.verbatim_from.new.row) c.verbatim_from.new.row c.args.reader.now c.verbatim_from.new.reader c.half.ensures.is all c.in-Ok.ensures.gives) gives
