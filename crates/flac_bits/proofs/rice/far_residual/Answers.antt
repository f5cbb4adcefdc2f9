use Rattle.std.proofs.Common.{◌+◌, ◌≡◌, arith, rules, FitsSigned, w64, to_z-of_z, inl, inr, refl}
use Rattle.flac_bits.specs.Windows.{place_of}
use Rattle.flac_bits.proofs.RiceCodes.{code_in, code_some, code_none, cut_in, coded_no_one}
use Rattle.flac_bits.proofs.rice.far_residual.Goals as goal

pub returns-in-None-clause-gives : goal.returns-in-None-clause-gives
returns-in-None-clause-gives c = coded_no_one c.args.parameter c.args.bytes.now (place_of c.args.window) c.in-None.ensures

pub returns-then-rest-parameter-clause-gives : goal.returns-then-rest-parameter-clause-gives
returns-then-rest-parameter-clause-gives c =
    let z = c.in-Some.ensures in
    let rest = c.filled-rest in
    cut_in c.args.bytes.now (place_of c.args.window) z.0 c.args.parameter rest.result z.1 rest.ensures.is (omega (arith, rest.ensures.place, z.3))
    (elim rest.ensures.full [ inl many ↦ absurd (omega arith) | inr all ↦ all ]) c.if-rest-parameter.true

pub returns-in-Some-residual_of-clause-gives : goal.returns-in-Some-residual_of-clause-gives
returns-in-Some-residual_of-clause-gives c =
    let bytes = c.args.bytes.now in
    let z = c.in-Some.ensures in
    let rest = c.filled-rest in
    let at : place_of rest.result ≡ place_of c.args.window + (z.0 + 1) = omega (arith, rest.ensures.place, z.3) in
    let f : FitsSigned w64 c.in-Some-residual_of.value = search rules in
    rw (to_z-of_z f)
    (code_some c.args.parameter bytes (place_of c.args.window) z.0 c.top.result (place_of c.after.result) c.in-Some-residual_of.value
    (code_in bytes (place_of c.args.window) z.0 c.args.parameter c.top.result (place_of c.after.result) rest.result z.1 rest.ensures.is at (omega arith) (c.top.ensures.is rest.result.count _ rest.ensures.is.top (omega arith)) (c.after.ensures.is.place bytes rest.ensures.is))
    (c.in-Some-residual_of.ensures z.0 z.2))

pub returns-in-None-residual_of-clause-gives : goal.returns-in-None-residual_of-clause-gives
returns-in-None-residual_of-clause-gives c =
    let bytes = c.args.bytes.now in
    let z = c.in-Some.ensures in
    let rest = c.filled-rest in
    let at : place_of rest.result ≡ place_of c.args.window + (z.0 + 1) = omega (arith, rest.ensures.place, z.3) in
    code_none c.args.parameter bytes (place_of c.args.window) z.0 c.top.result (place_of rest.result + c.args.parameter)
    (code_in bytes (place_of c.args.window) z.0 c.args.parameter c.top.result (place_of rest.result + c.args.parameter) rest.result z.1 rest.ensures.is at (omega arith) (c.top.ensures.is rest.result.count _ rest.ensures.is.top (omega arith)) refl)
    (c.in-None-residual_of.ensures z.0 z.2)
