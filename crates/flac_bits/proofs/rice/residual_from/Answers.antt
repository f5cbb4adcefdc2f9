use Rattle.std.proofs.Common.{◌+◌, ◌≡◌, arith, rules, FitsSigned, w64, to_z-of_z, ◌∙◌, ap, ℕ, refl}
use Rattle.flac_bits.specs.Windows.{place_of}
use Rattle.flac_bits.proofs.RiceCodes.{code_in, code_some, code_none, capped_small}
use Rattle.flac_bits.proofs.rice.residual_from.Goals as goal

pub returns-in-Some-clause-gives : goal.returns-in-Some-clause-gives
returns-in-Some-clause-gives c =
    let bytes = c.args.bytes.now in
    let ahead = c.looked_ahead-ahead in
    let z = ahead.result.zeros in
    let rest = c.after_one-rest in
    let is = rest.ensures.is.is bytes ahead.ensures.is in
    let at : place_of rest.result ≡ place_of c.args.window + (z + 1) = rest.ensures.is.place bytes ahead.ensures.is ∙ ap (λ (n : ℕ). n + (z + 1)) ahead.ensures.place in
    let f : FitsSigned w64 c.in-Some.value = search rules in
    rw (to_z-of_z f)
    (code_some c.args.parameter bytes (place_of c.args.window) z c.top.result (place_of c.after.result) c.in-Some.value
    (code_in bytes (place_of c.args.window) z c.args.parameter c.top.result (place_of c.after.result) rest.result (ahead.ensures.first (omega arith)) is at (omega arith) (c.top.ensures.is rest.result.count _ is.top (omega arith)) (c.after.ensures.is.place bytes is))
    (c.in-Some.ensures z (c.from.ensures ∙ capped_small z (omega arith))))

pub returns-in-None-clause-gives : goal.returns-in-None-clause-gives
returns-in-None-clause-gives c =
    let bytes = c.args.bytes.now in
    let ahead = c.looked_ahead-ahead in
    let z = ahead.result.zeros in
    let rest = c.after_one-rest in
    let is = rest.ensures.is.is bytes ahead.ensures.is in
    let at : place_of rest.result ≡ place_of c.args.window + (z + 1) = rest.ensures.is.place bytes ahead.ensures.is ∙ ap (λ (n : ℕ). n + (z + 1)) ahead.ensures.place in
    code_none c.args.parameter bytes (place_of c.args.window) z c.top.result (place_of rest.result + c.args.parameter)
    (code_in bytes (place_of c.args.window) z c.args.parameter c.top.result (place_of rest.result + c.args.parameter) rest.result (ahead.ensures.first (omega arith)) is at (omega arith) (c.top.ensures.is rest.result.count _ is.top (omega arith)) refl)
    (c.in-None.ensures z (c.from.ensures ∙ capped_small z (omega arith)))

pub returns-in-Some-clause-small : goal.returns-in-Some-clause-small
returns-in-Some-clause-small c =
    let f : FitsSigned w64 c.in-Some.value = search rules in
    let z = c.looked_ahead-ahead.result.zeros in
    rw (to_z-of_z f) (c.in-Some.ensures z (c.from.ensures ∙ capped_small z (omega arith))).2
