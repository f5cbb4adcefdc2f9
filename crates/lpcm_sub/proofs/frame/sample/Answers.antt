use Rattle.std.proofs.Common.{◌≡◌, rules, FitsSigned, w32}
use Rattle.lpcm_sub.proofs.Places.{number_is_sample}
use Rattle.lpcm_sub.proofs.frame.sample.Goals as goal

pub returns-in-16 : goal.returns-in-16
returns-in-16 c =
    let fits : FitsSigned w32 c.number_16.result = search rules in
    number_is_sample _ _ _ _ _ _ 16 _ _ c.in-16.is c.from-size.ensures fits c.number_16.ensures

pub returns-in-24 : goal.returns-in-24
returns-in-24 c =
    let fits : FitsSigned w32 c.number_24.result = search rules in
    number_is_sample _ _ _ _ _ _ 24 _ _ c.in-24.is c.from-size.ensures fits c.number_24.ensures

pub returns-in_default : goal.returns-in_default
returns-in_default c =
    let fits : FitsSigned w32 c.number_32.result = search rules in
    let whole : c.args.depth ≡ 32 = search rules in
    number_is_sample _ _ _ _ _ _ 32 _ _ whole c.from-size.ensures fits c.number_32.ensures
