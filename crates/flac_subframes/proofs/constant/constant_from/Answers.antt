use Rattle.std.proofs.Common.{length, rules, FitsSigned, w64, to_z-of_z, sym, subst}
use Rattle.spec_flac.specs.Subframe.{half_of}
use Rattle.flac_subframes.specs.Rows.{AreWithin}
use Rattle.flac_subframes.proofs.PredictedSubframes.{within_half, copies_within}
use Rattle.flac_subframes.proofs.constant.constant_from.Goals as goal

pub returns-in-Ok-clause-small : goal.returns-in-Ok-clause-small
returns-in-Ok-clause-small c =
    let f : FitsSigned w64 c.in-Ok.value = search rules in
    let e = simp to_z-of_z at c.fill.ensures in
    subst (AreWithin (half_of c.args.depth)) (sym e) (copies_within (half_of c.args.depth) c.in-Ok.value (length c.args.row.now) (within_half c.in-Ok.value c.args.depth c.requires.low c.in-Ok.ensures.small))
