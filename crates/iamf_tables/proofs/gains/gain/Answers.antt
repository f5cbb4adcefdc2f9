use Rattle.std.proofs.Common.{◌≡◌, ◌≤◌, pos, FitsSigned}
use Rattle.std.specs.Int.{w16}
use Rattle.std.proofs.lemmas.Int.{to_z-of_z}
use Rattle.spec_gains.specs.Gains.{gain_of}
use Rattle.spec_gains.proofs.GainLemmas.{gain_most}
use Rattle.iamf_tables.proofs.gains.gain.Goals as goal

pub returns-clause-most : goal.returns-clause-most
returns-clause-most c =
    let g : FitsSigned w16 c.args.g = c.ranges.g in
    let e = simp to_z-of_z at c.table_gain.ensures in
    λ h. rw e (gain_most c.args.g h)
