use Rattle.std.proofs.Common.{rules, FitsSigned, w64, to_z-of_z, arith}
use Rattle.flac_bits.proofs.RiceCodes.{unfolded_some, unfolded_none}
use Rattle.flac_bits.proofs.rice.residual_of.Goals as goal

pub returns-then-folded-lt-FOLDED_END : goal.returns-then-folded-lt-FOLDED_END
returns-then-folded-lt-FOLDED_END c =
    let f : FitsSigned w64 c.unfold.result = search rules in
    λ h cap. rw (to_z-of_z f) (unfolded_some c.args.parameter h c.args.high c.args.low c.joined-folded.result c.unfold.result cap c.joined-folded.ensures (omega arith) c.unfold.ensures)

pub returns-else-folded-lt-FOLDED_END : goal.returns-else-folded-lt-FOLDED_END
returns-else-folded-lt-FOLDED_END c = λ h cap. unfolded_none c.args.parameter h c.args.high c.args.low c.joined-folded.result cap c.joined-folded.ensures (omega arith)
