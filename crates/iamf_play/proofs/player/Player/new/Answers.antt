use Rattle.std.proofs.Common.{arith}
use Rattle.iamf_play.proofs.player.Player.new.Goals as goal

pub invariant_of-result : goal.invariant_of-result
invariant_of-result c =
    let one = c.one_rendition.ensures in
    record { heard = one.0; selected = one.1; reserved = c.in_ok-reserved.ensures one.0 one.1; last = λ u e. absurd (omega arith) }
