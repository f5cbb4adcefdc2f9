use Rattle.std.proofs.Common.{◌≡◌, ◌*◌, ◌^◌, ◌≤◌, take, sum}
use Rattle.obu_mix_elements.proofs.mix_gain.total.Given as goal

abbrev pub invariant-loop-duration : goal.invariant-loop-duration
invariant-loop-duration l = (l.total ≡ sum (take l.duration-index l.durations)) × (l.total ≤ 2 ^ 32 * l.duration-index)
