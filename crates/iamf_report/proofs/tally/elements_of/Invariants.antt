use Rattle.std.proofs.Common.{◌≡◌, ◌*◌, ◌^◌, ◌≤◌, map, sum, length, take}
use Rattle.iamf_report.proofs.tally.elements_of.Given as goal

abbrev pub invariant-loop-sub_mix : goal.invariant-loop-sub_mix
invariant-loop-sub_mix l = (l.count ≡ sum (map (λ s. length s.elements.items) (take l.sub_mix-index l.sub_mixes))) × (l.count ≤ 2 ^ 32 * l.sub_mix-index)
