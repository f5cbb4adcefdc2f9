use Rattle.std.proofs.Common.{◌≡◌, ◌++◌, take}
use Rattle.std.specs.List.{flat_map}
use Rattle.iamf_report.specs.LinesView.{view_mix}
use Rattle.iamf_report.specs.Text.{mix_texts}
use Rattle.iamf_report.proofs.print.push_mixes.Given as goal

abbrev pub invariant-loop-mix : goal.invariant-loop-mix
invariant-loop-mix l = l.text.items ≡ l.fn.text.items ++ flat_map (λ m. mix_texts (view_mix m)) (take l.mix-index l.mixes)
