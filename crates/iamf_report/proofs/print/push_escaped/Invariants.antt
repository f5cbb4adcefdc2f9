use Rattle.std.proofs.Common.{◌≡◌, ◌++◌, ◌∷◌, [], take}
use Rattle.std.specs.List.{flat_map}
use Rattle.spec_report.specs.Report.{escaped}
use Rattle.iamf_report.proofs.print.push_escaped.Given as goal

abbrev pub invariant-loop-byte : goal.invariant-loop-byte
invariant-loop-byte l = l.text.items ≡ (l.fn.text.items ++ 32 ∷ []) ++ flat_map escaped (take l.byte-index l.bytes)
