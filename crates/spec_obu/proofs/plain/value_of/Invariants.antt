use Rattle.std.proofs.Common.{◌≡◌}
use Rattle.spec_obu.proofs.PlainLaws.{last_value}
use Rattle.spec_obu.proofs.plain.value_of.Given as goal

abbrev pub invariant-loop-i : goal.invariant-loop-i
invariant-loop-i l = l.value ≡ last_value l.bytes l.i
