use Rattle.std.proofs.Common.{take}
use Rattle.spec_bits.specs.Leb.{AllGoOn}
use Rattle.spec_obu.proofs.plain.size_field.Given as goal

abbrev pub invariant-loop-i : goal.invariant-loop-i
invariant-loop-i l = AllGoOn (take l.i l.bytes)
