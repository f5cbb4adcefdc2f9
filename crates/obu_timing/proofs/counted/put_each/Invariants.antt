use Rattle.std.proofs.Common.{◌≡◌, ◌++◌, take}
use Rattle.spec_syntax.specs.Payload.{canon}
use Rattle.spec_syntax.specs.Repetition.{joined}
use Rattle.spec_descriptors.specs.TimingFields.{leb_fields}
use Rattle.obu_timing.proofs.counted.put_each.Given as goal

abbrev pub invariant-loop-number : goal.invariant-loop-number
invariant-loop-number l = (l.out.used ≡ 0) × (l.out.bits ≡ l.fn.out.bits ++ canon (joined leb_fields (take l.number-index l.numbers)))
