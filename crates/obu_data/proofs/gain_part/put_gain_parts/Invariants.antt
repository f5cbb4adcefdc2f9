use Rattle.std.proofs.Common.{◌≡◌, ◌++◌, take}
use Rattle.spec_syntax.specs.Payload.{canon}
use Rattle.spec_syntax.specs.Repetition.{joined}
use Rattle.spec_blocks.specs.BlockFieldLists.{gain_fields}
use Rattle.obu_data.specs.BlockView.{view_gain_part}
use Rattle.obu_data.proofs.gain_part.put_gain_parts.Given as goal

abbrev pub invariant-loop-part : goal.invariant-loop-part
invariant-loop-part l = (l.out.used ≡ 0) × (l.out.bits ≡ l.fn.out.bits ++ canon (joined (λ part. gain_fields (view_gain_part part)) (take l.part-index l.parts)))
