use Rattle.std.proofs.Common.{◌≡◌, ◌++◌, take}
use Rattle.spec_syntax.specs.Payload.{canon}
use Rattle.spec_syntax.specs.Repetition.{joined}
use Rattle.spec_blocks.specs.BlockFieldLists.{recon_fields}
use Rattle.obu_data.specs.BlockView.{view_recon_part}
use Rattle.obu_data.proofs.recon_part.put_recon_parts.Given as goal

abbrev pub invariant-loop-part : goal.invariant-loop-part
invariant-loop-part l = (l.out.used ≡ 0) × (l.out.bits ≡ l.fn.out.bits ++ canon (joined (λ part. recon_fields (view_recon_part part)) (take l.part-index l.parts)))
