use Rattle.iamf_bits.proofs.LebLoop.{IsHalfRead}
use Rattle.iamf_bits.proofs.front.leb.Given as goal

abbrev pub invariant-loop-i : goal.invariant-loop-i
invariant-loop-i l = IsHalfRead l.bytes l.value l.scale l.i
