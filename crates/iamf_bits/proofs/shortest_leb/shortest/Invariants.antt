use Rattle.iamf_bits.proofs.Puts.{IsHalfPut}
use Rattle.iamf_bits.proofs.shortest_leb.shortest.Given as goal

abbrev pub invariant-loop-rest : goal.invariant-loop-rest
invariant-loop-rest l = IsHalfPut l.bytes l.count l.rest l.fn.value

abbrev pub decreases-loop-rest : goal.decreases-loop-rest
decreases-loop-rest l = l.rest
