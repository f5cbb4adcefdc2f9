use Rattle.iamf_bits.proofs.TextLoop.{IsSearched}
use Rattle.iamf_bits.proofs.front.text.Given as goal

abbrev pub invariant-loop-i : goal.invariant-loop-i
invariant-loop-i l = IsSearched l.bytes l.i
