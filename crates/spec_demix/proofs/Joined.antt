use Rattle.std.proofs.Common.{arith, ℕ, ℤ, pos, ◌*ℤ◌, ◌*◌}
use Rattle.std.proofs.lemmas.Int.{ints}
use Rattle.spec_demix.proofs.FloorLemmas.{passes, factors_swapped}
use Rattle.spec_demix.proofs.Joins.{IsJoined, IsTopJoined}
use Rattle.spec_demix.specs.Downmix.{Half, side_down, tops_down}
use Rattle.spec_demix.specs.declared.Kind.{Kind}
use Rattle.spec_gains.proofs.ModeLemmas.{Row, Zero, One, Two, of}

-- the downmixes of any channels are joined
pub side_down_joined : (kind : ℕ) (mode : Row) (center : ℤ) (h : Half) → IsJoined kind mode (pos 10000000000 *ℤ center) (side_down kind (of mode) center h)
side_down_joined kind Zero center h = record {
  two = λ k. rw (passes 3 kind k) (omega (arith, ints));
  three = λ k. rw (passes 5 kind k) (omega (arith, ints));
  surround = λ k. rw (passes 7 kind k) (omega (arith, ints));
}
side_down_joined kind One center h = record {
  two = λ k. rw (passes 3 kind k) (omega (arith, ints));
  three = λ k. rw (passes 5 kind k) (omega (arith, ints));
  surround = λ k. rw (passes 7 kind k) (omega (arith, ints));
}
side_down_joined kind Two center h = record {
  two = λ k. rw (passes 3 kind k) (omega (arith, ints));
  three = λ k. rw (passes 5 kind k) (omega (arith, ints));
  surround = λ k. rw (passes 7 kind k) (omega (arith, ints));
}

pub tops_down_joined : (kind : Kind) (mode : Row) (w : ℕ) (back top top_back : ℤ) → IsTopJoined kind mode w (pos 10000000 *ℤ back) (tops_down kind (of mode) w back top top_back)
tops_down_joined kind Zero w back top top_back = record {
  three = λ l. let f = factors_swapped (w * 707) 10000000 back in rw (passes 5 kind.surround l) (omega (arith, ints));
  two = λ l. rw (passes 4 kind.height l) (omega (arith, ints));
}
tops_down_joined kind One w back top top_back = record {
  three = λ l. let f = factors_swapped (w * 707) 10000000 back in rw (passes 5 kind.surround l) (omega (arith, ints));
  two = λ l. rw (passes 4 kind.height l) (omega (arith, ints));
}
tops_down_joined kind Two w back top top_back = record {
  three = λ l. let f = factors_swapped (w * 866) 10000000 back in rw (passes 5 kind.surround l) (omega (arith, ints));
  two = λ l. rw (passes 4 kind.height l) (omega (arith, ints));
}
