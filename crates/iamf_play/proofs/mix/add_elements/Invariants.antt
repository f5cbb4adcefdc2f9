use Rattle.std.proofs.Common.{◌≡◌, ℕ, ◌<◌, ◌≤◌, ◌*◌, ◌^◌, true, get_or, pos, length, take, unsigned_abs}
use Rattle.spec_play.specs.Mixes.{Rendition, unit_length}
use Rattle.spec_play.specs.FixedMix.{fixed_sum}
use Rattle.iamf_sequence.specs.SequenceValue.{SequenceValue}
use Rattle.iamf_mixing.specs.Sums.{base}
use Rattle.iamf_play.specs.Mixing.{place, IsAt}
use Rattle.iamf_play.proofs.mix.add_elements.Given as goal

abbrev pub invariant-loop-element : goal.invariant-loop-element
invariant-loop-element l = record {
  same : l.elements ≡ l.initial.elements;
  first : l.fresh ≡ true → l.element-index ≡ 0;
  value : (s : SequenceValue) (r : Rendition) (u : ℕ) → IsAt s r u (length l.initial.sums) l.initial.elements → l.n < unit_length r → (c : ℕ) → c < length l.sums → base l.fresh (get_or l.sums c (pos 0)) ≡ fixed_sum r (place u l.n c) (take l.element-index r.elements);
  low : (c : ℕ) → c < length l.sums → unsigned_abs (base l.fresh (get_or l.sums c (pos 0))) ≤ l.element-index * 2 ^ 73;
}
