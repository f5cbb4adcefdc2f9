use Rattle.std.proofs.Common.{◌≡◌, ◌-◌, ◌*◌, ◌≤◌, length, drop}
use Rattle.spec_bits.specs.Bits.{all_bits}
use Rattle.flac_bits.specs.Ones.{first_one}
use Rattle.flac_bits.specs.Places.{capped}
use Rattle.flac_bits.specs.Windows.{IsWindow, IsFull, place_of}
use Rattle.flac_bits.proofs.LeadingZeros.{plus}
use Rattle.flac_bits.proofs.window.zeros_from.Given as goal

abbrev pub invariant-loop-ahead : goal.invariant-loop-ahead
invariant-loop-ahead l = record {
  is : IsWindow l.bytes l.ahead;
  full : IsFull l.bytes l.ahead;
  onward : place_of l.fn.window ≤ place_of l.ahead;
  zeros : first_one (drop (place_of l.fn.window) (all_bits l.bytes)) ≡ plus (place_of l.ahead - place_of l.fn.window) (first_one (drop (place_of l.ahead) (all_bits l.bytes)));
  counted : l.passed ≡ capped (place_of l.ahead - place_of l.fn.window);
}

abbrev pub decreases-loop-ahead : goal.decreases-loop-ahead
decreases-loop-ahead l = 8 * length l.bytes - place_of l.ahead
