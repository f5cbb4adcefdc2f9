use Rattle.std.proofs.Common.{◌≡◌, ◌-◌, ◌%◌}
use Rattle.spec_syntax.specs.Syntax.{in_turn}
use Rattle.spec_syntax.specs.Reading.{read}
use Rattle.spec_flac.specs.Faults.{short}
use Rattle.spec_flac.specs.Header.{further, further_byte}
use Rattle.flac_header.proofs.number.further_from.Given as goal

abbrev pub invariant-loop-i : goal.invariant-loop-i
invariant-loop-i l = record {
  whole : l.reader.place % 8 ≡ l.fn.reader.place % 8;
  reads : read short (in_turn (l.count - l.i) (λ _ _. further_byte) tt) l.reader ≡ read short (further l.count) l.fn.reader;
}
