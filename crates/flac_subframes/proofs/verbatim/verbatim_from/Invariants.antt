use Rattle.std.proofs.Common.{◌≡◌, ◌-◌, take, []}
use Rattle.spec_syntax.specs.Syntax.{each, field}
use Rattle.spec_syntax.specs.Reading.{read}
use Rattle.spec_bits.specs.Form.{Signed}
use Rattle.spec_flac.specs.Faults.{short}
use Rattle.spec_flac.specs.Subframe.{verbatim}
use Rattle.flac_subframes.specs.Rows.{AreBelow}
use Rattle.flac_subframes.proofs.verbatim.verbatim_from.Given as goal

abbrev pub invariant-loop-n : goal.invariant-loop-n
invariant-loop-n l = record {
  small : AreBelow l.depth (take l.n l.row);
  reads : read short (each (l.to - l.n) (λ _ _. field (Signed l.depth) []) (take l.n l.row)) l.reader ≡ read short (verbatim l.depth l.to) l.fn.reader;
}
