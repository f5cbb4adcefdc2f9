use Rattle.std.proofs.Common.{◌≡◌, ◌++◌, take}
use Rattle.std.specs.List.{flat_map}
use Rattle.spec_files.specs.Pieces.{word}
use Rattle.mp4_file.proofs.sample_tables.put_lengths.Given as goal

abbrev pub invariant-loop-length : goal.invariant-loop-length
invariant-loop-length l = l.out.items ≡ l.fn.out.items ++ flat_map word (take l.length-index l.lengths)
