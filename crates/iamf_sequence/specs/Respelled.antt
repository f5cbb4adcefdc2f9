-- The canonical spellings of the OBUs that were read.
use Rattle.std.specs.Prelude.{◌≡◌, ◌≤◌, ℕ, List, ◌++◌, length, slice_range}
use Rattle.spec_values.specs.Canonical.{encoded}
use Rattle.spec_sequence.specs.Reading.{Entry, values_of}
use Rattle.iamf_sequence.specs.PartBytes.{bytes_of}
use Rattle.iamf_sequence.specs.declared.respelling.Respelling.{Respelling}

-- Up to the place in the bytes these OBUs were read. The parts, and then what is kept after them, are their canonical
-- spellings one after the other, and nothing else.
pub record IsRespelled (r : Respelling) (bytes : List ℕ) (at : ℕ) (l : List Entry) : Type 0 where
  pub same : r.buffer.now ≡ bytes
  pub place : r.end ≡ at
  pub onward : r.start ≤ at
  pub within : at ≤ length bytes
  pub spelled : bytes_of r.parts.items ++ slice_range bytes r.start at ≡ encoded (values_of l)
