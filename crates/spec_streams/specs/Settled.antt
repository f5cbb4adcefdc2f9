-- Refusals that stay, however the bytes go on.
use Rattle.std.specs.Prelude.{◌≡◌, ℕ, ◌+◌, ◌<◌, List, length, drop}
use Rattle.spec_obu.specs.declared.HeaderFault.TheVariants.{Cut}
use Rattle.spec_values.specs.declared.fault.Fault.{Fault}
use Rattle.spec_values.specs.declared.fault.Fault.TheVariants.{Header}
use Rattle.spec_sequence.specs.Reading.{Refuses}
use Rattle.spec_streams.specs.Front.{HasWholeSize}

-- The bytes are refused for an OBU that begins in them, whose `obu_size` is whole, and for more than that they end.
pub record Settled (bytes : List ℕ) (at : ℕ) (f : Fault) : Type 0 where
  pub refused : Refuses bytes at f
  pub within : at < length bytes
  pub uncut : f ≡ Header Cut → ⊥
  pub sized : HasWholeSize (drop (at + 1) bytes)
