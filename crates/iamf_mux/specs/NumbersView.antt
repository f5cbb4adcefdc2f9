-- What the OBUs that were read tell of the samples.
use Rattle.std.specs.Prelude.{◌≡◌, ◌*◌, ◌≤◌, ◌^◌, ℕ, List, length, sum}
use Rattle.spec_rules.specs.Descriptors.{codecs}
use Rattle.spec_sequence.specs.Parts.{UnitValue, temporal_units}
use Rattle.spec_sequence.specs.Reading.{Entry, values_of, roles}
use Rattle.spec_bodies.specs.SequenceFile.{starts}
use Rattle.iamf_sequence.specs.ContentsView.{HasNoLater}
use Rattle.iamf_mux.specs.declared.numbers.Starts.{Starts}
use Rattle.iamf_mux.specs.declared.numbers.Numbers.{Numbers}
use Rattle.iamf_mux.specs.Rates.{first_rate}
use Rattle.iamf_mux.specs.Trims.{is_last_framed}

-- of these units
pub record AreStarts (t : Starts) (us : List UnitValue) : Type 0 where
  pub units : t.units ≡ length us
  pub trimmed : t.trimmed ≡ sum (starts us)
  pub framed : t.framed ≡ is_last_framed us

-- of these OBUs
pub record AreNumbers (n : Numbers) (l : List Entry) : Type 0 where
  pub rate : n.sample_rate ≡ first_rate (codecs (roles l))
  pub starts_are : AreStarts n.starts (temporal_units (values_of l))
  pub later : HasNoLater (values_of l)

-- no more than so many OBUs tell
abbrev pub AreFew : Numbers → ℕ → Type 0
AreFew n count = (n.starts.units ≤ count) × (n.starts.trimmed ≤ count * 2 ^ 32)
