-- What goes into the file of the OBUs that were read.
use Rattle.std.specs.Prelude.{◌≡◌, ◌≤◌, ◌^◌, ℕ, List, [], length, take}
use Rattle.spec_sequence.specs.Reading.{Entry}
use Rattle.spec_bodies.specs.Spelled.{Spelled, entries_of, bytes_of, AdmittedAfter}
use Rattle.iamf_mux.specs.declared.gathered.Gathered.{Gathered}
use Rattle.iamf_mux.specs.declared.draft.Draft.{Draft}
use Rattle.iamf_mux.specs.Gathering.{slices_of, IsGathered, AreSliced}
use Rattle.iamf_mux.specs.NumbersView.{AreNumbers, AreFew}

-- Up to the place the bytes are these OBUs, each admitted after those before it, and what is gathered is their body.
pub record IsGatheredUpTo (g : Gathered) (bytes : List ℕ) (at : ℕ) (l : List Entry) : Type 0 where
  pub same : g.bytes.now ≡ bytes
  pub obus : List Spelled
  pub entries_are : entries_of obus ≡ l
  pub bytes_are : bytes_of obus ≡ take at bytes
  pub admitted : AdmittedAfter [] obus
  pub gathered : IsGathered (slices_of g) obus
  pub sliced : AreSliced g at

pub record IsDraft (d : Draft) (bytes : List ℕ) (at : ℕ) (l : List Entry) : Type 0 where
  pub short : length bytes ≤ 2 ^ 30
  pub gathered : IsGatheredUpTo d.gathered bytes at l
  pub numbers : AreNumbers d.numbers l
  pub few : AreFew d.numbers at
