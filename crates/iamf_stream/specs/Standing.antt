-- What is kept of a stream of which nothing is refused so far.
use Rattle.std.specs.Prelude.{◌≡◌, ℕ, ◌^◌, ◌≤◌, List, ◌++◌, length}
use Rattle.spec_sequence.specs.Reading.{Entry, Admitted}
use Rattle.iamf_admission.specs.AdmissionView.{AdmissionValue}
use Rattle.iamf_admission.specs.AdmissionView.{Stands as AdmissionStands}
use Rattle.iamf_stream.specs.declared.open.Open.{Open}
use Rattle.iamf_stream.specs.Waiting.{IsWaiting}

-- The stream is OBUs, of so many bytes in all, which the admission admitted, and then the rest.
pub record Passed (admission : AdmissionValue) (place : ℕ) (rest stream : List ℕ) : Type 0 where
  pub good : List ℕ
  pub entries : List Entry
  pub splits : stream ≡ good ++ rest
  pub place_is : place ≡ length good
  pub admitted : Admitted good entries
  pub stands : AdmissionStands admission entries

-- The stream is OBUs that were admitted, and then the bytes that wait, which are part of one.
pub record Stands (o : Open) (stream : List ℕ) : Type 0 where
  pub passed : Passed o.admission o.passed o.waiting.items stream
  pub waits : IsWaiting o.waiting.items o.wanted

-- ---- the most that a stream has

-- there is a stream that is so passed, of at most 2 ^ 40 bytes
abbrev pub HasRoom : AdmissionValue → ℕ → List ℕ → Type 0
HasRoom admission place rest = (stream : List ℕ) × Passed admission place rest stream × (length stream ≤ 2 ^ 40)

-- there is one that with the piece has at most 2 ^ 40 bytes
abbrev pub HasRoomFor : Open → List ℕ → Type 0
HasRoomFor o piece = (stream : List ℕ) × Stands o stream × (length (stream ++ piece) ≤ 2 ^ 40)
