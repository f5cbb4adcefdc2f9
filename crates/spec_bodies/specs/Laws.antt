-- What holds of the body of a sequence, of the file that is written of it and of the sequence that is built of it.
use Rattle.std.specs.Prelude.{◌≡◌, ◌≤◌, ◌^◌, ℕ, List, length}
use Rattle.spec_values.specs.Value.{ObuValue}
use Rattle.spec_sequence.specs.Reading.{Reads}
use Rattle.spec_boxes.specs.Laws.{Holds}
use Rattle.spec_files.specs.Body.{rebuilt}
use Rattle.spec_files.specs.MovieFile.{file}
use Rattle.spec_files.specs.Laws.{HoldsOnly}
use Rattle.spec_bodies.specs.Spelled.{Spelled, bytes_of, AreSequence}
use Rattle.spec_bodies.specs.SequenceBody.{descriptors, units, HasSequenceBody}
use Rattle.spec_bodies.specs.SequenceFile.{movie_of, values_of, IsFileOf, IsBareOf}

-- bytes that read are the OBUs of a sequence, and such OBUs read as their values
abbrev pub ReadIsSequence : Type 0
ReadIsSequence = (bytes : List ℕ) (s : List ObuValue) → Reads bytes s → (os : List Spelled) × (bytes ≡ bytes_of os) × AreSequence os × (values_of os ≡ s)

abbrev pub SequenceReads : Type 0
SequenceReads = (os : List Spelled) → AreSequence os → Reads (bytes_of os) (values_of os)

-- bytes are the OBUs of one sequence, and have one body
abbrev pub OneSequence : Type 0
OneSequence = (os ps : List Spelled) → AreSequence os → AreSequence ps → bytes_of os ≡ bytes_of ps → os ≡ ps

abbrev pub OneSequenceBody : Type 0
OneSequenceBody = (bytes d e : List ℕ) (u v : List (List ℕ)) → HasSequenceBody bytes d u → HasSequenceBody bytes e v → (d ≡ e) × (u ≡ v)

-- the file that is written of a sequence holds its body, and nothing else
abbrev pub WrittenHolds : Type 0
WrittenHolds = (os : List Spelled) → AreSequence os → length (bytes_of os) ≤ 2 ^ 30 → Holds (file (movie_of os)) (descriptors os) (units os) × HoldsOnly (movie_of os)

-- what is rebuilt of the body of a sequence is a sequence with this body
abbrev pub RebuiltReads : Type 0
RebuiltReads = (os : List Spelled) → AreSequence os → HasSequenceBody (rebuilt (descriptors os) (units os)) (descriptors os) (units os)

-- a sequence has one file, and a file one bare sequence
abbrev pub OneFile : Type 0
OneFile = (bytes f g : List ℕ) → IsFileOf bytes f → IsFileOf bytes g → f ≡ g

abbrev pub OneBare : Type 0
OneBare = (f b c : List ℕ) → IsBareOf f b → IsBareOf f c → b ≡ c

-- what is read out of the file of a sequence is a sequence with the same body
abbrev pub FileKeepsBody : Type 0
FileKeepsBody = (bytes f : List ℕ) → length bytes ≤ 2 ^ 30 → IsFileOf bytes f → (b : List ℕ) × (d : List ℕ) × (u : List (List ℕ)) × IsBareOf f b × HasSequenceBody bytes d u × HasSequenceBody b d u
