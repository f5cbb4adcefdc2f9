-- What a reader of a payload answers: in the words of payloads, and as the reading function gives it.
use Rattle.std.specs.Prelude.{◌≡◌, ℕ, List, [], Result, Ok, Err}
use Rattle.spec_bits.specs.declared.FieldFault.{FieldFault}
use Rattle.spec_bits.specs.Bits.{all_bits}
use Rattle.spec_bits.specs.Cursor.{Cursor, bits_left}
use Rattle.spec_syntax.specs.Syntax.{Syntax}
use Rattle.spec_syntax.specs.Payload.{FieldValue, Payload, Faults}

-- The bytes are the fields that the record stands for and then its tail, or they have the fault.
abbrev pub AnswersPayload : {V W F : Type 0} → (FieldFault → F) → Syntax F W → (W → List FieldValue) → (V → W) → (V → List ℕ) → Result V F → List ℕ → Type 0
AnswersPayload wrap s fields view tail (Ok v) payload = Payload s (fields (view v)) (view v) (all_bits (tail v)) (all_bits payload)
AnswersPayload wrap s fields view tail (Err f) payload = Faults wrap s [] f (all_bits payload)

-- The answer is that of reading, and the tail is what reading leaves.
abbrev pub GivesPayload : {V W F : Type 0} → (V → W) → (V → List ℕ) → Result V F → Result (W × Cursor) F → Type 0
GivesPayload view tail (Ok v) read = (end : Cursor) × (read ≡ Ok (view v, end)) × (bits_left end ≡ all_bits (tail v))
GivesPayload view tail (Err f) read = read ≡ Err f

-- The same of a record that stands for an entry by a relation.

abbrev pub AnswersEntry : {V W F : Type 0} → (FieldFault → F) → Syntax F W → (W → List FieldValue) → (V → W → Type 0) → (V → List ℕ) → Result V F → List ℕ → Type 0
AnswersEntry {V} {W} wrap s fields StandsFor tail (Ok v) payload = (w : W) × StandsFor v w × Payload s (fields w) w (all_bits (tail v)) (all_bits payload)
AnswersEntry wrap s fields StandsFor tail (Err f) payload = Faults wrap s [] f (all_bits payload)

abbrev pub GivesEntry : {V W F : Type 0} → (V → W → Type 0) → (V → List ℕ) → Result V F → Result (W × Cursor) F → Type 0
GivesEntry {V} {W} StandsFor tail (Ok v) read = (w : W) × (end : Cursor) × StandsFor v w × (read ≡ Ok (w, end)) × (bits_left end ≡ all_bits (tail v))
GivesEntry StandsFor tail (Err f) read = read ≡ Err f

-- A reader of a part answers what reading gives, and goes to the place after it.
abbrev pub GivesPart : {V W F : Type 0} → (V → W → Type 0) → Result V F → Cursor → Result (W × Cursor) F → Type 0
GivesPart {V} {W} StandsFor (Ok v) new read = (w : W) × StandsFor v w × (read ≡ Ok (w, new))
GivesPart StandsFor (Err f) new read = read ≡ Err f
