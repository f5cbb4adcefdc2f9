-- What reading an audio element answers.
use Rattle.std.specs.Prelude.{◌≡◌, ℕ, List, [], Result, Ok, Err}
use Rattle.spec_bits.specs.Bits.{all_bits}
use Rattle.spec_bits.specs.Cursor.{Cursor, bits_left, bytes_left}
use Rattle.spec_descriptors.specs.declared.fault.DescriptorFault.{DescriptorFault}
use Rattle.spec_syntax.specs.Reading.{read, start_of}
use Rattle.spec_syntax.specs.Payload.{Payload, Faults}
use Rattle.spec_descriptors.specs.declared.fault.DescriptorFault.TheVariants as fault
use Rattle.spec_descriptors.specs.AudioElement.{AudioElementFields, audio_element}
use Rattle.spec_descriptors.specs.ElementFields.{audio_element_fields}
use Rattle.iamf_bits.specs.declared.unread.Unread.{Unread}
use Rattle.iamf_bits.specs.declared.unread.Unread.TheVariants.{Fault, Memory}
use Rattle.obu_descriptors.specs.declared.audio_element.AudioElement.{AudioElement}
use Rattle.obu_descriptors.specs.ElementView.{view_element}

-- the element and, as its tail, all bytes after it; or the first fault, unless memory ran out
abbrev pub ReadsElement : Result AudioElement (Unread DescriptorFault) → Result (AudioElementFields × Cursor) DescriptorFault → Type 0
ReadsElement (Ok element) answer = (c : Cursor) × (answer ≡ Ok (view_element element, c)) × (bits_left c ≡ all_bits element.tail.now) × (bytes_left c ≡ element.tail.now)
ReadsElement (Err (Fault f)) answer = answer ≡ Err f
ReadsElement (Err (Memory e)) answer = Unit {0}

-- The bytes are the fields that the element stands for and then its tail, or they have the fault, unless memory ran out.
abbrev pub AnswersElement : ℕ → Result AudioElement (Unread DescriptorFault) → List ℕ → Type 0
AnswersElement frame_length (Ok element) payload =
    Payload (audio_element frame_length) (audio_element_fields (view_element element)) (view_element element) (all_bits element.tail.now) (all_bits payload)
AnswersElement frame_length (Err (Fault f)) payload = Faults (λ e. fault.Field e) (audio_element frame_length) [] f (all_bits payload)
AnswersElement frame_length (Err (Memory e)) payload = Unit {0}

-- The bytes read as this element, and what is left is its tail.
abbrev pub ReadsAs : ℕ → AudioElement → List ℕ → Type 0
ReadsAs frame_length element payload =
    (c : Cursor) × (read (λ e. fault.Field e) (audio_element frame_length) (start_of payload) ≡ Ok (view_element element, c)) × (bits_left c ≡ all_bits element.tail.now)
