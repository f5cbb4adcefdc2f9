-- What reading an audio element gives, in the words of payloads.
use Rattle.std.proofs.Common.{◌≡◌, ℕ, List, ◌++◌, Result, Ok, Err, subst, sym}
use Rattle.std.specs.Prelude.{IfOk}
use Rattle.spec_bits.specs.Bits.{Bits, all_bits}
use Rattle.spec_syntax.specs.Reading.{read, start_of}
use Rattle.spec_syntax.specs.Payload.{Payload, IsValid, canon}
use Rattle.spec_syntax.proofs.PayloadLaws.{payload_read}
use Rattle.spec_descriptors.specs.declared.fault.DescriptorFault.{DescriptorFault}
use Rattle.spec_descriptors.specs.declared.fault.DescriptorFault.TheVariants as fault
use Rattle.spec_descriptors.specs.AudioElement.{audio_element}
use Rattle.spec_descriptors.specs.ElementFields.{audio_element_fields}
use Rattle.spec_descriptors.proofs.ElementIs.{audio_element_syntax}
use Rattle.iamf_bits.specs.declared.unread.Unread.{Unread}
use Rattle.iamf_bits.specs.declared.unread.Unread.TheVariants.{Fault, Memory}
use Rattle.obu_descriptors.specs.declared.audio_element.AudioElement.{AudioElement}
use Rattle.obu_descriptors.specs.ElementView.{view_element}
use Rattle.obu_descriptors.specs.ElementReading.{ReadsElement, AnswersElement, ReadsAs}

pub answers_element : (frame_length : ℕ) (r : Result AudioElement (Unread DescriptorFault)) (p : List ℕ)
    → ReadsElement r (read (λ f. fault.Field f) (audio_element frame_length) (start_of p)) → AnswersElement frame_length r p
answers_element frame_length (Ok element) p h = payload_read (audio_element_syntax frame_length) p (view_element element) h.0 (all_bits element.tail.now) h.1 h.2
answers_element frame_length (Err (Fault f)) p h = (audio_element_syntax frame_length).reading.fails p f h
answers_element frame_length (Err (Memory e)) p h = tt

-- what was read is valid

pub read_valid : (frame_length : ℕ) (element : AudioElement) (p : List ℕ) → AnswersElement frame_length (Ok element) p → IsValid (audio_element frame_length) audio_element_fields (view_element element)
read_valid frame_length element p h = (audio_element_syntax frame_length).valid (audio_element_fields (view_element element)) (view_element element) h.spelling h.stands

pub element_valid : (frame_length : ℕ) (r : Result AudioElement (Unread DescriptorFault)) (p : List ℕ)
    → AnswersElement frame_length r p → IfOk r (λ element. IsValid (audio_element frame_length) audio_element_fields (view_element element))
element_valid frame_length (Ok element) p h = read_valid frame_length element p h
element_valid frame_length (Err e) p h = tt

-- what is written canonically reads as the same element
pub reads_back : (frame_length : ℕ) (element : AudioElement) (p : List ℕ) → all_bits p ≡ canon (audio_element_fields (view_element element)) ++ all_bits element.tail.now
    → IsValid (audio_element frame_length) audio_element_fields (view_element element) → ReadsAs frame_length element p
reads_back frame_length element p spelled valid =
    let law = audio_element_syntax frame_length in
    let w = view_element element in
    let there : Payload (audio_element frame_length) (audio_element_fields w) w (all_bits element.tail.now) (all_bits p) =
    subst (λ (bits : Bits). Payload (audio_element frame_length) (audio_element_fields w) w (all_bits element.tail.now) bits) (sym spelled) (law.back w (all_bits element.tail.now) valid) in
    law.reading.again p (audio_element_fields w) w (all_bits element.tail.now) there
