-- What reading a mix presentation answers.
use Rattle.std.specs.Prelude.{◌≡◌, ℕ, List, [], Result, Ok, Err}
use Rattle.spec_bits.specs.Bits.{AreBytes, all_bits}
use Rattle.spec_bits.specs.Cursor.{Cursor, bits_left}
use Rattle.spec_syntax.specs.Payload.{Payload, Faults}
use Rattle.spec_descriptors.specs.declared.fault.MixFault.{MixFault}
use Rattle.spec_descriptors.specs.declared.fault.MixFault.TheVariants as fault
use Rattle.spec_descriptors.specs.MixPresentation.{MixPresentationFields, mix_presentation}
use Rattle.spec_descriptors.specs.MixFields.{mix_presentation_fields}
use Rattle.iamf_bits.specs.declared.unread.Unread.{Unread}
use Rattle.iamf_bits.specs.declared.unread.Unread.TheVariants.{Fault, Memory}
use Rattle.obu_mix.specs.declared.mix_presentation.MixPresentation.{MixPresentation}
use Rattle.obu_mix.specs.MixView.{view_mix, tags_in, tail_of}
use Rattle.obu_mix.specs.TagView.{IsTagged}

-- The bytes are the fields that the mix presentation stands for and then its tail, which has its tags where it begins with some.
pub record IsMix (mix : MixPresentation) (payload : List ℕ) : Type 0 where
  pub fields : Payload mix_presentation (mix_presentation_fields (view_mix mix)) (view_mix mix) (all_bits (tail_of mix)) (all_bits payload)
  pub tagged : IsTagged (tags_in mix) mix.tail.now (tail_of mix)
  pub bytes : AreBytes (tail_of mix)

-- They are so, or they have the fault, unless memory ran out.
abbrev pub AnswersMix : Result MixPresentation (Unread MixFault) → List ℕ → Type 0
AnswersMix (Ok mix) payload = IsMix mix payload
AnswersMix (Err (Fault f)) payload = Faults (λ e. fault.Field e) mix_presentation [] f (all_bits payload)
AnswersMix (Err (Memory e)) payload = Unit {0}

-- The fields are those of reading, and the tail is what reading leaves.
pub record ReadsMix (mix : MixPresentation) (read : Result (MixPresentationFields × Cursor) MixFault) : Type 0 where
  pub end : Cursor
  pub is : read ≡ Ok (view_mix mix, end)
  pub left : bits_left end ≡ all_bits (tail_of mix)
  pub tagged : IsTagged (tags_in mix) mix.tail.now (tail_of mix)
  pub bytes : AreBytes (tail_of mix)

-- The answer is that of reading, unless memory ran out.
abbrev pub GivesMix : Result MixPresentation (Unread MixFault) → Result (MixPresentationFields × Cursor) MixFault → Type 0
GivesMix (Ok mix) read = ReadsMix mix read
GivesMix (Err (Fault f)) read = read ≡ Err f
GivesMix (Err (Memory e)) read = Unit {0}
