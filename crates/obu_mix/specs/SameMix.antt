-- What is read is the mix presentation that was written.
use Rattle.std.specs.Prelude.{◌≡◌, ℕ, List, ◌++◌, Result, Ok, Err}
use Rattle.spec_bits.specs.Bits.{AreBytes, all_bits}
use Rattle.spec_syntax.specs.Payload.{canon}
use Rattle.spec_descriptors.specs.declared.fault.MixFault.{MixFault}
use Rattle.spec_descriptors.specs.MixFields.{mix_presentation_fields}
use Rattle.iamf_bits.specs.declared.unread.Unread.{Unread}
use Rattle.iamf_bits.specs.declared.unread.Unread.TheVariants.{Fault, Memory}
use Rattle.obu_mix.specs.declared.mix_presentation.MixPresentation.{MixPresentation}
use Rattle.obu_mix.specs.MixView.{view_mix, tags_in, tail_of, IsValidMix}
use Rattle.obu_mix.specs.MixReading.{AnswersMix}

-- the same fields, tags and tail
pub record IsSameMix (mix found : MixPresentation) : Type 0 where
  pub fields : view_mix found ≡ view_mix mix
  pub tags : tags_in found ≡ tags_in mix
  pub tail : found.tail.now ≡ mix.tail.now

-- unless memory ran out
abbrev pub GivesSameMix : MixPresentation → Result MixPresentation (Unread MixFault) → Type 0
GivesSameMix mix (Ok found) = IsSameMix mix found
GivesSameMix mix (Err (Fault f)) = ⊥
GivesSameMix mix (Err (Memory e)) = Unit {0}

-- A valid mix presentation that is written canonically is what is read of these bytes.
abbrev pub WrittenReadsBack : Type 0
WrittenReadsBack = (mix : MixPresentation) (payload : List ℕ) (answer : Result MixPresentation (Unread MixFault)) → IsValidMix mix → AreBytes (tail_of mix)
    → all_bits payload ≡ canon (mix_presentation_fields (view_mix mix)) ++ all_bits (tail_of mix) → AnswersMix answer payload → GivesSameMix mix answer
