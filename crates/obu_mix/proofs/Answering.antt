-- What reading gives, in the words of payloads, and that what is written is read again.
use Rattle.std.proofs.Common.{◌≡◌, ℕ, List, Result, Ok, Err, subst}
use Rattle.std.specs.Prelude.{IfOk}
use Rattle.spec_bits.specs.Bits.{all_bits}
use Rattle.spec_bits.proofs.ByteForms.{same_bytes}
use Rattle.spec_syntax.specs.Reading.{read, start_of}
use Rattle.spec_syntax.proofs.PayloadLaws.{payload_read, written_only, written_reads}
use Rattle.spec_descriptors.specs.declared.fault.MixFault.{MixFault}
use Rattle.spec_descriptors.specs.declared.fault.MixFault.TheVariants as fault
use Rattle.spec_descriptors.specs.MixPresentation.{mix_presentation}
use Rattle.spec_descriptors.proofs.MixSteps.{mix_presentation_syntax}
use Rattle.iamf_bits.specs.declared.unread.Unread.{Unread}
use Rattle.iamf_bits.specs.declared.unread.Unread.TheVariants.{Fault, Memory}
use Rattle.obu_mix.specs.declared.mix_presentation.MixPresentation.{MixPresentation}
use Rattle.obu_mix.specs.MixView.{view_mix, tags_in, tail_of, IsValidMix}
use Rattle.obu_mix.specs.TagView.{IsTagged}
use Rattle.obu_mix.specs.MixReading.{AnswersMix, GivesMix}
use Rattle.obu_mix.specs.SameMix.{WrittenReadsBack}
use Rattle.obu_mix.proofs.TagsOfTail.{one_tagged, is_tagged, can_be_tagged}

pub answers_mix : (r : Result MixPresentation (Unread MixFault)) (p : List ℕ) → GivesMix r (read (λ f. fault.Field f) mix_presentation (start_of p)) → AnswersMix r p
answers_mix (Ok mix) p h = record {
  fields = payload_read mix_presentation_syntax p (view_mix mix) h.end (all_bits (tail_of mix)) h.is h.left;
  tagged = h.tagged;
  bytes = h.bytes;
}
answers_mix (Err (Fault f)) p h = mix_presentation_syntax.reading.fails p f h
answers_mix (Err (Memory e)) p h = tt

pub answers_valid : (r : Result MixPresentation (Unread MixFault)) (p : List ℕ) → AnswersMix r p → IfOk r IsValidMix
answers_valid (Ok mix) p h = record {
  fields = mix_presentation_syntax.valid _ (view_mix mix) h.fields.spelling h.fields.stands;
  tags = can_be_tagged (tags_in mix) mix.tail.now (tail_of mix) h.tagged h.bytes;
}
answers_valid (Err e) p h = tt

-- ---- what is written is read again

pub same_mix : WrittenReadsBack
same_mix mix payload (Ok found) valid are written h =
    let only = written_only mix_presentation_syntax (view_mix mix) (view_mix found) (all_bits (tail_of mix)) (all_bits (tail_of found)) (all_bits payload) valid.fields written h.fields in
    let tails : tail_of found ≡ tail_of mix = same_bytes (tail_of found) (tail_of mix) h.bytes are only.rest in
    let tagged : IsTagged (tags_in found) found.tail.now (tail_of mix) = subst (λ (b : List ℕ). IsTagged (tags_in found) found.tail.now b) tails h.tagged in
    let same = one_tagged (tags_in found) (tags_in mix) found.tail.now mix.tail.now (tail_of mix) tagged (is_tagged (tags_in mix) mix.tail.now valid.tags) in
    record { fields = only.entry; tags = same.0; tail = same.1 }
same_mix mix payload (Err (Fault f)) valid are written h = written_reads mix_presentation_syntax (view_mix mix) (all_bits (tail_of mix)) (all_bits payload) f valid.fields written h
same_mix mix payload (Err (Memory e)) valid are written h = tt
