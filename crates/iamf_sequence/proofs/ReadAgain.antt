-- The bytes of a sequence are read again.
use Rattle.std.proofs.Common.{◌≡◌, ℕ, List, refl}
use Rattle.spec_values.specs.Value.{ObuValue}
use Rattle.spec_sequence.specs.Reading.{Entry, values_of, Reads}
use Rattle.spec_sequence.proofs.OneAnswer.{reads_is_not_refused, one_reading}
use Rattle.iamf_sequence.specs.declared.refusal.DecodeError.{DecodeError}
use Rattle.iamf_sequence.specs.declared.refusal.DecodeError.TheVariants.{Refused, Memory}
use Rattle.iamf_sequence.specs.Places.{IsRefused, IsMemory}
use Rattle.iamf_sequence.specs.SequenceValue.{IsRead}

reads_of : (bytes : List ℕ) (l : List Entry) → IsRead bytes l → Reads bytes (values_of l)
reads_of bytes l is = record { entries = l; values_are = refl; admitted = is.admitted; whole = is.whole }

pub same_values : (bytes : List ℕ) (l : List Entry) (s : List ObuValue) → IsRead bytes l → Reads bytes s → s ≡ values_of l
same_values bytes l s is reads = one_reading bytes s (values_of l) reads (reads_of bytes l is)

pub only_memory : (bytes : List ℕ) (l : List Entry) (error : DecodeError) → IsRead bytes l → IsRefused bytes error → IsMemory error
only_memory bytes l (Refused r) is refused = reads_is_not_refused bytes (values_of l) r.at r.fault (reads_of bytes l is) refused
only_memory bytes l (Memory e) is refused = tt
