-- The numbers of channels of an element's substreams, one after the other.
use Rattle.std.proofs.Common.{◌≡◌, ℕ, zero, suc, ◌+◌, ◌≤◌, true, false, List, [], ◌∷◌, ◌++◌, length, take, add-one, refl, sym, ap, ◌∙◌, arith}
use Rattle.std.specs.Prelude.{Option, Some, None, is_some, slice_get, option_and_then, sum}
use Rattle.std.specs.Option.{option_map}
use Rattle.std.proofs.lemmas.List.{take_all}
use Rattle.spec_syntax.specs.Payload.{IsValid}
use Rattle.spec_descriptors.specs.AudioElement.{AudioElementFields, audio_element, substream_channels_of}
use Rattle.spec_descriptors.specs.ElementFields.{audio_element_fields}
use Rattle.spec_descriptors.proofs.ElementCounts.{valid_counts, channels_fit}

-- the numbers of channels, none where they are not known
abbrev pub known_channels : Option (List ℕ) → List ℕ
known_channels None = []
known_channels (Some channels) = channels

-- ---- one more place of a list

taken : (cs : List ℕ) (i n : ℕ) → Some n ≡ slice_get cs i → take (suc i) cs ≡ take i cs ++ n ∷ []
taken [] i n e = absurd cc
taken (c ∷ cs) zero n e = let same : n ≡ c = cc in rw same refl
taken (c ∷ cs) (suc i) n e = ap (λ (ds : List ℕ). c ∷ ds) (taken cs i n e)

past : (cs : List ℕ) (i : ℕ) → None ≡ slice_get cs i → take (suc i) cs ≡ take i cs
past [] zero e = refl
past [] (suc i) e = refl
past (c ∷ cs) zero e = absurd cc
past (c ∷ cs) (suc i) e = ap (λ (ds : List ℕ). c ∷ ds) (past cs i e)

none_taken : (i : ℕ) → take {A = ℕ} (suc i) [] ≡ take i []
none_taken zero = refl
none_taken (suc i) = refl

pub one_more : (known : Option (List ℕ)) (i n : ℕ) → Some n ≡ option_and_then (λ cs. slice_get cs i) known → take (i + 1) (known_channels known) ≡ take i (known_channels known) ++ n ∷ []
one_more None i n e = absurd cc
one_more (Some cs) i n e = rw add-one (taken cs i n e)

pub no_more : (known : Option (List ℕ)) (i : ℕ) → None ≡ option_and_then (λ cs. slice_get cs i) known → take (i + 1) (known_channels known) ≡ take i (known_channels known)
no_more None i e = rw add-one (none_taken i)
no_more (Some cs) i e = rw add-one (past cs i e)

known_length : (count : ℕ) (known : Option (List ℕ)) → ((cs : List ℕ) → known ≡ Some cs → length cs ≡ count) → length (known_channels known) ≤ count
known_length count None fit = omega arith
known_length count (Some cs) fit = omega (arith, fit cs refl)

pub all_known : (n i : ℕ) (e : AudioElementFields) → IsValid (audio_element n) audio_element_fields e → length e.audio_substream_ids ≤ i
    → take i (known_channels (substream_channels_of e.config)) ≡ known_channels (substream_channels_of e.config)
all_known n i e valid le =
    let counts = valid_counts n e valid in
    let few = known_length (length e.audio_substream_ids) (substream_channels_of e.config) (λ cs is. channels_fit (length e.audio_substream_ids) e.config cs counts is) in
    take_all _ _ (omega (arith, few, le))

-- ---- whether they are known

pub none_known : (known : Option (List ℕ)) (sums : Option ℕ) → sums ≡ option_map (λ cs. sum cs) known → is_some sums ≡ false → None ≡ known
none_known None sums e none = refl
none_known (Some ds) sums e none = absurd (let x = ap (λ (s : Option ℕ). is_some s) (sym e) ∙ none in cc)

pub some_known : (known : Option (List ℕ)) (cs : List ℕ) (sums : Option ℕ) → sums ≡ option_map (λ cs. sum cs) known → is_some sums ≡ true → cs ≡ known_channels known → Some cs ≡ known
some_known None cs sums e some same = absurd (let x = ap (λ (s : Option ℕ). is_some s) (sym e) ∙ some in cc)
some_known (Some ds) cs sums e some same = ap (λ (x : List ℕ). Some x) same
