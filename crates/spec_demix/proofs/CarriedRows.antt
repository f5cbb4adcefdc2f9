-- A layer carries the rows of its table one after the other: where a row's test holds, its channels carry the next coded samples.
use Rattle.std.proofs.Common.{arith, ◌≡◌, ℕ, suc, ℤ, pos, ◌*ℤ◌, ◌+◌, refl, Bool, true, false, List, ◌++◌, length}
use Rattle.std.proofs.lemmas.Int.{ints}
use Rattle.std.specs.Prelude.{slice_index_or}
use Rattle.spec_layouts.specs.declared.Channel.{Channel}
use Rattle.spec_layouts.specs.Transmitted.{row, both_of}
use Rattle.spec_demix.specs.declared.DemixLayer.{DemixLayer}
use Rattle.spec_demix.specs.declared.Sent.{Sent}
use Rattle.spec_demix.specs.Fits.{Carries, AllCarry, parts_of}
use Rattle.spec_demix.specs.OutputGains.{factor_on}
use Rattle.spec_demix.specs.Sent.{sample_of, count_if}
use Rattle.spec_demix.proofs.KindFits.{CarriesAs}

-- a channel carries the coded sample at a place
abbrev pub CarriesAt : (Channel → ℤ) → DemixLayer → ℕ → List ℤ → ℕ → Channel → Type 0
CarriesAt value layer bottom coded at channel = Carries bottom channel (value channel) (slice_index_or coded at (pos 0)) (factor_on layer channel)

-- where a test holds, both channels of a pair carry the samples from a place on
abbrev pub PairCarries : (Channel → ℤ) → DemixLayer → ℕ → List ℤ → ℕ → Bool → Channel × Channel → Type 0
PairCarries value layer bottom coded at test pair = test ≡ true → CarriesAt value layer bottom coded at pair.0 × CarriesAt value layer bottom coded (at + 1) pair.1

abbrev pub SingleCarries : (Channel → ℤ) → DemixLayer → ℕ → List ℤ → ℕ → Bool → Channel → Type 0
SingleCarries value layer bottom coded at test channel = test ≡ true → CarriesAt value layer bottom coded at channel

pub pair_first : (value : Channel → ℤ) (layer : DemixLayer) (bottom : ℕ) (coded : List ℤ) (at : ℕ) (test : Bool) (pair : Channel × Channel) (rest : List (Channel × Channel))
    → AllCarry value layer bottom coded at (both_of (row test pair ++ rest))
    → PairCarries value layer bottom coded at test pair × AllCarry value layer bottom coded (at + count_if test 2) (both_of rest)
pair_first value layer bottom coded at true pair rest h =
    let one : at + 1 ≡ suc at = omega arith in
    let two : at + 2 ≡ suc (suc at) = omega arith in
    (λ e. (h.0, rw one h.1.0), rw two h.1.1)
pair_first value layer bottom coded at false pair rest h = let none : at + 0 ≡ at = omega arith in (λ e. absurd (cc), rw none h)

pub pair_joined : (value : Channel → ℤ) (layer : DemixLayer) (bottom : ℕ) (coded : List ℤ) (at : ℕ) (test : Bool) (pair : Channel × Channel) (rest : List (Channel × Channel))
    → PairCarries value layer bottom coded at test pair → AllCarry value layer bottom coded (at + count_if test 2) (both_of rest)
    → AllCarry value layer bottom coded at (both_of (row test pair ++ rest))
pair_joined value layer bottom coded at true pair rest p h =
    let one : at + 1 ≡ suc at = omega arith in
    let two : at + 2 ≡ suc (suc at) = omega arith in
    let both = p refl in
    (both.0, (rw one at both.1, rw two at h))
pair_joined value layer bottom coded at false pair rest p h = let none : at + 0 ≡ at = omega arith in rw none at h

pub single_first : (value : Channel → ℤ) (layer : DemixLayer) (bottom : ℕ) (coded : List ℤ) (at : ℕ) (test : Bool) (channel : Channel) (rest : List Channel)
    → AllCarry value layer bottom coded at (row test channel ++ rest)
    → SingleCarries value layer bottom coded at test channel × AllCarry value layer bottom coded (at + count_if test 1) rest
single_first value layer bottom coded at true channel rest h = let one : at + 1 ≡ suc at = omega arith in (λ e. h.0, rw one h.1)
single_first value layer bottom coded at false channel rest h = let none : at + 0 ≡ at = omega arith in (λ e. absurd (cc), rw none h)

pub single_joined : (value : Channel → ℤ) (layer : DemixLayer) (bottom : ℕ) (coded : List ℤ) (at : ℕ) (test : Bool) (channel : Channel) (rest : List Channel)
    → SingleCarries value layer bottom coded at test channel → AllCarry value layer bottom coded (at + count_if test 1) rest
    → AllCarry value layer bottom coded at (row test channel ++ rest)
single_joined value layer bottom coded at true channel rest p h = let one : at + 1 ≡ suc at = omega arith in (p refl, rw one at h)
single_joined value layer bottom coded at false channel rest p h = let none : at + 0 ≡ at = omega arith in rw none at h

pub pair_length : (test : Bool) (pair : Channel × Channel) (rest : List (Channel × Channel)) → length (both_of (row test pair ++ rest)) ≡ count_if test 2 + length (both_of rest)
pair_length true pair rest = omega arith
pair_length false pair rest = omega arith

-- A channel of a layer is the channel w of all layouts, and the sample that it carries, times its gain, is the one that is sent.
pub record Stands (value : Channel → ℤ) (layer : DemixLayer) (channel : Channel) (at : ℕ) (w : ℤ) (sent : Sent) : Type 0 where
  pub parts : parts_of channel ≡ 10000000000
  pub channel_is : value channel ≡ w
  pub sample_is : sent ≡ record { place = at; factor = factor_on layer channel }

pub less : (bottom : ℕ) (v y : ℤ) → pos 1000000000000 *ℤ v ≡ pos 10000000000 *ℤ (y *ℤ pos bottom) → CarriesAs bottom v y
less bottom v y e = omega (arith, ints)

pub more : (bottom : ℕ) (v y : ℤ) → CarriesAs bottom v y → pos 1000000000000 *ℤ v ≡ pos 10000000000 *ℤ (y *ℤ pos bottom)
more bottom v y e = omega (arith, ints)

pub sent_as : {value : Channel → ℤ} {layer : DemixLayer} {channel : Channel} {at : ℕ} {w : ℤ} {sent : Sent} (bottom : ℕ) (coded : List ℤ)
    → Stands value layer channel at w sent → CarriesAt value layer bottom coded at channel → CarriesAs bottom w (sample_of coded sent)
sent_as {value} {layer} {channel} {at} {w} {sent} bottom coded s h =
    let y = slice_index_or coded at (pos 0) *ℤ pos (factor_on layer channel) in
    let as_is : pos 1000000000000 *ℤ w ≡ pos 10000000000 *ℤ (y *ℤ pos bottom) = rw s.channel_is at (rw s.parts at h) in
    rw s.sample_is (less bottom w y as_is)

pub carried_as : {value : Channel → ℤ} {layer : DemixLayer} {channel : Channel} {at : ℕ} {w : ℤ} {sent : Sent} (bottom : ℕ) (coded : List ℤ)
    → Stands value layer channel at w sent → CarriesAs bottom w (sample_of coded sent) → CarriesAt value layer bottom coded at channel
carried_as {value} {layer} {channel} {at} {w} {sent} bottom coded s h =
    let y = slice_index_or coded at (pos 0) *ℤ pos (factor_on layer channel) in
    let as_is : CarriesAs bottom w y = rw s.sample_is at h in
    rw s.channel_is (rw s.parts (more bottom w y as_is))
