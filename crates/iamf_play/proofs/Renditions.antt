-- What a rendition has of the sequence that it is heard of.
use Rattle.std.proofs.Common.{arith, ◌≡◌, ◌<◌, ◌≤◌, ◌^◌, ℕ, refl, ap, ◌∙◌, List, [], ◌∷◌, length, get_or, Option, Some, None}
use Rattle.std.specs.Prelude.{IsTrue}
use Rattle.spec_samples.specs.Lpcm.{is_depth}
use Rattle.spec_descriptors.specs.CodecConfig.{CodecConfigFields}
use Rattle.spec_descriptors.specs.MixPresentation.{SubMixFields, MixPresentationFields}
use Rattle.spec_values.specs.Value.{ObuValue}
use Rattle.spec_rules.specs.Units.{unit_count}
use Rattle.spec_rules.specs.Samples.{kept}
use Rattle.spec_sequence.specs.Parts.{roles_of, codec_configs, temporal_units}
use Rattle.spec_sequence.specs.Reading.{Entry, Reads, values_of, roles}
use Rattle.spec_sequence.proofs.Roles.{roles_of_values}
use Rattle.iamf_sequence.specs.SequenceValue.{IsRead}
use Rattle.spec_sequence.proofs.FramesOfUnits.{length-units}
use Rattle.spec_play.specs.declared.target.Target.{Target}
use Rattle.spec_play.specs.Mixes.{Rendition, rendition, rendition_of_sub_mixes, rendition_of_mix, rendition_of, mix_of, codec_of, no_codec, unit_length}
use Rattle.spec_descriptors.proofs.CodecNumbers.{HasNumbers}
use Rattle.spec_sequence.proofs.RoleNumbers.{role_depth, role_rate}
use Rattle.spec_play.proofs.WholeFrames.{rendition_numbers}

abbrev IsOne : List ObuValue → Target → Rendition → Type 0
IsOne s target r = (x : SubMixFields) × (r ≡ rendition s target x)

of_sub_mixes : (s : List ObuValue) (target : Target) (xs : List SubMixFields) (r : Rendition) → rendition_of_sub_mixes s target xs ≡ Some r → IsOne s target r
of_sub_mixes s target [] r e = absurd (cc)
of_sub_mixes s target (x ∷ []) r e = let same : r ≡ rendition s target x = cc in (x, same)
of_sub_mixes s target (x ∷ y ∷ xs) r e = absurd (cc)

of_mix : (s : List ObuValue) (target : Target) (o : Option MixPresentationFields) (r : Rendition) → rendition_of_mix s target o ≡ Some r → IsOne s target r
of_mix s target None r e = absurd (cc)
of_mix s target (Some m) r e = of_sub_mixes s target m.sub_mixes r e

one_of : (s : List ObuValue) (mix : ℕ) (target : Target) (r : Rendition) → rendition_of s mix target ≡ Some r → IsOne s target r
unfolding rendition_of
one_of s mix target r e = of_mix s target (mix_of s mix) r e

pub units_are : (s : List ObuValue) (mix : ℕ) (target : Target) (r : Rendition) → rendition_of s mix target ≡ Some r → r.units ≡ temporal_units s
units_are s mix target r e = ap (λ (q : Rendition). q.units) (one_of s mix target r e).1

pub kept_is : (s : List ObuValue) (mix : ℕ) (target : Target) (r : Rendition) → rendition_of s mix target ≡ Some r → r.kept ≡ kept (roles_of s)
kept_is s mix target r e = ap (λ (q : Rendition). q.kept) (one_of s mix target r e).1

pub target_is : (s : List ObuValue) (mix : ℕ) (target : Target) (r : Rendition) → rendition_of s mix target ≡ Some r → r.target ≡ target
target_is s mix target r e = ap (λ (q : Rendition). q.target) (one_of s mix target r e).1

pub codec_is : (s : List ObuValue) (mix : ℕ) (target : Target) (r : Rendition) (c : CodecConfigFields) → rendition_of s mix target ≡ Some r → codec_configs s ≡ c ∷ [] → r.codec ≡ c
codec_is s mix target r c e one = ap (λ (q : Rendition). q.codec) (one_of s mix target r e).1 ∙ ap (λ (cs : List CodecConfigFields). get_or cs 0 no_codec) one

pub unit_count_is : (l : List Entry) (mix : ℕ) (target : Target) (r : Rendition) → rendition_of (values_of l) mix target ≡ Some r → length r.units ≡ unit_count (roles l)
unit_count_is l mix target r e = ap length (units_are (values_of l) mix target r e) ∙ length-units (values_of l) ∙ ap unit_count (roles_of_values l)

-- ---- its codec

pub reads_of : (bytes : List ℕ) (l : List Entry) → IsRead bytes l → Reads bytes (values_of l)
reads_of bytes l read = record { entries = l; values_are = refl; admitted = read.admitted; whole = read.whole }

numbers : (bytes : List ℕ) (l : List Entry) (mix : ℕ) (target : Target) (r : Rendition) → IsRead bytes l → rendition_of (values_of l) mix target ≡ Some r → HasNumbers r.codec
numbers bytes l mix target r read e = rendition_numbers bytes (values_of l) mix target r (reads_of bytes l read) e

pub short_unit : (bytes : List ℕ) (l : List Entry) (mix : ℕ) (target : Target) (r : Rendition) → IsRead bytes l → rendition_of (values_of l) mix target ≡ Some r → unit_length r < 2 ^ 17
short_unit bytes l mix target r read e = let low = (numbers bytes l mix target r read e).length in omega arith

pub low_rate : (bytes : List ℕ) (l : List Entry) (mix : ℕ) (target : Target) (r : Rendition) → IsRead bytes l → rendition_of (values_of l) mix target ≡ Some r → (codec_of r).rate ≤ 96000
low_rate bytes l mix target r read e =
    role_rate r.codec.codec_config_id r.codec.num_samples_per_frame r.codec.coding (numbers bytes l mix target r read e).rate

pub some_depth : (bytes : List ℕ) (l : List Entry) (mix : ℕ) (target : Target) (r : Rendition) → IsRead bytes l → rendition_of (values_of l) mix target ≡ Some r → IsTrue (is_depth (codec_of r).depth)
some_depth bytes l mix target r read e =
    role_depth r.codec.codec_config_id r.codec.num_samples_per_frame r.codec.coding (numbers bytes l mix target r read e).depth
