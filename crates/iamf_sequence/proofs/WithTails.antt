-- Descriptors with their tails, and without.
use Rattle.std.proofs.Common.{◌≡◌, ℕ, Bool, true, false, cond, List, [], ◌∷◌, ◌++◌, map, refl, ap, ◌∙◌}
use Rattle.std.specs.List.{flat_map}
use Rattle.std.proofs.lemmas.List.{map-append}
use Rattle.spec_descriptors.specs.SequenceHeader.{SequenceHeaderFields}
use Rattle.spec_descriptors.specs.CodecConfig.{CodecConfigFields}
use Rattle.spec_descriptors.specs.AudioElement.{AudioElementFields}
use Rattle.spec_descriptors.specs.MixPresentation.{MixPresentationFields}
use Rattle.spec_values.specs.Content.{Content}
use Rattle.spec_values.specs.Value.{ObuValue}
use Rattle.spec_sequence.specs.Parts.{of_plain, header_in, codec_in, element_in, mix_in, sequence_headers, codec_configs, audio_elements, mix_presentations}
use Rattle.spec_rules.proofs.Basics.{unmapped}
use Rattle.iamf_sequence.specs.Tails.{with_tail, with_tails}

first_of : {X : Type 0} (tail : List ℕ) (xs : List X) → map (λ (p : X × List ℕ). p.0) (map (λ (x : X). let y : X × List ℕ = (x, tail) in y) xs) ≡ xs
first_of tail [] = refl
first_of {X} tail (x ∷ xs) = ap (λ (ys : List X). x ∷ ys) (first_of tail xs)

without_tail : {X : Type 0} (part : Content → List X) (o : ObuValue) → map (λ (p : X × List ℕ). p.0) (with_tail part o) ≡ of_plain part o
without_tail {X} part o = one o.head.redundant where
  one : (b : Bool) → map (λ (p : X × List ℕ). p.0) (cond b [] (map (λ (x : X). let y : X × List ℕ = (x, o.tail) in y) (part o.content))) ≡ cond b [] (part o.content)
  one true = refl
  one false = first_of o.tail (part o.content)

pub without_tails : {X : Type 0} (part : Content → List X) (s : List ObuValue) → map (λ (p : X × List ℕ). p.0) (with_tails part s) ≡ flat_map (of_plain part) s
unfolding with_tails
without_tails part [] = refl
without_tails {X} part (o ∷ os) =
    map-append (λ (p : X × List ℕ). p.0) (with_tail part o) (flat_map (with_tail part) os) ∙ ap (λ (xs : List X). xs ++ map (λ (p : X × List ℕ). p.0) (flat_map (with_tail part) os)) (without_tail part o)
    ∙ ap (λ (xs : List X). of_plain part o ++ xs) (without_tails part os)

-- there is none with a tail where there is none
none_with : {X : Type 0} (part : Content → List X) (s : List ObuValue) → flat_map (of_plain part) s ≡ [] → with_tails part s ≡ []
none_with {X} part s none = unmapped (λ (p : X × List ℕ). p.0) (with_tails part s) (without_tails part s ∙ none)

pub no_header : (s : List ObuValue) → sequence_headers s ≡ [] → with_tails header_in s ≡ []
unfolding sequence_headers
no_header s none = none_with header_in s none

pub no_codec : (s : List ObuValue) → codec_configs s ≡ [] → with_tails codec_in s ≡ []
unfolding codec_configs
no_codec s none = none_with codec_in s none

pub headers_are : (s : List ObuValue) → map (λ (p : SequenceHeaderFields × List ℕ). p.0) (with_tails header_in s) ≡ sequence_headers s
unfolding sequence_headers
headers_are s = without_tails header_in s

pub codecs_are : (s : List ObuValue) → map (λ (p : CodecConfigFields × List ℕ). p.0) (with_tails codec_in s) ≡ codec_configs s
unfolding codec_configs
codecs_are s = without_tails codec_in s

pub elements_are : (s : List ObuValue) → map (λ (p : AudioElementFields × List ℕ). p.0) (with_tails element_in s) ≡ audio_elements s
unfolding audio_elements
elements_are s = without_tails element_in s

pub mixes_are : (s : List ObuValue) → map (λ (p : MixPresentationFields × List ℕ). p.0) (with_tails mix_in s) ≡ mix_presentations s
unfolding mix_presentations
mixes_are s = without_tails mix_in s
