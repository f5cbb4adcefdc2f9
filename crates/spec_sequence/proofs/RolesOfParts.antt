-- The roles of a list of OBUs have its descriptors.
use Rattle.std.proofs.Common.{◌≡◌, ℕ, Bool, true, false, cond, List, [], ◌∷◌, ◌++◌, map, refl, sym, ap, ◌∙◌}
use Rattle.std.specs.List.{flat_map}
use Rattle.std.proofs.lemmas.List.{map-append}
use Rattle.spec_obu.specs.Kinds.{obu_type_of}
use Rattle.spec_obu.specs.Header.{Head}
use Rattle.spec_values.specs.Content.{Content, Nothing}
use Rattle.spec_values.specs.Value.{ObuValue}
use Rattle.spec_rules.specs.Role.{Role, Ignored}
use Rattle.spec_sequence.specs.ValueRole.{role_of_codec, plain_role, element_role, mix_role}
use Rattle.spec_rules.specs.Descriptors.{profile_of, profiles, codec_of, codecs, element_of, elements, mix_of, mixes}
use Rattle.spec_sequence.specs.Parts.{roles_of, of_plain, header_in, codec_in, element_in, mix_in, sequence_headers, codec_configs, audio_elements, mix_presentations}
use Rattle.spec_sequence.proofs.Roles.{nothing_of}

flat : {X Y : Type 0} (of_role : Role → List Y) (part : Content → List X) (f : X → Y) → of_role Ignored ≡ [] → ((h : Head) (c : Content) (tail : List ℕ) → of_role (plain_role h c tail) ≡ map f (part c))
    → (s : List ObuValue) → flat_map of_role (roles_of s) ≡ map f (flat_map (of_plain part) s)
flat of_role part f none plain [] = refl
flat {X} {Y} of_role part f none plain (o ∷ os) =
    ap (λ (ys : List Y). ys ++ flat_map of_role (roles_of os)) (one o.head.redundant) ∙ ap (λ (ys : List Y). map f (of_plain part o) ++ ys) (flat of_role part f none plain os)
    ∙ sym (map-append f (of_plain part o) (flat_map (of_plain part) os))
  where
    one : (redundant : Bool) → of_role (cond redundant Ignored (plain_role o.head o.content o.tail)) ≡ map f (cond redundant [] (part o.content))
    one true = none
    one false = plain o.head o.content o.tail

pub profiles_are : (s : List ObuValue) → profiles (roles_of s) ≡ map (λ h. h.primary_profile) (sequence_headers s)
unfolding profiles sequence_headers
profiles_are s = flat profile_of header_in (λ h. h.primary_profile) refl plain s where
  plain : (h : Head) (c : Content) (tail : List ℕ) → profile_of (plain_role h c tail) ≡ map (λ h. h.primary_profile) (header_in c)
  plain h Nothing tail = nothing_of profile_of refl refl (obu_type_of h.kind)
  plain h _ tail = refl

pub codecs_are : (s : List ObuValue) → codecs (roles_of s) ≡ map role_of_codec (codec_configs s)
unfolding codecs codec_configs
codecs_are s = flat codec_of codec_in role_of_codec refl plain s where
  plain : (h : Head) (c : Content) (tail : List ℕ) → codec_of (plain_role h c tail) ≡ map role_of_codec (codec_in c)
  plain h Nothing tail = nothing_of codec_of refl refl (obu_type_of h.kind)
  plain h _ tail = refl

pub elements_are : (s : List ObuValue) → elements (roles_of s) ≡ map element_role (audio_elements s)
unfolding elements audio_elements
elements_are s = flat element_of element_in element_role refl plain s where
  plain : (h : Head) (c : Content) (tail : List ℕ) → element_of (plain_role h c tail) ≡ map element_role (element_in c)
  plain h Nothing tail = nothing_of element_of refl refl (obu_type_of h.kind)
  plain h _ tail = refl

pub mixes_are : (s : List ObuValue) → mixes (roles_of s) ≡ map mix_role (mix_presentations s)
unfolding mixes mix_presentations
mixes_are s = flat mix_of mix_in mix_role refl plain s where
  plain : (h : Head) (c : Content) (tail : List ℕ) → mix_of (plain_role h c tail) ≡ map mix_role (mix_in c)
  plain h Nothing tail = nothing_of mix_of refl refl (obu_type_of h.kind)
  plain h _ tail = refl
