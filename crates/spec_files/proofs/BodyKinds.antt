-- The types of OBUs in a body.
use Rattle.std.proofs.Common.{◌≡◌, ℕ, Bool, true, false, List, [], ◌∷◌, refl, ap, ◌∙◌}
use Rattle.std.specs.Prelude.{◌&&◌, not}
use Rattle.std.proofs.lemmas.Bool.{and_parts}
use Rattle.spec_obu.specs.declared.obu_type.ObuType.{ObuType}
use Rattle.spec_obu.specs.declared.obu_type.ObuType.TheVariants.{SequenceHeader, CodecConfig, AudioElement, MixPresentation, ParameterBlock, AudioFrame}
use Rattle.spec_obu.specs.Kinds.{obu_type_of}
use Rattle.spec_obu.specs.Kinds as kinds
use Rattle.spec_obu.specs.Listing.{Obu}
use Rattle.spec_boxes.specs.ObuLists.{are_obus, describes, delimits, in_config, in_sample, AllPass, WholeObus, of_kind}
use Rattle.spec_boxes.proofs.WholeLaws.{whole_are}
use Rattle.spec_files.specs.Body.{carries, is_descriptor, is_data, is_delimiter}

-- A descriptor is no delimiter, and data is no descriptor and no delimiter.
describing : (t : ObuType) → kinds.is_descriptor t ≡ true → (delimits t ≡ false) × (describes t ≡ true)
describing SequenceHeader h = (refl, refl)
describing CodecConfig h = (refl, refl)
describing AudioElement h = (refl, refl)
describing MixPresentation h = (refl, refl)
describing _ h = absurd cc

carrying : (t : ObuType) → carries t ≡ true → (delimits t ≡ false) × (kinds.is_descriptor t ≡ false)
carrying ParameterBlock h = (refl, refl)
carrying AudioFrame h = (refl, refl)
carrying _ h = absurd cc

pub descriptor_not_delimiter : (o : Obu) → is_descriptor o ≡ true → is_delimiter o ≡ false
descriptor_not_delimiter o h = (describing (obu_type_of o.head.kind) (and_parts (not o.head.redundant) (kinds.is_descriptor (obu_type_of o.head.kind)) h).1).0

pub data_not_delimiter : (o : Obu) → is_data o ≡ true → is_delimiter o ≡ false
data_not_delimiter o h = (carrying (obu_type_of o.head.kind) h).0

and_false : (b : Bool) → (b && false) ≡ false
and_false true = refl
and_false false = refl

pub data_not_descriptor : (o : Obu) → is_data o ≡ true → is_descriptor o ≡ false
data_not_descriptor o h = ap (λ b. not o.head.redundant && b) (carrying (obu_type_of o.head.kind) h).1 ∙ and_false (not o.head.redundant)

-- what holds descriptors may hold these, and a sample may hold data
descriptor_may : (o : Obu) → is_descriptor o ≡ true → in_config o.head.kind ≡ true
descriptor_may o h = (describing (obu_type_of o.head.kind) (and_parts (not o.head.redundant) (kinds.is_descriptor (obu_type_of o.head.kind)) h).1).1

data_may : (o : Obu) → is_data o ≡ true → in_sample o.head.kind ≡ true
data_may o h = ap not (data_not_delimiter o h)

-- what passes a test passes a weaker one
weaker : (test other : Obu → Bool) (os : List Obu) → ((o : Obu) → test o ≡ true → other o ≡ true) → AllPass test os → AllPass other os
weaker test other [] h all = tt
weaker test other (o ∷ os) h all = (all.0, h o all.1, weaker test other os h all.2)

passes : (test : Obu → Bool) (may : ℕ → Bool) (bytes : List ℕ) → ((o : Obu) → test o ≡ true → may o.head.kind ≡ true) → WholeObus test bytes → are_obus may bytes ≡ true
passes test may bytes h w = whole_are may bytes (record { obus = w.obus; all = weaker test (of_kind may) w.obus h w.all; bytes_are = w.bytes_are })

pub descriptors_pass : (bytes : List ℕ) → WholeObus is_descriptor bytes → are_obus in_config bytes ≡ true
descriptors_pass bytes w = passes is_descriptor in_config bytes descriptor_may w

pub data_passes : (bytes : List ℕ) → WholeObus is_data bytes → are_obus in_sample bytes ≡ true
data_passes bytes w = passes is_data in_sample bytes data_may w
