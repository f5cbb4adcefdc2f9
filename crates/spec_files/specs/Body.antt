-- The body of a sequence: its descriptors and its temporal units, without delimiters, reserved OBUs and redundant
-- copies; and the bare sequence that is built again of a body (IAMF 1.0.0, "IA Sequence").
use Rattle.std.specs.Prelude.{◌≡◌, ℕ, Bool, not, true, false, ◌&&◌, if◌then◌else◌, List, [], ◌∷◌, ◌++◌, All}
use Rattle.std.specs.List.{flat_map}
use Rattle.spec_obu.specs.declared.obu_type.ObuType.{ObuType}
use Rattle.spec_obu.specs.declared.obu_type.ObuType.TheVariants.{ParameterBlock, AudioFrame}
use Rattle.spec_obu.specs.Kinds.{obu_type_of}
use Rattle.spec_obu.specs.Kinds as kinds
use Rattle.spec_obu.specs.Listing.{Obu}
use Rattle.spec_boxes.specs.ObuLists.{delimits, WholeObus}

-- a codec config, an audio element, a mix presentation or a sequence header, and no copy of one
abbrev pub is_descriptor : Obu → Bool
is_descriptor o = not o.head.redundant && kinds.is_descriptor (obu_type_of o.head.kind)

-- a parameter block or an audio frame
abbrev pub carries : ObuType → Bool
carries ParameterBlock = true
carries AudioFrame = true
carries _ = false

abbrev pub is_data : Obu → Bool
is_data o = carries (obu_type_of o.head.kind)

abbrev pub is_delimiter : Obu → Bool
is_delimiter o = delimits (obu_type_of o.head.kind)

abbrev pub is_any : Obu → Bool
is_any o = true

-- these bytes are descriptors, and these are each the data of a unit
pub record IsBody (descriptors : List ℕ) (units : List (List ℕ)) : Type 0 where
  pub describes : WholeObus is_descriptor descriptors
  pub carry : All (λ u. WholeObus is_data u) units

-- the bytes of the descriptors in order
abbrev pub descriptor_bytes : List Obu → List ℕ
descriptor_bytes [] = []
descriptor_bytes (o ∷ os) = if is_descriptor o then o.bytes ++ descriptor_bytes os else descriptor_bytes os

-- the bytes of the data up to the next delimiter
abbrev pub data_bytes : List Obu → List ℕ
data_bytes [] = []
data_bytes (o ∷ os) = if is_delimiter o then [] else if is_data o then o.bytes ++ data_bytes os else data_bytes os

-- the data after each delimiter
abbrev pub data_units : List Obu → List (List ℕ)
data_units [] = []
data_units (o ∷ os) = if is_delimiter o then data_bytes os ∷ data_units os else data_units os

-- the bytes are whole OBUs, which have these descriptors, and these units where each begins with a delimiter
pub record HasBody (bytes descriptors : List ℕ) (units : List (List ℕ)) : Type 0 where
  pub obus : WholeObus is_any bytes
  pub descriptors_are : descriptor_bytes obus.obus ≡ descriptors
  pub units_are : data_units obus.obus ≡ units

-- a unit after a delimiter
abbrev pub marked : List ℕ → List ℕ
marked unit = 0x20 ∷ 0 ∷ unit

-- the descriptors, and then each unit after a delimiter
unfoldable pub rebuilt : List ℕ → List (List ℕ) → List ℕ
rebuilt descriptors units = descriptors ++ flat_map marked units
