-- The body of a sequence: the bytes of its plain descriptors, and those of each temporal unit without its delimiter.
-- Reserved OBUs and redundant copies are in neither (IAMF 1.0.0, "IA Sequence Structure" and "Temporal Unit").
use Rattle.std.specs.Prelude.{◌≡◌, ℕ, zero, suc, ◌==◌, if◌then◌else◌, List, [], ◌∷◌, ◌++◌}
use Rattle.std.specs.List.{flat_map}
use Rattle.spec_rules.specs.Role.{Role}
use Rattle.spec_rules.specs.Units.{unit_after, unit_count}
use Rattle.spec_files.specs.Body.{is_data, descriptor_bytes}
use Rattle.spec_bodies.specs.Spelled.{Spelled, obu_of, role_of, obus_of, roles_of, bytes_of, AreSequence}

-- the frames and the blocks of a list, which stands after others, each with the number of its unit
abbrev pub placed_after : List Role → List Spelled → List (ℕ × Spelled)
placed_after l [] = []
placed_after l (o ∷ os) = (if is_data (obu_of o) then (unit_after l (role_of o), o) ∷ [] else []) ++ placed_after (l ++ role_of o ∷ []) os

abbrev pub bytes_if : ℕ → ℕ × Spelled → List ℕ
bytes_if u p = if p.0 == u then (p.1).bytes else []

-- the bytes of a unit's frames and blocks, in their order
unfoldable pub unit_bytes : List Spelled → ℕ → List ℕ
unit_bytes os u = flat_map (bytes_if u) (placed_after [] os)

-- the first so many units
abbrev pub units_up_to : List Spelled → ℕ → List (List ℕ)
units_up_to os zero = []
units_up_to os (suc u) = units_up_to os u ++ unit_bytes os u ∷ []

unfoldable pub units : List Spelled → List (List ℕ)
units os = units_up_to os (unit_count (roles_of os))

unfoldable pub descriptors : List Spelled → List ℕ
descriptors os = descriptor_bytes (obus_of os)

-- the bytes are a sequence, which has these descriptors and these units
pub record HasSequenceBody (bytes its_descriptors : List ℕ) (its_units : List (List ℕ)) : Type 0 where
  pub obus : List Spelled
  pub bytes_are : bytes ≡ bytes_of obus
  pub are : AreSequence obus
  pub descriptors_are : descriptors obus ≡ its_descriptors
  pub units_are : units obus ≡ its_units
