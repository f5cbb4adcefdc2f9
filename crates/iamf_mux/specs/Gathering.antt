-- What is gathered of a sequence for its file, OBU by OBU.
use Rattle.std.specs.Prelude.{◌≡◌, ℕ, ◌+◌, ◌≤◌, ◌==◌, not, ◌&&◌, if◌then◌else◌, List, [], ◌∷◌, ◌++◌, length, map, slice_index, slice_range, slice_set, Option, Some, None}
use Rattle.spec_obu.specs.Kinds.{obu_type_of, is_descriptor}
use Rattle.spec_obu.specs.Header.{Head}
use Rattle.spec_boxes.specs.ObuLists.{delimits}
use Rattle.std.specs.List.{flat_map}
use Rattle.spec_bodies.specs.Spelled.{Spelled}
use Rattle.spec_bodies.specs.SequenceBody.{units, descriptors}
use Rattle.mp4_file.specs.Slices.{joined}
use Rattle.iamf_mux.specs.declared.gathered.Gathered.{Gathered}
use Rattle.iamf_mux.specs.Ranges.{AreRanges, parts}

-- the bytes of the descriptors and of all units, and how many of the latter each unit has
pub record Slices : Type 0 where
  pub descriptors : List ℕ
  pub units : List ℕ
  pub unit_lengths : List ℕ

-- the last slice of the units stands apart from the others
abbrev pub slices_of : Gathered → Slices
slices_of g = record {
  descriptors = joined g.descriptors.items;
  units = joined g.units.items ++ slice_range g.bytes.now g.start g.end;
  unit_lengths = g.unit_lengths.items;
}

abbrev pub no_slices : Slices
no_slices = record { descriptors = []; units = []; unit_lengths = [] }

-- the next unit is begun
abbrev pub with_unit : ℕ → Slices → Slices
with_unit unit s = if unit == length s.unit_lengths then record { descriptors = s.descriptors; units = s.units; unit_lengths = s.unit_lengths ++ 0 ∷ [] } else s

-- more bytes of the units
abbrev pub with_bytes : List ℕ → Slices → Slices
with_bytes bytes s = record { descriptors = s.descriptors; units = s.units ++ bytes; unit_lengths = s.unit_lengths }

abbrev pub with_data : ℕ → List ℕ → Slices → Slices
with_data unit bytes s = record {
  descriptors = s.descriptors;
  units = s.units ++ bytes;
  unit_lengths = slice_set s.unit_lengths unit (slice_index s.unit_lengths unit + length bytes);
}

abbrev pub with_descriptor : List ℕ → Slices → Slices
with_descriptor bytes s = record { descriptors = s.descriptors ++ bytes; units = s.units; unit_lengths = s.unit_lengths }

-- A delimiter begins its unit, and is no part of it.
abbrev pub with_obu : Head → Option ℕ → List ℕ → Slices → Slices
with_obu h (Some unit) bytes s = if delimits (obu_type_of h.kind) then with_unit unit s else with_data unit bytes (with_unit unit s)
with_obu h None bytes s = if not h.redundant && is_descriptor (obu_type_of h.kind) then with_descriptor bytes s else s

-- The slices of the units are ranges of the bytes, the last apart from the others, and all end before a place or at it.
abbrev pub AreSliced : Gathered → ℕ → Type 0
AreSliced g place = AreRanges g.bytes.now 0 (parts g.units.items) g.start × (g.end ≤ place)

-- What is gathered is the body of these OBUs.
pub record IsGathered (s : Slices) (os : List Spelled) : Type 0 where
  pub descriptors_are : s.descriptors ≡ descriptors os
  pub units_are : s.units ≡ flat_map (λ (u : List ℕ). u) (units os)
  pub lengths_are : s.unit_lengths ≡ map length (units os)
