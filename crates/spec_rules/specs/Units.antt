-- Temporal units, by counting over the whole list (IAMF 1.0.0, "Temporal Unit").
use Rattle.std.specs.Prelude.{ℕ, ◌+◌, ◌-◌, ◌*◌, ◌==◌, min, max, nat_lt, Bool, true, false, not, ◌&&◌, if◌then◌else◌, List, [], ◌∷◌, ◌++◌, map, fold, find, count_by, take, Option, Some, None, slice_get}
use Rattle.std.specs.List.{flat_map, list_all, list_any}
use Rattle.std.specs.Option.{option_map_or}
use Rattle.spec_blocks.specs.Shape.{Shape, MixGain, shape_of}
use Rattle.spec_obu.specs.declared.trim.Trim.{Trim}
use Rattle.spec_rules.specs.Role.{BlockRole, Role, Delimiter, ParameterBlock, AudioFrame}
use Rattle.spec_rules.specs.Descriptors.{substreams, frame_length, definitions}

abbrev pub contains : List ℕ → ℕ → Bool
contains xs x = list_any (λ y. y == x) xs

-- no id stands there twice
abbrev pub are_apart : List ℕ → Bool
are_apart [] = true
are_apart (x ∷ xs) = not (contains xs x) && are_apart xs

abbrev pub is_none_of : {X : Type 0} → List X → Bool
is_none_of [] = true
is_none_of (x ∷ xs) = false

abbrev pub is_delimiter : Role → Bool
is_delimiter Delimiter = true
is_delimiter _ = false

abbrev pub is_data : Role → Bool
is_data Delimiter = true
is_data (ParameterBlock b) = true
is_data (AudioFrame f) = true
is_data _ = false

abbrev pub block_of : Role → List BlockRole
block_of (ParameterBlock b) = b ∷ []
block_of _ = []

abbrev pub stream_of : Role → List ℕ
stream_of (AudioFrame f) = f.substream ∷ []
stream_of _ = []

abbrev pub trim_of : Role → List Trim
trim_of (AudioFrame f) = f.trim ∷ []
trim_of _ = []

-- 0 for no numbers
abbrev pub least : List ℕ → ℕ
least [] = 0
least (x ∷ []) = x
least (x ∷ y ∷ ys) = min x (least (y ∷ ys))

abbrev pub is_frame_of : ℕ → Role → Bool
is_frame_of s o = contains (stream_of o) s

-- the number of frames of a substream
unfoldable pub frames_of : List Role → ℕ → ℕ
frames_of l s = count_by (is_frame_of s) l

unfoldable pub delimiters : List Role → ℕ
delimiters l = count_by is_delimiter l

-- whether the first data OBU is a delimiter
unfoldable pub is_delimited : List Role → Bool
is_delimited l = option_map_or is_delimiter (find is_data l) false

-- The number of the unit of a data OBU o that stands after l: with delimiters, how many there are up to o, less 1;
-- without, the least number of frames that a substream has before o.
unfoldable pub unit_after : List Role → Role → ℕ
unit_after l o = if is_delimited (l ++ o ∷ []) then delimiters (l ++ o ∷ []) - 1 else least (map (frames_of l) (substreams l))

-- the data OBUs of a list, which stands after l, each with the number of its unit
abbrev pub placed_after : List Role → List Role → List (ℕ × Role)
placed_after l [] = []
placed_after l (o ∷ os) = (if is_data o then (unit_after l o, o) ∷ [] else []) ++ placed_after (l ++ o ∷ []) os

unfoldable pub placed : List Role → List (ℕ × Role)
placed l = placed_after [] l

-- the data OBUs whose unit passes the test
abbrev pub if_unit : (ℕ → Bool) → ℕ × Role → List Role
if_unit test p = if test p.0 then p.1 ∷ [] else []

unfoldable pub in_units : (ℕ → Bool) → List Role → List Role
in_units test l = flat_map (if_unit test) (placed l)

-- the data OBUs of a unit, and those of the units before it
unfoldable pub in_unit : ℕ → List Role → List Role
in_unit u l = in_units (λ v. v == u) l

unfoldable pub before_unit : ℕ → List Role → List Role
before_unit u l = in_units (λ v. nat_lt v u) l

-- the substreams of a unit's frames, these frames' trims, and the ids of its blocks
unfoldable pub streams_in : ℕ → List Role → List ℕ
streams_in u l = flat_map stream_of (in_unit u l)

unfoldable pub trims_in : ℕ → List Role → List Trim
trims_in u l = flat_map trim_of (in_unit u l)

unfoldable pub trims_before : ℕ → List Role → List Trim
trims_before u l = flat_map trim_of (before_unit u l)

unfoldable pub blocks_in : ℕ → List Role → List ℕ
blocks_in u l = map (λ b. b.id) (flat_map block_of (in_unit u l))

-- a frame of each substream is in the unit
unfoldable pub is_complete : ℕ → List Role → Bool
is_complete u l = list_all (contains (streams_in u l)) (substreams l)

-- ---- the time of blocks, in ticks: a unit lasts as many as the frame length

-- A block lasts as long as it says or, where it does not, as its definition says.
abbrev pub defined_duration : Option Shape → ℕ
defined_duration (Some (MixGain rate (Some fixed))) = fixed.duration
defined_duration _ = 0

abbrev pub duration_by : Option Shape → Option ℕ → ℕ
duration_by shape (Some duration) = duration
duration_by shape None = defined_duration shape

unfoldable pub duration_of : List Role → BlockRole → ℕ
duration_of l b = duration_by (shape_of (definitions l) b.id) b.duration

-- Blocks of one id, as units and durations: each starts with its unit or where the one before it ends, whichever is later.
abbrev pub block_in : List Role → ℕ → ℕ × Role → List (ℕ × ℕ)
block_in l id (u, ParameterBlock b) = if b.id == id then (u, duration_of l b) ∷ [] else []
block_in l id (u, _) = []

abbrev pub end_after : ℕ → ℕ → ℕ × ℕ → ℕ
end_after length end block = max (block.0 * length) end + block.1

-- where the last block of the id ends, 0 where there is none
unfoldable pub block_end : ℕ → List Role → ℕ
block_end id l = fold (end_after (frame_length l)) 0 (flat_map (block_in l id) (placed l))

-- ---- whole lists

-- the number of the open unit: that of a frame or a block that comes next
unfoldable pub open_unit : List Role → ℕ
open_unit l = if is_delimited l then delimiters l - 1 else least (map (frames_of l) (substreams l))

-- the number of units that are begun: one more than the number of the last data OBU's unit
unfoldable pub unit_count : List Role → ℕ
unit_count l = fold (λ n p. p.0 + 1) 0 (placed l)

-- the number of the unit of OBU i of a list, where it is a data OBU
abbrev pub unit_at : List Role → ℕ → Option Role → Option ℕ
unit_at l i None = None
unit_at l i (Some o) = if is_data o then Some (unit_after (take i l) o) else None

unfoldable pub unit_of : List Role → ℕ → Option ℕ
unit_of l i = unit_at l i (slice_get l i)
