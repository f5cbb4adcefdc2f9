-- The tables of a track: where they are, their versions, and what their bytes say.
use Rattle.std.specs.Prelude.{ℕ, zero, suc, ◌+◌, ◌-◌, ◌*◌, ◌==◌, nat_lt, nat_le, Bool, true, ◌&&◌, if◌then◌else◌, List, [], ◌∷◌, ◌++◌, length, filter, replicate, sum, slice_index, slice_range, Result, Ok}
use Rattle.spec_boxes.specs.declared.kinds.TheConstants.{STSD, STTS, STSC, STSZ, STCO, CO64}
use Rattle.spec_boxes.specs.declared.fault.BoxFault.TheVariants.{Table, Version, Descriptions}
use Rattle.spec_boxes.specs.declared.fault.BoxRefusal.{BoxRefusal}
use Rattle.spec_boxes.specs.Bytes.{word_at, long_at}
use Rattle.spec_bits.specs.ByteReading.{◌>>=◌}
use Rattle.spec_boxes.specs.Boxes.{Box, refuse, ◌>>◌}
use Rattle.spec_boxes.specs.Parts.{kind_is, either_is, exactly_one}

-- the bytes of a box after its header
abbrev pub payload : List ℕ → Box → List ℕ
payload f b = slice_range f b.start b.end

pub record TableBoxes : Type 0 where
  pub stsd : Box
  pub stts : Box
  pub stsc : Box
  pub stsz : Box
  pub chunks : Box

-- each stands once
unfoldable pub tables_in : ℕ → List Box → Result TableBoxes BoxRefusal
tables_in place bs = do
  stsd ← exactly_one place STSD (filter (either_is STSD STSD) bs)
  stts ← exactly_one place STTS (filter (either_is STTS STTS) bs)
  stsc ← exactly_one place STSC (filter (either_is STSC STSC) bs)
  stsz ← exactly_one place STSZ (filter (either_is STSZ STSZ) bs)
  chunks ← exactly_one place STCO (filter (either_is STCO CO64) bs)
  Ok (record { stsd = stsd; stts = stts; stsc = stsc; stsz = stsz; chunks = chunks })

-- the box b, whose payload is p, has so many bytes in it
abbrev pub has_room : Box → List ℕ → ℕ → Result (Unit {0}) BoxRefusal
has_room b p bytes = if nat_lt (length p) bytes then refuse b.at (Table b.kind) else Ok tt

abbrev pub has_version : Box → List ℕ → Result (Unit {0}) BoxRefusal
has_version b p = has_room b p 4 >> (if slice_index p 0 == 0 then Ok tt else refuse b.at (Version b.kind))

-- so many numbers of four bytes, each some bytes after the last
abbrev pub words : ℕ → ℕ → List ℕ → ℕ → List ℕ
words step zero p at = []
words step (suc n) p at = word_at p at ∷ words step n p (at + step)

-- so many numbers of eight bytes
abbrev pub longs : ℕ → List ℕ → ℕ → List ℕ
longs zero p at = []
longs (suc n) p at = long_at p at ∷ longs n p (at + 8)

-- how many samples there are, and their sizes
pub record SampleSizes : Type 0 where
  pub count : ℕ
  pub sizes : List ℕ

abbrev pub size_list : ℕ → ℕ → List ℕ → List ℕ
size_list common n p = if common == 0 then words 4 n p 12 else replicate n common

unfoldable pub sizes_at : Box → List ℕ → Result SampleSizes BoxRefusal
sizes_at b p =
    has_room b p 12 >> ((if word_at p 4 == 0 then has_room b p (12 + 4 * word_at p 8) else Ok tt)
    >> Ok (record { count = word_at p 8; sizes = size_list (word_at p 4) (word_at p 8) p }))

pub record ChunkPlaces : Type 0 where
  pub count : ℕ
  pub places : List ℕ

abbrev pub is_wide : Box → Bool
is_wide b = kind_is CO64 b

abbrev pub place_list : Bool → ℕ → List ℕ → List ℕ
place_list wide m p = if wide then longs m p 8 else words 4 m p 8

unfoldable pub places_at : Box → List ℕ → Result ChunkPlaces BoxRefusal
places_at b p =
    has_room b p 8 >> (has_room b p (8 + (if is_wide b then 8 else 4) * word_at p 4)
    >> Ok (record { count = word_at p 4; places = place_list (is_wide b) (word_at p 4) p }))

unfoldable pub stts_at : Box → List ℕ → ℕ → Result (Unit {0}) BoxRefusal
stts_at b p samples =
    has_room b p 8 >> (has_room b p (8 + 8 * word_at p 4)
    >> (if sum (words 8 (word_at p 4) p 8) == samples then Ok tt else refuse b.at (Table b.kind)))

-- a run of chunks: the first, how many samples each has, and their description
pub record Run : Type 0 where
  pub first : ℕ
  pub each : ℕ
  pub description : ℕ

abbrev pub runs_of : ℕ → List ℕ → ℕ → List Run
runs_of zero p at = []
runs_of (suc n) p at = record { first = word_at p at; each = word_at p (at + 4); description = word_at p (at + 8) } ∷ runs_of n p (at + 12)

-- the chunks from `first` on have `each` samples, until the next run, and the last run ends with chunk m
abbrev pub counts_from : ℕ → ℕ → List Run → ℕ → List ℕ
counts_from first each [] m = replicate (m + 1 - first) each
counts_from first each (r ∷ rs) m = replicate (r.first - first) each ++ counts_from r.first r.each rs m

-- how many samples each chunk has
abbrev pub chunk_counts : List Run → ℕ → List ℕ
chunk_counts [] m = []
chunk_counts (r ∷ rs) m = counts_from r.first r.each rs m

-- the runs rise after one that begins at a chunk
abbrev pub rise_after : ℕ → List Run → ℕ → Bool
rise_after before [] m = true
rise_after before (r ∷ rs) m = nat_lt before r.first && (nat_le r.first m && (nat_lt 0 r.each && rise_after r.first rs m))

-- how many samples the chunks have together
abbrev pub total_from : ℕ → ℕ → List Run → ℕ → ℕ
total_from first each [] m = (m + 1 - first) * each
total_from first each (r ∷ rs) m = (r.first - first) * each + total_from r.first r.each rs m

abbrev pub agree : List Run → ℕ → ℕ → Bool
agree [] m samples = (m == 0) && (samples == 0)
agree (r ∷ rs) m samples = (r.first == 1) && (nat_le r.first m && (nat_lt 0 r.each && (rise_after r.first rs m && (total_from r.first r.each rs m == samples))))

abbrev pub all_first : List Run → Bool
all_first [] = true
all_first (r ∷ rs) = (r.description == 1) && all_first rs

unfoldable pub runs_at : Box → List ℕ → ℕ → ℕ → Result (List Run) BoxRefusal
runs_at b p m samples =
    has_room b p 8 >> (has_room b p (8 + 12 * word_at p 4)
    >> (if agree (runs_of (word_at p 4) p 8) m samples
    then (if all_first (runs_of (word_at p 4) p 8) then Ok (runs_of (word_at p 4) p 8) else refuse b.at Descriptions)
    else refuse b.at (Table b.kind)))

abbrev pub one_description : Box → List ℕ → Result (Unit {0}) BoxRefusal
one_description b p = if word_at p 4 == 1 then Ok tt else refuse b.at Descriptions
