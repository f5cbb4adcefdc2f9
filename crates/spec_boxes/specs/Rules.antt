-- The rules on a file in their order, each test with its place and its fault.
use Rattle.std.specs.Prelude.{ℕ, ◌+◌, ◌-◌, ◌*◌, ◌==◌, nat_lt, nat_le, Bool, true, false, not, ◌&&◌, ◌||◌, if◌then◌else◌, List, [], ◌∷◌, ◌++◌, length, get_or, find, filter, map, sum, slice_index, Option, Some, None, is_some, is_none, Result, Ok, Err}
use Rattle.spec_boxes.specs.declared.kinds.TheConstants.{MOOV, MOOF, MVEX, TRAK, MDIA, MINF, STBL, STSD, STTS, STSC, STSZ, STCO, CO64, IAMF, EDTS, ELST, IACB}
use Rattle.spec_boxes.specs.declared.fault.BoxFault.{BoxFault}
use Rattle.spec_boxes.specs.declared.fault.BoxFault.TheVariants.{Missing, Twice, Table, Version, Descriptions, Chunk, Config, Roll, Sample, Fragmented}
use Rattle.spec_boxes.specs.declared.fault.BoxRefusal.{BoxRefusal}
use Rattle.spec_boxes.specs.Bytes.{word_at}
use Rattle.spec_boxes.specs.Boxes.{Box, tiles, boxes_in}
use Rattle.spec_boxes.specs.Parts.{kind_is, either_is, children}
use Rattle.spec_boxes.specs.Paths.{Way, by_entry}
use Rattle.spec_boxes.specs.Tables.{payload, TableBoxes, words, SampleSizes, size_list, ChunkPlaces, is_wide, place_list, Run, runs_of, rise_after, chunk_counts, all_first}
use Rattle.spec_boxes.specs.TablesAt.{Tables}
use Rattle.spec_boxes.specs.Spans.{Span, in_file}
use Rattle.spec_boxes.specs.Groups.{group_fits}
use Rattle.spec_boxes.specs.ObuLists.{are_obus, in_sample}
use Rattle.spec_boxes.specs.Configuration.{config_in}
use Rattle.spec_boxes.specs.Tracks.{sample_bytes, spans_of, Track}

-- A test: nothing where it holds, and else where it fails, and why.
abbrev pub Test : Type 0
Test = Option BoxRefusal

abbrev pub test : Bool → ℕ → BoxFault → Test
test holds at fault = if holds then None else Some (record { at = at; fault = fault })

-- the first that fails
abbrev pub first_of : List Test → Test
first_of [] = None
first_of (None ∷ ts) = first_of ts
first_of (Some e ∷ ts) = Some e

-- a value, where no test fails
abbrev pub answer : {A : Type 0} → Test → A → Result A BoxRefusal
answer None x = Ok x
answer (Some e) x = Err e

abbrev pub fault_in : {A : Type 0} → Result A BoxRefusal → Test
fault_in (Ok x) = None
fault_in (Err e) = Some e

-- The parts that the tests speak of, also where an earlier test fails.
abbrev pub nothing : Box
nothing = record { at = 0; start = 0; end = 0; kind = [] }

abbrev pub or_nothing : Option Box → Box
or_nothing None = nothing
or_nothing (Some b) = b

-- the first of two kinds
abbrev pub the : List ℕ → List ℕ → List Box → Box
the kind other bs = get_or (filter (either_is kind other) bs) 0 nothing

-- the boxes that cover a box's payload from a byte of it on, and that they do
abbrev pub within : List ℕ → Box → ℕ → List Box
within f b skip = boxes_in (children f b skip)

abbrev pub tiling : List ℕ → Box → ℕ → Test
tiling f b skip = fault_in (children f b skip)

-- of the boxes of two kinds there is one
abbrev pub once_of : ℕ → List ℕ → List Box → List Test
once_of place kind them = test (nat_le 1 (length them)) place (Missing kind) ∷ test (nat_le (length them) 1) (get_or them 1 nothing).at (Twice kind) ∷ []

abbrev pub once : ℕ → List ℕ → List ℕ → List Box → List Test
once place kind other bs = once_of place kind (filter (either_is kind other) bs)

-- no box is of the kind
abbrev pub absent : List ℕ → List Box → Test
absent kind bs = test (is_none (find (kind_is kind) bs)) (or_nothing (find (kind_is kind) bs)).at Fragmented

-- a test that only whole files have to pass
abbrev pub only : Bool → Test → Test
only true t = t
only false t = None

-- what holds of the first box of a kind, where there is one
abbrev pub on_box : {A : Type 0} → A → Option Box → (Box → A) → A
on_box otherwise None next = otherwise
on_box otherwise (Some b) next = next b

abbrev pub first_in : {A : Type 0} → A → List ℕ → List Box → (Box → A) → A
first_in otherwise kind bs next = on_box otherwise (find (kind_is kind) bs) next

abbrev pub on_way : {A : Type 0} → A → Option Way → (Way → A) → A
on_way otherwise None next = otherwise
on_way otherwise (Some w) next = next w

abbrev pub or_no_way : Option Way → Way
or_no_way None = record { trak = nothing; in_trak = []; stbl = nothing; in_stbl = []; entry = nothing }
or_no_way (Some w) = w

-- Rule 1. The top boxes tile the file, one is `moov`, and none is `moof`.
abbrev pub top : List ℕ → List Box
top f = boxes_in (tiles true f 0 (length f))

abbrev pub moov : List ℕ → Box
moov f = the MOOV MOOV (top f)

abbrev pub top_rules : Bool → List ℕ → List Test
top_rules whole f = fault_in (tiles true f 0 (length f)) ∷ (once 0 MOOV MOOV (top f) ++ (only whole (absent MOOF (top f)) ∷ []))

-- Rule 2. The boxes of `moov` tile it, none is `mvex`, those on the way through each track tile, and one is an audio track.
abbrev pub walk_tests : List ℕ → Box → List Test
walk_tests f trak =
    tiling f trak 0 ∷ first_in [] MDIA (within f trak 0) (λ mdia.
    tiling f mdia 0 ∷ first_in [] MINF (within f mdia 0) (λ minf.
    tiling f minf 0 ∷ first_in [] STBL (within f minf 0) (λ stbl.
    tiling f stbl 0 ∷ first_in [] STSD (within f stbl 0) (λ stsd.
    if nat_lt (stsd.end - stsd.start) 8 then [] else tiling f stsd 8 ∷ []))))

abbrev pub path : List ℕ → Box → Option Way
path f trak =
    first_in None MDIA (within f trak 0) (λ mdia.
    first_in None MINF (within f mdia 0) (λ minf.
    first_in None STBL (within f minf 0) (λ stbl.
    first_in None STSD (within f stbl 0) (λ stsd.
    if nat_lt (stsd.end - stsd.start) 8 then None else by_entry trak (within f trak 0) stbl (within f stbl 0) (within f stsd 8)))))

-- up to the first audio track
abbrev pub walks : List ℕ → List Box → List Test
walks f [] = []
walks f (b ∷ bs) = if kind_is TRAK b then walk_tests f b ++ on_way (walks f bs) (path f b) (λ w. []) else walks f bs

abbrev pub audio : List ℕ → List Box → Option Way
audio f [] = None
audio f (b ∷ bs) = if kind_is TRAK b then on_way (audio f bs) (path f b) (λ w. Some w) else audio f bs

abbrev pub in_moov : List ℕ → List Box
in_moov f = within f (moov f) 0

abbrev pub way_rules : Bool → List ℕ → List Test
way_rules whole f = tiling f (moov f) 0 ∷ only whole (absent MVEX (in_moov f)) ∷ (walks f (in_moov f) ++ (test (is_some (audio f (in_moov f))) (moov f).at (Missing IAMF) ∷ []))

-- Rule 3. Each table stands once.
abbrev pub tables_among : List Box → TableBoxes
tables_among bs = record { stsd = the STSD STSD bs; stts = the STTS STTS bs; stsc = the STSC STSC bs; stsz = the STSZ STSZ bs; chunks = the STCO CO64 bs }

abbrev pub table_rules : ℕ → List Box → List Test
table_rules place bs = once place STSD STSD bs ++ (once place STTS STTS bs ++ (once place STSC STSC bs ++ (once place STSZ STSZ bs ++ once place STCO CO64 bs)))

-- Rule 4. The versions are 0.
abbrev pub room : Box → List ℕ → ℕ → Test
room b p bytes = test (nat_le bytes (length p)) b.at (Table b.kind)

abbrev pub version_is_0 : List ℕ → Box → List Test
version_is_0 f b = room b (payload f b) 4 ∷ test (slice_index (payload f b) 0 == 0) b.at (Version b.kind) ∷ []

abbrev pub version_rules : List ℕ → TableBoxes → List Test
version_rules f t = version_is_0 f t.stsd ++ (version_is_0 f t.stts ++ (version_is_0 f t.stsc ++ (version_is_0 f t.stsz ++ version_is_0 f t.chunks)))

-- Rule 5. There is one description.
abbrev pub description_rules : List ℕ → TableBoxes → List Test
description_rules f t = test (word_at (payload f t.stsd) 4 == 1) t.stsd.at Descriptions ∷ []

-- Rule 6. The tables have room for their counts, and agree.
abbrev pub sizes : Box → List ℕ → SampleSizes
sizes b p = record { count = word_at p 8; sizes = size_list (word_at p 4) (word_at p 8) p }

abbrev pub size_tests : Box → List ℕ → List Test
size_tests b p = room b p 12 ∷ test (not (word_at p 4 == 0) || nat_le (12 + 4 * word_at p 8) (length p)) b.at (Table b.kind) ∷ []

abbrev pub places : Box → List ℕ → ChunkPlaces
places b p = record { count = word_at p 4; places = place_list (is_wide b) (word_at p 4) p }

abbrev pub place_tests : Box → List ℕ → List Test
place_tests b p = room b p 8 ∷ room b p (8 + (if is_wide b then 8 else 4) * word_at p 4) ∷ []

-- the run counts have n samples
abbrev pub time_tests : Box → List ℕ → ℕ → List Test
time_tests b p n = room b p 8 ∷ room b p (8 + 8 * word_at p 4) ∷ test (sum (words 8 (word_at p 4) p 8) == n) b.at (Table b.kind) ∷ []

-- where there are chunks there is a run; runs begin with chunk 1, rise, end within the chunks and have samples; all chunks together have n
abbrev pub runs_fit : List Run → ℕ → ℕ → Bool
runs_fit [] m n = (m == 0) && (n == 0)
runs_fit (r ∷ rs) m n = (r.first == 1) && (nat_le r.first m && (nat_lt 0 r.each && (rise_after r.first rs m && (sum (chunk_counts (r ∷ rs) m) == n))))

abbrev pub runs : List ℕ → List Run
runs p = runs_of (word_at p 4) p 8

abbrev pub run_tests : Box → List ℕ → ℕ → ℕ → List Test
run_tests b p m n = room b p 8 ∷ room b p (8 + 12 * word_at p 4) ∷ test (runs_fit (runs p) m n) b.at (Table b.kind) ∷ test (all_first (runs p)) b.at Descriptions ∷ []

abbrev pub tables : List ℕ → TableBoxes → Tables
tables f t = record { boxes = t; sizes = sizes t.stsz (payload f t.stsz); places = places t.chunks (payload f t.chunks); runs = runs (payload f t.stsc) }

abbrev pub count_rules : List ℕ → TableBoxes → List Test
count_rules f t =
    size_tests t.stsz (payload f t.stsz) ++ (place_tests t.chunks (payload f t.chunks) ++ (time_tests t.stts (payload f t.stts) (tables f t).sizes.count
    ++ run_tests t.stsc (payload f t.stsc) (tables f t).places.count (tables f t).sizes.count))

-- Rule 7. The first edit list, where there is one, has a known version and room for its entries.
abbrev pub edit_tests : Box → List ℕ → List Test
edit_tests b p =
    test (nat_le 4 (length p)) b.at (Table ELST) ∷ test (nat_le (slice_index p 0) 1) b.at (Version ELST) ∷ test (nat_le 8 (length p)) b.at (Table ELST)
    ∷ test (nat_le (8 + (if slice_index p 0 == 1 then 20 else 12) * word_at p 4) (length p)) b.at (Table ELST) ∷ []

abbrev pub edit_rules : List ℕ → List Box → List Test
edit_rules f in_trak = first_in [] EDTS in_trak (λ edts. tiling f edts 0 ∷ first_in [] ELST (within f edts 0) (λ elst. edit_tests elst (payload f elst)))

-- Rule 8. Each roll group reads.
abbrev pub roll_rules : List ℕ → ℕ → List Box → List Test
roll_rules f n in_stbl = map (λ b. test (group_fits n b (payload f b)) b.at Roll) in_stbl

-- Rule 9. The entry has room for its fields, its boxes tile the rest, and one of them is a configuration.
abbrev pub iacb : List ℕ → Box → Box
iacb f entry = the IACB IACB (within f entry 28)

abbrev pub config_of : Result (List ℕ) BoxRefusal → List ℕ
config_of (Ok bytes) = bytes
config_of (Err e) = []

abbrev pub config : List ℕ → Box → List ℕ
config f entry = config_of (config_in (iacb f entry) (payload f (iacb f entry)))

abbrev pub config_rules : List ℕ → Box → List Test
config_rules f entry =
    test (nat_le 28 (entry.end - entry.start)) entry.at Config ∷ tiling f entry 28
    ∷ (once entry.at IACB IACB (within f entry 28) ++ (fault_in (config_in (iacb f entry) (payload f (iacb f entry))) ∷ []))

-- Rule 10. Each sample lies in the file, and all together have no more bytes than it.
abbrev pub bytes_in : List Span → ℕ
bytes_in ss = sum (map (λ s. s.1) ss)

abbrev pub chunk_rules : List ℕ → Box → List Span → List Test
chunk_rules f chunks ss = test (in_file (length f) ss) chunks.at Chunk ∷ test (nat_le (bytes_in ss) (length f)) chunks.at Chunk ∷ []

-- Rule 11. Each sample is OBUs without a delimiter.
abbrev pub sample_rules : List ℕ → List Span → List Test
sample_rules f ss = map (λ s. test (are_obus in_sample (sample_bytes f s)) s.0 Sample) ss

-- The rules from the third on, of the way to a track.
abbrev pub tables_on : List ℕ → Way → Tables
tables_on f w = tables f (tables_among w.in_stbl)

abbrev pub rules_on : List ℕ → Way → List Test
rules_on f w =
    table_rules w.stbl.at w.in_stbl ++ (version_rules f (tables_among w.in_stbl) ++ (description_rules f (tables_among w.in_stbl) ++ (count_rules f (tables_among w.in_stbl)
    ++ (edit_rules f w.in_trak ++ (roll_rules f (tables_on f w).sizes.count w.in_stbl ++ (config_rules f w.entry
    ++ (chunk_rules f (tables_among w.in_stbl).chunks (spans_of (tables_on f w)) ++ sample_rules f (spans_of (tables_on f w)))))))))

abbrev pub track_on : List ℕ → Way → Track
track_on f w = record { trak = w.trak; config = config f w.entry; samples = map (sample_bytes f) (spans_of (tables_on f w)) }

abbrev pub way : List ℕ → Way
way f = or_no_way (audio f (in_moov f))

-- All rules, of a whole file or of one that may be in fragments.
unfoldable pub rules : Bool → List ℕ → List Test
rules whole f = top_rules whole f ++ (way_rules whole f ++ rules_on f (way f))

-- the track that the file has where no rule fails
unfoldable pub track : List ℕ → Track
track f = track_on f (way f)
