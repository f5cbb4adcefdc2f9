-- Reading the tables, the configuration and the samples gives what their rules say.
use Rattle.std.proofs.Common.{◌≡◌, ℕ, zero, suc, ◌+◌, ◌-◌, ◌*◌, Bool, true, false, List, [], ◌∷◌, ◌++◌, length, replicate, Result, Ok, refl, sym, ◌∙◌, arith, append_assoc}
use Rattle.std.proofs.lemmas.List.{append-nil}
use Rattle.std.specs.Prelude.{nat_le, not, ◌==◌, ◌||◌, if◌then◌else◌, filter, sum, slice_index}
use Rattle.std.proofs.lemmas.List.Sums.{sum_by-append}
use Rattle.spec_boxes.specs.declared.kinds.TheConstants.{STSD, STTS, STSC, STSZ, STCO, CO64}
use Rattle.spec_boxes.specs.declared.fault.BoxFault.TheVariants.{Table, Version, Descriptions}
use Rattle.spec_boxes.specs.declared.fault.BoxRefusal.{BoxRefusal}
use Rattle.spec_boxes.specs.Bytes.{word_at}
use Rattle.spec_bits.specs.ByteReading.{◌>>=◌}
use Rattle.spec_boxes.specs.Boxes.{Box, ◌>>◌, refuse}
use Rattle.spec_boxes.specs.Parts.{either_is, exactly_one}
use Rattle.spec_boxes.specs.Tables.{payload, TableBoxes, tables_in, has_room, has_version, words, sizes_at, is_wide, places_at, stts_at, Run, counts_from, total_from, agree, all_first, runs_at, one_description}
use Rattle.spec_boxes.specs.TablesAt.{Tables, tables_at}
use Rattle.spec_boxes.specs.Rules.{test, first_of, answer, the, once, tables_among, table_rules, room, version_is_0, version_rules, description_rules, sizes, size_tests, places, place_tests, time_tests, runs_fit, runs, run_tests, tables, count_rules}
use Rattle.spec_boxes.proofs.Rows.{sum-cons}
use Rattle.spec_boxes.proofs.Ruled.{then_tests, and_tests, holds, lacks, one_of}

-- Rules 3 to 6.
room_is : (b : Box) (p : List ℕ) (bytes : ℕ) → has_room b p bytes ≡ answer (first_of (room b p bytes ∷ [])) tt
room_is b p bytes = lacks (length p) bytes b.at (Table b.kind) tt

tables_in_is : (place : ℕ) (bs : List Box) → tables_in place bs ≡ answer (first_of (table_rules place bs)) (tables_among bs)
unfolding tables_in
tables_in_is place bs =
    then_tests (exactly_one place STSD (filter (either_is STSD STSD) bs)) _ (once place STSD STSD bs) _ (the STSD STSD bs) (tables_among bs) (one_of place STSD (filter (either_is STSD STSD) bs))
    (then_tests (exactly_one place STTS (filter (either_is STTS STTS) bs)) _ (once place STTS STTS bs) _ (the STTS STTS bs) (tables_among bs) (one_of place STTS (filter (either_is STTS STTS) bs))
    (then_tests (exactly_one place STSC (filter (either_is STSC STSC) bs)) _ (once place STSC STSC bs) _ (the STSC STSC bs) (tables_among bs) (one_of place STSC (filter (either_is STSC STSC) bs))
    (then_tests (exactly_one place STSZ (filter (either_is STSZ STSZ) bs)) _ (once place STSZ STSZ bs) _ (the STSZ STSZ bs) (tables_among bs) (one_of place STSZ (filter (either_is STSZ STSZ) bs))
    (rw (sym (append-nil (once place STCO CO64 bs))) (then_tests (exactly_one place STCO (filter (either_is STCO CO64) bs)) _ (once place STCO CO64 bs) [] (the STCO CO64 bs) (tables_among bs) (one_of place STCO (filter (either_is STCO CO64) bs)) refl)))))

version_by : (f : List ℕ) (b : Box) → has_version b (payload f b) ≡ answer (first_of (version_is_0 f b)) tt
version_by f b = and_tests (has_room b (payload f b) 4) _ (room b (payload f b) 4 ∷ []) (test (slice_index (payload f b) 0 == 0) b.at (Version b.kind) ∷ []) tt (room_is b (payload f b) 4) (holds (slice_index (payload f b) 0 == 0) b.at (Version b.kind) tt)

sizes_when : (common : Bool) (b : Box) (p : List ℕ) (bytes : ℕ) → (if common then has_room b p bytes else Ok tt) ≡ answer (first_of (test (not common || nat_le bytes (length p)) b.at (Table b.kind) ∷ [])) tt
sizes_when true b p bytes = room_is b p bytes
sizes_when false b p bytes = refl

sizes_is : (b : Box) (p : List ℕ) → sizes_at b p ≡ answer (first_of (size_tests b p)) (sizes b p)
unfolding sizes_at
sizes_is b p =
    and_tests (has_room b p 12) _ (room b p 12 ∷ []) _ (sizes b p) (room_is b p 12)
    (and_tests (if word_at p 4 == 0 then has_room b p (12 + 4 * word_at p 8) else Ok tt) (Ok (sizes b p)) (test (not (word_at p 4 == 0) || nat_le (12 + 4 * word_at p 8) (length p)) b.at (Table b.kind) ∷ []) [] (sizes b p) (sizes_when (word_at p 4 == 0) b p (12 + 4 * word_at p 8)) refl)

places_is : (b : Box) (p : List ℕ) → places_at b p ≡ answer (first_of (place_tests b p)) (places b p)
unfolding places_at
places_is b p =
    and_tests (has_room b p 8) _ (room b p 8 ∷ []) _ (places b p) (room_is b p 8)
    (and_tests (has_room b p (8 + (if is_wide b then 8 else 4) * word_at p 4)) (Ok (places b p)) (room b p (8 + (if is_wide b then 8 else 4) * word_at p 4) ∷ []) [] (places b p) (room_is b p (8 + (if is_wide b then 8 else 4) * word_at p 4)) refl)

times_is : (b : Box) (p : List ℕ) (n : ℕ) → stts_at b p n ≡ answer (first_of (time_tests b p n)) tt
unfolding stts_at
times_is b p n =
    and_tests (has_room b p 8) _ (room b p 8 ∷ []) _ tt (room_is b p 8)
    (and_tests (has_room b p (8 + 8 * word_at p 4)) _ (room b p (8 + 8 * word_at p 4) ∷ []) _ tt (room_is b p (8 + 8 * word_at p 4))
    (holds (sum (words 8 (word_at p 4) p 8) == n) b.at (Table b.kind) tt))

sum-replicate : (n x : ℕ) → sum (replicate n x) ≡ n * x
sum-replicate zero x = omega arith
sum-replicate (suc n) x = sum-cons x (replicate n x) ∙ omega (arith, sum-replicate n x)

-- the samples of all chunks, chunk by chunk
pub sum-counts : (first each : ℕ) (rs : List Run) (m : ℕ) → sum (counts_from first each rs m) ≡ total_from first each rs m
sum-counts first each [] m = sum-replicate (m + 1 - first) each
sum-counts first each (r ∷ rs) m = sum_by-append (λ x. x) (replicate (r.first - first) each) (counts_from r.first r.each rs m) ∙ omega (arith, sum-replicate (r.first - first) each, sum-counts r.first r.each rs m)

pub agree_is : (rs : List Run) (m n : ℕ) → agree rs m n ≡ runs_fit rs m n
agree_is [] m n = refl
agree_is (r ∷ rs) m n = rw (sum-counts r.first r.each rs m) refl

runs_by : (fine : Bool) (first : Bool) (b : Box) (rs : List Run) → (if fine then (if first then Ok rs else refuse b.at Descriptions) else refuse b.at (Table b.kind)) ≡ answer (first_of (test fine b.at (Table b.kind) ∷ test first b.at Descriptions ∷ [])) rs
runs_by true true b rs = refl
runs_by true false b rs = refl
runs_by false first b rs = refl

runs_is : (b : Box) (p : List ℕ) (m n : ℕ) → runs_at b p m n ≡ answer (first_of (run_tests b p m n)) (runs p)
unfolding runs_at
runs_is b p m n =
    and_tests (has_room b p 8) _ (room b p 8 ∷ []) _ (runs p) (room_is b p 8)
    (and_tests (has_room b p (8 + 12 * word_at p 4)) _ (room b p (8 + 12 * word_at p 4) ∷ []) _ (runs p) (room_is b p (8 + 12 * word_at p 4))
    (rw (← agree_is (runs p) m n) (runs_by (agree (runs p) m n) (all_first (runs p)) b (runs p))))

described : (f : List ℕ) (t : TableBoxes) → one_description t.stsd (payload f t.stsd) ≡ answer (first_of (description_rules f t)) tt
described f t = holds (word_at (payload f t.stsd) 4 == 1) t.stsd.at Descriptions tt

-- rules 4 to 6, once the boxes are known
abbrev rest_of_tables : List ℕ → TableBoxes → Result Tables BoxRefusal
rest_of_tables f t = do
  has_version t.stsd (payload f t.stsd)
  has_version t.stts (payload f t.stts)
  has_version t.stsc (payload f t.stsc)
  has_version t.stsz (payload f t.stsz)
  has_version t.chunks (payload f t.chunks)
  one_description t.stsd (payload f t.stsd)
  sizes ← sizes_at t.stsz (payload f t.stsz)
  places ← places_at t.chunks (payload f t.chunks)
  stts_at t.stts (payload f t.stts) sizes.count
  runs ← runs_at t.stsc (payload f t.stsc) places.count sizes.count
  Ok (record { boxes = t; sizes = sizes; places = places; runs = runs })

rest_is : (f : List ℕ) (t : TableBoxes) → rest_of_tables f t ≡ answer (first_of (version_rules f t ++ (description_rules f t ++ count_rules f t))) (tables f t)
rest_is f t =
    simp append_assoc
    (and_tests (has_version t.stsd (payload f t.stsd)) _ (version_is_0 f t.stsd) _ (tables f t) (version_by f t.stsd)
    (and_tests (has_version t.stts (payload f t.stts)) _ (version_is_0 f t.stts) _ (tables f t) (version_by f t.stts)
    (and_tests (has_version t.stsc (payload f t.stsc)) _ (version_is_0 f t.stsc) _ (tables f t) (version_by f t.stsc)
    (and_tests (has_version t.stsz (payload f t.stsz)) _ (version_is_0 f t.stsz) _ (tables f t) (version_by f t.stsz)
    (and_tests (has_version t.chunks (payload f t.chunks)) _ (version_is_0 f t.chunks) _ (tables f t) (version_by f t.chunks)
    (and_tests (one_description t.stsd (payload f t.stsd)) _ (description_rules f t) _ (tables f t) (described f t)
    (then_tests (sizes_at t.stsz (payload f t.stsz)) _ (size_tests t.stsz (payload f t.stsz)) _ (tables f t).sizes (tables f t) (sizes_is t.stsz (payload f t.stsz))
    (then_tests (places_at t.chunks (payload f t.chunks)) _ (place_tests t.chunks (payload f t.chunks)) _ (tables f t).places (tables f t) (places_is t.chunks (payload f t.chunks))
    (and_tests (stts_at t.stts (payload f t.stts) (tables f t).sizes.count) _ (time_tests t.stts (payload f t.stts) (tables f t).sizes.count) _ (tables f t) (times_is t.stts (payload f t.stts) (tables f t).sizes.count)
    (rw (sym (append-nil (run_tests t.stsc (payload f t.stsc) (tables f t).places.count (tables f t).sizes.count)))
    (then_tests (runs_at t.stsc (payload f t.stsc) (tables f t).places.count (tables f t).sizes.count) _ (run_tests t.stsc (payload f t.stsc) (tables f t).places.count (tables f t).sizes.count) [] (tables f t).runs (tables f t) (runs_is t.stsc (payload f t.stsc) (tables f t).places.count (tables f t).sizes.count) refl)))))))))))

pub tables_is : (f : List ℕ) (place : ℕ) (bs : List Box) → tables_at f place bs ≡ answer (first_of (table_rules place bs ++ (version_rules f (tables_among bs) ++ (description_rules f (tables_among bs) ++ count_rules f (tables_among bs))))) (tables f (tables_among bs))
unfolding tables_at
tables_is f place bs =
    then_tests (tables_in place bs) (rest_of_tables f) (table_rules place bs) (version_rules f (tables_among bs) ++ (description_rules f (tables_among bs) ++ count_rules f (tables_among bs))) (tables_among bs) (tables f (tables_among bs)) (tables_in_is place bs) (rest_is f (tables_among bs))
