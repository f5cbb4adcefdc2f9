-- Reading the rest of a file gives what the rules say.
use Rattle.std.proofs.Common.{◌≡◌, ℕ, ◌+◌, ◌-◌, ◌*◌, ◌<◌, ◌≤◌, Bool, true, false, nat_lt, List, [], ◌∷◌, ◌++◌, length, map, Option, Some, None, Result, Ok, refl, sym, ap, ◌∙◌, arith, append_assoc}
use Rattle.std.proofs.lemmas.List.{append-nil}
use Rattle.std.specs.Prelude.{nat_le, ◌==◌, ◌&&◌, if◌then◌else◌, find, filter, slice_index}
use Rattle.std.proofs.lemmas.Bool.{le-leb, lt-leb, leb-true, leb-false}
use Rattle.spec_boxes.specs.declared.kinds.TheConstants.{EDTS, ELST, IACB}
use Rattle.spec_boxes.specs.declared.fault.BoxFault.{BoxFault}
use Rattle.spec_boxes.specs.declared.fault.BoxFault.TheVariants.{Table, Version, Chunk, Config, Roll, Sample}
use Rattle.spec_boxes.specs.declared.fault.BoxRefusal.{BoxRefusal}
use Rattle.spec_boxes.specs.Bytes.{word_at}
use Rattle.spec_bits.specs.ByteReading.{◌>>=◌}
use Rattle.spec_boxes.specs.Boxes.{Box, ◌>>◌, refuse}
use Rattle.spec_boxes.specs.Parts.{kind_is, either_is, exactly_one, children}
use Rattle.spec_boxes.specs.Paths.{Way, found_at}
use Rattle.spec_boxes.specs.Tables.{payload}
use Rattle.spec_boxes.specs.TablesAt.{tables_at}
use Rattle.spec_boxes.specs.Spans.{Span, fit, in_file}
use Rattle.spec_boxes.specs.Edits.{elst_reads, edts_reads, edits_at}
use Rattle.spec_boxes.specs.Groups.{group_fits, groups_at}
use Rattle.spec_boxes.specs.ObuLists.{are_obus, in_sample}
use Rattle.spec_boxes.specs.Configuration.{config_in, config_at}
use Rattle.spec_boxes.specs.Tracks.{sample_bytes, samples_at, spans_of, Track, track_at}
use Rattle.spec_boxes.specs.Rules.{Test, test, first_of, answer, within, tiling, once, on_box, first_in, top_rules, way_rules, tables_among, table_rules, room, version_rules, description_rules, tables, count_rules, edit_tests, edit_rules, roll_rules, iacb, config, config_rules, bytes_in, chunk_rules, sample_rules, tables_on, rules_on, track_on, way, rules, track}
use Rattle.spec_boxes.specs.Laws.{ReadingIsRules}
use Rattle.spec_boxes.proofs.Rows.{sum-cons}
use Rattle.spec_boxes.proofs.Ruled.{then_tests, and_tests, lacks, lacks_then, covered, configured, one_of, found_is}
use Rattle.spec_boxes.proofs.RuledTables.{tables_is}

-- Rules 7 and 8.
not_more : (a b at : ℕ) (fault : BoxFault) (r : Result (Unit {0}) BoxRefusal) (ts : List Test) → r ≡ answer (first_of ts) tt → (if nat_lt b a then refuse at fault else r) ≡ answer (first_of (test (nat_le a b) at fault ∷ ts)) tt
not_more a b at fault r ts is = lacks_then b a at fault r ts tt is

elst_is : (f : List ℕ) (b : Box) → elst_reads f (Some b) ≡ answer (first_of (edit_tests b (payload f b))) tt
elst_is f b =
    let p = payload f b in
    lacks_then (length p) 4 b.at (Table ELST) _ _ tt
    (lacks_then 1 (slice_index p 0) b.at (Version ELST) _ _ tt
    (lacks_then (length p) 8 b.at (Table ELST) _ _ tt
    (lacks (length p) (8 + (if slice_index p 0 == 1 then 20 else 12) * word_at p 4) b.at (Table ELST) tt)))

elst_by : (f : List ℕ) (o : Option Box) → elst_reads f o ≡ answer (first_of (on_box [] o (λ elst. edit_tests elst (payload f elst)))) tt
elst_by f None = refl
elst_by f (Some b) = elst_is f b

edts_by : (f : List ℕ) (o : Option Box) → edts_reads f o ≡ answer (first_of (on_box [] o (λ edts. tiling f edts 0 ∷ first_in [] ELST (within f edts 0) (λ elst. edit_tests elst (payload f elst))))) tt
edts_by f None = refl
edts_by f (Some b) = then_tests (children f b 0) _ (tiling f b 0 ∷ []) _ (within f b 0) tt (covered (children f b 0)) (elst_by f (find (kind_is ELST) (within f b 0)))

edits_is : (f : List ℕ) (in_trak : List Box) → edits_at f in_trak ≡ answer (first_of (edit_rules f in_trak)) tt
unfolding edits_at
edits_is f in_trak = edts_by f (find (kind_is EDTS) in_trak)

if_more : (t : Bool) (at : ℕ) (fault : BoxFault) (r : Result (Unit {0}) BoxRefusal) (ts : List Test) → r ≡ answer (first_of ts) tt → (if t then r else refuse at fault) ≡ answer (first_of (test t at fault ∷ ts)) tt
if_more true at fault r ts is = is
if_more false at fault r ts is = refl

groups_is : (f : List ℕ) (n : ℕ) (bs : List Box) → groups_at f n bs ≡ answer (first_of (roll_rules f n bs)) tt
groups_is f n [] = refl
groups_is f n (b ∷ bs) = if_more (group_fits n b (payload f b)) b.at Roll (groups_at f n bs) (roll_rules f n bs) (groups_is f n bs)

-- Rule 9.
config_is : (f : List ℕ) (entry : Box) → config_at f entry ≡ answer (first_of (config_rules f entry)) (config f entry)
unfolding config_at
config_is f entry =
    lacks_then (entry.end - entry.start) 28 entry.at Config _ _ (config f entry)
    (then_tests (children f entry 28) _ (tiling f entry 28 ∷ []) _ (within f entry 28) (config f entry) (covered (children f entry 28))
    (then_tests (exactly_one entry.at IACB (filter (either_is IACB IACB) (within f entry 28))) _ (once entry.at IACB IACB (within f entry 28)) _ (iacb f entry) (config f entry) (one_of entry.at IACB (filter (either_is IACB IACB) (within f entry 28)))
    (configured (config_in (iacb f entry) (payload f (iacb f entry))))))

-- Rules 10 and 11.
both_le_by : (t : Bool) (k room more : ℕ) → nat_le k room ≡ t → (t && nat_le more (room - k)) ≡ nat_le (k + more) room
both_le_by true k room more h = let l : k ≤ room = leb-true k room h in same (nat_le more (room - k)) refl where
  same : (u : Bool) → nat_le more (room - k) ≡ u → u ≡ nat_le (k + more) room
  same true e = let a : more ≤ room - k = leb-true more (room - k) e in let l : k ≤ room = leb-true k room h in sym (le-leb (k + more) room (omega arith))
  same false e = let a : room - k < more = leb-false more (room - k) e in let l : k ≤ room = leb-true k room h in sym (lt-leb (k + more) room (omega arith))
both_le_by false k room more h = let l : room < k = leb-false k room h in sym (lt-leb (k + more) room (omega arith))

both_le : (k room more : ℕ) → (nat_le k room && nat_le more (room - k)) ≡ nat_le (k + more) room
both_le k room more = both_le_by (nat_le k room) k room more refl

swapped : (a b c d : Bool) → (a && (b && (c && d))) ≡ ((a && c) && (b && d))
swapped true true c d = refl
swapped true false true d = refl
swapped true false false d = refl
swapped false b c d = refl

-- samples fit where each lies in the file and all together have no more bytes than there is room
pub fit_is : (len room : ℕ) (ss : List Span) → fit len room ss ≡ (in_file len ss && nat_le (bytes_in ss) room)
fit_is len room [] = sym (le-leb 0 room (omega arith))
fit_is len room (s ∷ rest) =
    rw (fit_is len (room - s.1) rest, sum-cons s.1 (map (λ t. t.1) rest), ← both_le s.1 room (bytes_in rest)) (swapped (nat_le (s.0 + s.1) len) (nat_le s.1 room) (in_file len rest) (nat_le (bytes_in rest) (room - s.1)))

abbrev done : Result (Unit {0}) BoxRefusal
done = Ok tt

two_tests : (a b : Bool) (at : ℕ) (fault : BoxFault) → (if a && b then done else refuse at fault) ≡ answer (first_of (test a at fault ∷ test b at fault ∷ [])) tt
two_tests true true at fault = refl
two_tests true false at fault = refl
two_tests false b at fault = refl

fits_is : (f : List ℕ) (chunks : Box) (ss : List Span) → (if fit (length f) (length f) ss then done else refuse chunks.at Chunk) ≡ answer (first_of (chunk_rules f chunks ss)) tt
fits_is f chunks ss = rw (fit_is (length f) (length f) ss) (two_tests (in_file (length f) ss) (nat_le (bytes_in ss) (length f)) chunks.at Chunk)

samples_is : (f : List ℕ) (ss : List Span) → samples_at f ss ≡ answer (first_of (sample_rules f ss)) tt
samples_is f [] = refl
samples_is f (s ∷ rest) = if_more (are_obus in_sample (sample_bytes f s)) s.0 Sample (samples_at f rest) (sample_rules f rest) (samples_is f rest)

-- All rules.
abbrev rest_of_track : List ℕ → Way → Result Track BoxRefusal
rest_of_track f way = do
  tables ← tables_at f way.stbl.at way.in_stbl
  edits_at f way.in_trak
  groups_at f tables.sizes.count way.in_stbl
  config ← config_at f way.entry
  if fit (length f) (length f) (spans_of tables) then Ok tt else refuse tables.boxes.chunks.at Chunk
  samples_at f (spans_of tables)
  Ok (record { trak = way.trak; config = config; samples = map (sample_bytes f) (spans_of tables) })

abbrev early : List ℕ → Way → List Test
early f w = table_rules w.stbl.at w.in_stbl ++ (version_rules f (tables_among w.in_stbl) ++ (description_rules f (tables_among w.in_stbl) ++ count_rules f (tables_among w.in_stbl)))

abbrev late : List ℕ → Way → List Test
late f w = edit_rules f w.in_trak ++ (roll_rules f (tables_on f w).sizes.count w.in_stbl ++ (config_rules f w.entry ++ (chunk_rules f (tables_among w.in_stbl).chunks (spans_of (tables_on f w)) ++ sample_rules f (spans_of (tables_on f w)))))

regroup : (a b c d e : List Test) → (a ++ (b ++ (c ++ d))) ++ e ≡ a ++ (b ++ (c ++ (d ++ e)))
regroup a b c d e = simp append_assoc

last : (f : List ℕ) (w : Way) (ss : List Span) → (samples_at f ss >> Ok (track_on f w)) ≡ answer (first_of (sample_rules f ss)) (track_on f w)
last f w ss = and_tests (samples_at f ss) (Ok (track_on f w)) (sample_rules f ss) [] (track_on f w) (samples_is f ss) refl ∙ ap (λ (ts : List Test). answer (first_of ts) (track_on f w)) (append-nil (sample_rules f ss))

rest_is : (f : List ℕ) (w : Way) → rest_of_track f w ≡ answer (first_of (rules_on f w)) (track_on f w)
rest_is f w =
    let ss : List Span = spans_of (tables_on f w) in
    let chunks : Box = (tables_among w.in_stbl).chunks in
    then_tests (tables_at f w.stbl.at w.in_stbl) _ (early f w) (late f w) (tables_on f w) (track_on f w) (tables_is f w.stbl.at w.in_stbl)
    (and_tests (edits_at f w.in_trak) _ (edit_rules f w.in_trak) _ (track_on f w) (edits_is f w.in_trak)
    (and_tests (groups_at f (tables_on f w).sizes.count w.in_stbl) _ (roll_rules f (tables_on f w).sizes.count w.in_stbl) _ (track_on f w) (groups_is f (tables_on f w).sizes.count w.in_stbl)
    (then_tests (config_at f w.entry) _ (config_rules f w.entry) _ (config f w.entry) (track_on f w) (config_is f w.entry)
    (and_tests (if fit (length f) (length f) ss then done else refuse chunks.at Chunk) _ (chunk_rules f chunks ss) _ (track_on f w) (fits_is f chunks ss)
    (last f w ss)))))
    ∙ ap (λ (ts : List Test). answer (first_of ts) (track_on f w)) (regroup (table_rules w.stbl.at w.in_stbl) (version_rules f (tables_among w.in_stbl)) (description_rules f (tables_among w.in_stbl)) (count_rules f (tables_among w.in_stbl)) (late f w))

pub track_is : ReadingIsRules
unfolding track_at rules track
track_is whole f =
    then_tests (found_at whole f) (rest_of_track f) (top_rules whole f ++ way_rules whole f) (rules_on f (way f)) (way f) (track_on f (way f)) (found_is whole f) (rest_is f (way f))
    ∙ ap (λ (ts : List Test). answer (first_of ts) (track_on f (way f))) (append_assoc (top_rules whole f) (way_rules whole f) (rules_on f (way f)))
