-- The tables of a written file.
use Rattle.std.proofs.Common.{◌≡◌, ℕ, ◌+◌, ◌*◌, ◌^◌, ◌<◌, ◌≤◌, Bool, true, false, nat_lt, List, [], ◌∷◌, ◌++◌, length, map, Ok, refl, sym, ap, ◌∙◌, arith, append_assoc, length-append}
use Rattle.std.specs.Prelude.{◌==◌, sum}
use Rattle.std.specs.List.{flat_map}
use Rattle.std.proofs.lemmas.Bool.{le-ltb, lt-ltb, eqb-true, eqb-false, eq-eqb}
use Rattle.spec_boxes.specs.declared.kinds.TheConstants.{STSD, STTS, STSC, STSZ, STCO, CO64}
use Rattle.spec_boxes.specs.Bytes.{word_at}
use Rattle.spec_boxes.specs.Boxes.{Box}
use Rattle.spec_boxes.specs.Tables.{payload, TableBoxes, tables_in, has_version, words, SampleSizes, sizes_at, ChunkPlaces, is_wide, places_at, stts_at, Run, runs_of, agree, all_first, runs_at, one_description}
use Rattle.spec_boxes.specs.TablesAt.{Tables, tables_at}
use Rattle.spec_files.specs.Pieces.{word, Piece, piece, written}
use Rattle.spec_files.specs.MovieFile.{Movie, count, rows, length_word, stsd_body, stsd_pieces, stts_body, stsc_body, stsz_body, stco_body, stbl_pieces}
use Rattle.spec_files.proofs.Placed.{IsBox, AreBoxes, Only, only_found, payload_is, word_read}

-- one chunk, or none where there are no units
abbrev pub chunk_count : Bool → ℕ
chunk_count true = 0
chunk_count false = 1

abbrev pub chunk_places : Bool → ℕ → List ℕ
chunk_places true place = []
chunk_places false place = place ∷ []

abbrev pub chunk_runs : Bool → ℕ → List Run
chunk_runs true n = []
chunk_runs false n = record { first = 1; each = n; description = 1 } ∷ []

abbrev pub tables_of : Movie → ℕ → TableBoxes → Tables
tables_of m place t = record {
  boxes = t;
  sizes = record { count = count m; sizes = map length m.units };
  places = record { count = chunk_count (count m == 0); places = chunk_places (count m == 0) place };
  runs = chunk_runs (count m == 0) (count m);
}

version_of : (b : Box) (rest : List ℕ) → has_version b (word 0 ++ rest) ≡ Ok tt
version_of b rest = let e : nat_lt (length (word 0 ++ rest)) 4 ≡ false = le-ltb _ _ (omega arith) in rw e refl

version_is : (f : List ℕ) (b : Box) (p : Piece) (rest : List ℕ) → IsBox f b p → p.body ≡ word 0 ++ rest → has_version b (payload f b) ≡ Ok tt
version_is f b p rest is body = rw (payload_is f b p is, body) (version_of b rest)

-- the lengths of the units
pub words_of : (us : List (List ℕ)) (pre p : List ℕ) (at : ℕ) → p ≡ pre ++ flat_map length_word us → at ≡ length pre → length (flat_map (λ u. u) us) < 2 ^ 32 → words 4 (length us) p at ≡ map length us
words_of [] pre p at is here small = refl
words_of (u ∷ us) pre p at is here small =
    let n = length-append u (flat_map (λ u. u) us) in
    let e : word_at p at ≡ length u = rw (is, here) (word_read pre (flat_map length_word us) (length u) (omega (arith, n))) in
    rw e (ap (λ (xs : List ℕ). length u ∷ xs) (words_of us (pre ++ word (length u)) p (at + 4) (is ∙ sym (append_assoc pre (word (length u)) (flat_map length_word us))) (omega (arith, length-append pre (word (length u)))) (omega (arith, n))))

pub length-words : (us : List (List ℕ)) → length (flat_map length_word us) ≡ 4 * length us
length-words [] = refl
length-words (u ∷ us) = omega (arith, length-words us)

sizes_by : (b : Box) (p : List ℕ) (n : ℕ) (sizes : List ℕ) → 12 + 4 * n ≤ length p → word_at p 4 ≡ 0 → word_at p 8 ≡ n → words 4 n p 12 ≡ sizes → sizes_at b p ≡ Ok (record { count = n; sizes = sizes })
unfolding sizes_at
sizes_by b p n sizes room common number are =
    let head : nat_lt (length p) 12 ≡ false = le-ltb _ _ (omega arith) in
    let all : nat_lt (length p) (12 + 4 * n) ≡ false = le-ltb _ _ room in
    rw (head, common, number, all, are) refl

stsz_is : (m : Movie) → stsz_body m ≡ (word 0 ++ (word 0 ++ word (count m))) ++ flat_map length_word m.units
unfolding stsz_body
stsz_is m = refl

sizes_of : (b : Box) (m : Movie) → count m < 2 ^ 32 → length (flat_map (λ u. u) m.units) < 2 ^ 32 → sizes_at b (stsz_body m) ≡ Ok (record { count = count m; sizes = map length m.units })
unfolding stsz_body
sizes_of b m few small =
    sizes_by b (stsz_body m) (count m) (map length m.units) (omega (arith, length-words m.units)) refl
    (word_read (word 0 ++ word 0) (flat_map length_word m.units) (count m) few)
    (words_of m.units (word 0 ++ (word 0 ++ word (count m))) (stsz_body m) 12 refl refl small)

places_by : (b : Box) (p : List ℕ) (n : ℕ) (places : List ℕ) → is_wide b ≡ false → 8 + 4 * n ≤ length p → word_at p 4 ≡ n → words 4 n p 8 ≡ places → places_at b p ≡ Ok (record { count = n; places = places })
unfolding places_at
places_by b p n places narrow room number are =
    let head : nat_lt (length p) 8 ≡ false = le-ltb _ _ (omega arith) in
    let all : nat_lt (length p) (8 + 4 * n) ≡ false = le-ltb _ _ room in
    rw (head, narrow, number, all, are) refl

one_word : (pre : List ℕ) (x : ℕ) → x < 2 ^ 32 → words 4 1 (pre ++ word x) (length pre) ≡ x ∷ []
one_word pre x small = ap (λ (y : ℕ). y ∷ []) (word_read pre [] x small)

places_rows : (t : Bool) (b : Box) (place : ℕ) → is_wide b ≡ false → place < 2 ^ 32 → places_at b (word 0 ++ rows t (word place)) ≡ Ok (record { count = chunk_count t; places = chunk_places t place })
places_rows true b place narrow small = places_by b (word 0 ++ word 0) 0 [] narrow (omega arith) refl refl
places_rows false b place narrow small = places_by b (word 0 ++ (word 1 ++ word place)) 1 (place ∷ []) narrow (omega arith) refl (one_word (word 0 ++ word 1) place small)

places_of : (b : Box) (m : Movie) (place : ℕ) → is_wide b ≡ false → place < 2 ^ 32 → places_at b (stco_body m place) ≡ Ok (record { count = chunk_count (count m == 0); places = chunk_places (count m == 0) place })
unfolding stco_body
places_of b m place narrow small = places_rows (count m == 0) b place narrow small

stts_by : (b : Box) (p : List ℕ) (runs n : ℕ) → 8 + 8 * runs ≤ length p → word_at p 4 ≡ runs → sum (words 8 runs p 8) ≡ n → stts_at b p n ≡ Ok tt
unfolding stts_at
stts_by b p runs n room number is =
    let head : nat_lt (length p) 8 ≡ false = le-ltb _ _ (omega arith) in
    let all : nat_lt (length p) (8 + 8 * runs) ≡ false = le-ltb _ _ room in
    rw (head, number, all, eq-eqb (sum (words 8 runs p 8)) n is) refl

stts_rows : (t : Bool) (b : Box) (n frame : ℕ) → (n == 0) ≡ t → n < 2 ^ 32 → stts_at b (word 0 ++ rows t (word n ++ word frame)) n ≡ Ok tt
stts_rows true b n frame is small = stts_by b (word 0 ++ word 0) 0 n (omega arith) refl (sym (eqb-true n 0 is))
stts_rows false b n frame is small =
    let w : word_at (word 0 ++ (word 1 ++ (word n ++ word frame))) 8 ≡ n = word_read (word 0 ++ word 1) (word frame) n small in
    stts_by b (word 0 ++ (word 1 ++ (word n ++ word frame))) 1 n (omega arith) refl (rw w (omega arith))

stts_of : (b : Box) (m : Movie) → count m < 2 ^ 32 → stts_at b (stts_body m) (count m) ≡ Ok tt
unfolding stts_body
stts_of b m small = stts_rows (count m == 0) b (count m) m.frame_length refl small

runs_by : (b : Box) (p : List ℕ) (n chunks samples : ℕ) (runs : List Run) → 8 + 12 * n ≤ length p → word_at p 4 ≡ n → runs_of n p 8 ≡ runs → agree runs chunks samples ≡ true → all_first runs ≡ true → runs_at b p chunks samples ≡ Ok runs
unfolding runs_at
runs_by b p n chunks samples runs room number are fine first =
    let head : nat_lt (length p) 8 ≡ false = le-ltb _ _ (omega arith) in
    let all : nat_lt (length p) (8 + 12 * n) ≡ false = le-ltb _ _ room in
    rw (head, number, all, are, fine, first) refl

runs_rows : (t : Bool) (b : Box) (n : ℕ) → (n == 0) ≡ t → n < 2 ^ 32 → runs_at b (word 0 ++ rows t (word 1 ++ (word n ++ word 1))) (chunk_count t) n ≡ Ok (chunk_runs t n)
runs_rows true b n is small = runs_by b (word 0 ++ word 0) 0 0 n [] (omega arith) refl refl (rw is refl) refl
runs_rows false b n is small =
    let w : word_at (word 0 ++ (word 1 ++ (word 1 ++ (word n ++ word 1)))) 12 ≡ n = word_read (word 0 ++ (word 1 ++ word 1)) (word 1) n small in
    let ne : n ≡ 0 → ⊥ = eqb-false n 0 is in
    let some : nat_lt 0 n ≡ true = lt-ltb _ _ (omega arith) in
    let one : 1 * n ≡ n = omega arith in
    runs_by b (word 0 ++ (word 1 ++ (word 1 ++ (word n ++ word 1)))) 1 1 n (chunk_runs false n) (omega arith) refl
    (ap (λ (x : ℕ). record { first = 1; each = x; description = 1 } ∷ []) w)
    (rw (some, one) (eq-eqb n n refl)) refl

runs_are : (b : Box) (m : Movie) → count m < 2 ^ 32 → runs_at b (stsc_body m) (chunk_count (count m == 0)) (count m) ≡ Ok (chunk_runs (count m == 0) (count m))
unfolding stsc_body
runs_are b m small = runs_rows (count m == 0) b (count m) refl small

stts_is : (m : Movie) → stts_body m ≡ word 0 ++ rows (count m == 0) (word (count m) ++ word m.frame_length)
unfolding stts_body
stts_is m = refl

stsc_is : (m : Movie) → stsc_body m ≡ word 0 ++ rows (count m == 0) (word 1 ++ (word (count m) ++ word 1))
unfolding stsc_body
stsc_is m = refl

stsd_is : (m : Movie) → stsd_body m ≡ word 0 ++ (word 1 ++ written (stsd_pieces m))
unfolding stsd_body
stsd_is m = refl

stco_is : (m : Movie) (place : ℕ) → stco_body m place ≡ word 0 ++ rows (count m == 0) (word place)
unfolding stco_body
stco_is m place = refl

description_of : (b : Box) (rest : List ℕ) → one_description b (word 0 ++ (word 1 ++ rest)) ≡ Ok tt
description_of b rest = refl

in_order : (f : List ℕ) (here : ℕ) (bs : List Box) (t : TableBoxes) (sizes : SampleSizes) (places : ChunkPlaces) (runs : List Run)
    → tables_in here bs ≡ Ok t → has_version t.stsd (payload f t.stsd) ≡ Ok tt → has_version t.stts (payload f t.stts) ≡ Ok tt → has_version t.stsc (payload f t.stsc) ≡ Ok tt
    → has_version t.stsz (payload f t.stsz) ≡ Ok tt → has_version t.chunks (payload f t.chunks) ≡ Ok tt → one_description t.stsd (payload f t.stsd) ≡ Ok tt
    → sizes_at t.stsz (payload f t.stsz) ≡ Ok sizes → places_at t.chunks (payload f t.chunks) ≡ Ok places → stts_at t.stts (payload f t.stts) sizes.count ≡ Ok tt
    → runs_at t.stsc (payload f t.stsc) places.count sizes.count ≡ Ok runs
    → tables_at f here bs ≡ Ok (record { boxes = t; sizes = sizes; places = places; runs = runs })
unfolding tables_at
in_order f here bs t sizes places runs a b c d e g h i j k l = rw (a, b, c, d, e, g, h, i, j, k, l) refl

pub record Tabled (f : List ℕ) (m : Movie) (place here : ℕ) (bs : List Box) : Type 0 where
  pub boxes : TableBoxes
  pub is : tables_at f here bs ≡ Ok (tables_of m place boxes)

by_boxes : (f : List ℕ) (m : Movie) (place here : ℕ) (bs : List Box)
    (stsd : Only f here STSD STSD bs (piece STSD (stsd_body m))) (stts : Only f here STTS STTS bs (piece STTS (stts_body m))) (stsc : Only f here STSC STSC bs (piece STSC (stsc_body m)))
    (stsz : Only f here STSZ STSZ bs (piece STSZ (stsz_body m))) (chunks : Only f here STCO CO64 bs (piece STCO (stco_body m place)))
    → count m < 2 ^ 32 → length (flat_map (λ u. u) m.units) < 2 ^ 32 → place < 2 ^ 32 → Tabled f m place here bs
unfolding tables_in
by_boxes f m place here bs stsd stts stsc stsz chunks few small near =
    let t : TableBoxes = record { stsd = stsd.box; stts = stts.box; stsc = stsc.box; stsz = stsz.box; chunks = chunks.box } in
    let narrow : is_wide chunks.box ≡ false = rw chunks.stands.kind refl in
    let p1 : payload f stsd.box ≡ stsd_body m = payload_is f stsd.box _ stsd.stands in
    let p2 : payload f stts.box ≡ stts_body m = payload_is f stts.box _ stts.stands in
    let p3 : payload f stsc.box ≡ stsc_body m = payload_is f stsc.box _ stsc.stands in
    let p4 : payload f stsz.box ≡ stsz_body m = payload_is f stsz.box _ stsz.stands in
    let p5 : payload f chunks.box ≡ stco_body m place = payload_is f chunks.box _ chunks.stands in
    record {
      boxes = t;
      is = in_order f here bs t (record { count = count m; sizes = map length m.units }) (record { count = chunk_count (count m == 0); places = chunk_places (count m == 0) place }) (chunk_runs (count m == 0) (count m))
          (rw (stsd.is, stts.is, stsc.is, stsz.is, chunks.is) refl)
          (version_is f stsd.box _ _ stsd.stands (stsd_is m)) (version_is f stts.box _ _ stts.stands (stts_is m)) (version_is f stsc.box _ _ stsc.stands (stsc_is m))
          (version_is f stsz.box _ _ stsz.stands (stsz_is m)) (version_is f chunks.box _ _ chunks.stands (stco_is m place))
          (rw (p1, stsd_is m) (description_of stsd.box (written (stsd_pieces m))))
          (rw p4 (sizes_of stsz.box m few small))
          (rw p5 (places_of chunks.box m place narrow near))
          (rw p2 (stts_of stts.box m few))
          (rw p3 (runs_are stsc.box m few));
    }

pub tabled : (f : List ℕ) (m : Movie) (place here : ℕ) (bs : List Box) → AreBoxes f bs (stbl_pieces m place) → count m < 2 ^ 32 → length (flat_map (λ u. u) m.units) < 2 ^ 32 → place < 2 ^ 32 → Tabled f m place here bs
tabled f m place here bs are few small near =
    by_boxes f m place here bs
    (only_found f here STSD STSD bs (stbl_pieces m place) (piece STSD (stsd_body m)) are refl)
    (only_found f here STTS STTS bs (stbl_pieces m place) (piece STTS (stts_body m)) are refl)
    (only_found f here STSC STSC bs (stbl_pieces m place) (piece STSC (stsc_body m)) are refl)
    (only_found f here STSZ STSZ bs (stbl_pieces m place) (piece STSZ (stsz_body m)) are refl)
    (only_found f here STCO CO64 bs (stbl_pieces m place) (piece STCO (stco_body m place)) are refl)
    few small near
