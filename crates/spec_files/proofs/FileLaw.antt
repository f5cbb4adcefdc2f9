-- The written file holds what was written.
use Rattle.std.proofs.Common.{◌≡◌, ℕ, suc, ◌+◌, ◌*◌, ◌^◌, ◌<◌, ◌≤◌, true, List, [], ◌∷◌, ◌++◌, length, map, Ok, refl, arith, length-append}
use Rattle.std.specs.Prelude.{◌==◌, codes, All}
use Rattle.std.specs.List.{flat_map}
use Rattle.spec_boxes.specs.declared.kinds.TheConstants.{MOOV}
use Rattle.spec_boxes.specs.Paths.{Way, found_at}
use Rattle.spec_boxes.specs.TablesAt.{Tables, tables_at}
use Rattle.spec_boxes.specs.Spans.{Span, fit, lay}
use Rattle.spec_boxes.specs.Edits.{edits_at}
use Rattle.spec_boxes.specs.Groups.{groups_at}
use Rattle.spec_boxes.specs.Configuration.{config_at}
use Rattle.spec_boxes.specs.Tracks.{samples_at, spans_of, sample_bytes, track_at}
use Rattle.spec_boxes.specs.ObuLists.{are_obus, in_config}
use Rattle.spec_boxes.proofs.Answer.{read_holds, one_answer}
use Rattle.spec_files.specs.Pieces.{word, box, written}
use Rattle.spec_files.specs.MovieFile.{Movie, count, all_units, stbl_pieces, moov_body, ftyp_body, top_pieces, data_place, file}
use Rattle.spec_files.specs.Laws.{FileHolds, FileHoldsOnly, UnitsAreFew}
use Rattle.spec_files.proofs.BodyKinds.{descriptors_pass, data_passes}
use Rattle.spec_files.proofs.Placed.{Lies, lies_whole, lies_left, lies_right, lies_within, length-box}
use Rattle.spec_files.proofs.Walked.{Entered, entered}
use Rattle.spec_files.proofs.Tabled.{tabled, tables_of}
use Rattle.spec_files.proofs.Laid.{AreUnits, spans_are, units_read, units_fit, units_are}
use Rattle.spec_files.proofs.Configured.{configured, edits_read, no_groups}
use Rattle.spec_files.proofs.Measured.{length-ftyp, moov_same, file_small}

-- all rules in order
in_order : (f : List ℕ) (way : Way) (tables : Tables) (config : List ℕ) (all : List Span) (samples : List (List ℕ))
    → found_at true f ≡ Ok way → tables_at f way.stbl.at way.in_stbl ≡ Ok tables → edits_at f way.in_trak ≡ Ok tt → groups_at f tables.sizes.count way.in_stbl ≡ Ok tt
    → config_at f way.entry ≡ Ok config → spans_of tables ≡ all → fit (length f) (length f) all ≡ true → samples_at f all ≡ Ok tt → map (sample_bytes f) all ≡ samples
    → track_at true f ≡ Ok (record { trak = way.trak; config = config; samples = samples })
unfolding track_at
in_order f way tables config all samples a b c d e g h i j = rw (a, b, c, d, e, g, h, i, j) refl

-- where the units lie
data_lies : (f : List ℕ) (m : Movie) (place : ℕ) → f ≡ written (top_pieces m place) → place ≡ 40 + length (moov_body m place) → Lies f place (all_units m)
data_lies f m place is here =
    let l : Lies f 0 (written (top_pieces m place)) = lies_whole f (written (top_pieces m place)) is in
    let a = lies_right f 0 (box (codes "ftyp") ftyp_body) _ 24 (omega (arith, length-box (codes "ftyp") ftyp_body refl, length-ftyp)) l in
    let b = lies_right f 24 (box MOOV (moov_body m place)) _ (32 + length (moov_body m place)) (omega (arith, length-box MOOV (moov_body m place) refl)) a in
    let c = lies_left f (32 + length (moov_body m place)) (box (codes "mdat") (all_units m)) [] b in
    lies_right f (32 + length (moov_body m place)) (word (8 + length (all_units m)) ++ codes "mdat") (all_units m) place (omega (arith, here)) c

by_way : (f : List ℕ) (m : Movie) (place : ℕ) → Lies f place (all_units m) → length f < 2 ^ 32 → count m < 2 ^ 32 → length m.descriptors < 2 ^ 32 → are_obus in_config m.descriptors ≡ true → AreUnits m.units
    → (w : Entered f m place) → track_at true f ≡ Ok (record { trak = w.way.trak; config = m.descriptors; samples = m.units })
by_way f m place l small few short fine units w =
    let within = lies_within f place (all_units m) l in
    let t = tabled f m place w.way.stbl.at w.way.in_stbl w.known.in_stbl few (omega arith) (omega arith) in
    in_order f w.way (tables_of m place t.boxes) m.descriptors (lay place (map length m.units)) m.units
    w.is t.is
    (edits_read (m.kept == count m * m.frame_length) f m place w.way.in_trak w.known.in_trak small)
    (no_groups f (count m) w.way.in_stbl (stbl_pieces m place) w.known.in_stbl refl)
    (configured f m w.way.entry w.known.entry small short fine)
    (spans_are m place t.boxes)
    (units_fit m.units place (length f) (length f) within (omega arith))
    (units_are f m.units place l units)
    (units_read f m.units place l)

file_is : (m : Movie) → file m ≡ written (top_pieces m (data_place m))
unfolding file
file_is m = refl

pub file_holds : FileHolds
file_holds m small body =
    read_holds true (file m) (record { trak = (entered (file m) m (data_place m) (file_is m) (file_small m small)).way.trak; config = m.descriptors; samples = m.units })
    (by_way (file m) m (data_place m)
    (data_lies (file m) m (data_place m) (file_is m) (omega (arith, moov_same m (data_place m) 0)))
    (file_small m small) (omega (arith, small.units)) (omega (arith, small.bytes)) (descriptors_pass m.descriptors body.describes) (λ k d less. data_passes _ (body.carry k d less))
    (entered (file m) m (data_place m) (file_is m) (file_small m small)))

pub holds_only : FileHoldsOnly
holds_only m small body =
    let one = one_answer true (file m) in
    record {
      only = λ descriptors samples k. one.one_track descriptors m.descriptors samples m.units k (file_holds m small body);
      never = λ at code r. one.exclusive m.descriptors m.units at code (file_holds m small body) r;
    }

counted : (us : List (List ℕ)) → All (λ u. 2 ≤ length u) us → 2 * length us ≤ length (flat_map (λ u. u) us)
counted [] two = omega arith
counted (u ∷ us) two = omega (arith, length-append u (flat_map (λ u. u) us), two 0 [] (omega arith), counted us (λ k d less. two (suc k) d (omega arith)))

pub units_few : UnitsAreFew
units_few m bytes two = record { bytes = bytes; units = omega (arith, bytes, counted m.units two) }
