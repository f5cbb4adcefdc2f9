-- The way through the boxes of a written file.
use Rattle.std.proofs.Common.{◌≡◌, ℕ, ◌+◌, ◌-◌, ◌*◌, ◌^◌, ◌<◌, Bool, true, false, nat_lt, List, [], ◌∷◌, ◌++◌, length, Some, Ok, refl, ap, ◌∙◌, arith, length-append}
use Rattle.std.specs.Prelude.{find, codes, ◌==◌}
use Rattle.std.proofs.lemmas.Bool.{le-ltb}
use Rattle.spec_boxes.specs.declared.kinds.TheConstants.{MOOV, MOOF, MVEX, TRAK, MDIA, MINF, STBL, STSD, IAMF}
use Rattle.spec_boxes.specs.Boxes.{Box, tiles}
use Rattle.spec_boxes.specs.Parts.{kind_is}
use Rattle.spec_boxes.specs.Paths.{Way, walk_at, audio_in, found_at, by_entry}
use Rattle.spec_files.specs.Pieces.{word, Piece, piece, written, piece_is, fours}
use Rattle.spec_files.specs.MovieFile.{Movie, count, entry_body, stsd_pieces, stsd_body, stbl_pieces, stbl_body, minf_pieces, minf_body, mdia_pieces, mdia_body, trak_pieces, trak_body, moov_pieces, moov_body, top_pieces}
use Rattle.spec_files.proofs.Placed.{IsBox, AreBoxes, Inside, inside, Found, first_found, no_box, none_found, Only, only_found, lies_whole, placed_all, placed_are, tiles_written, Lies}

-- what is known of the way
pub record IsWay (f : List ℕ) (m : Movie) (place : ℕ) (w : Way) : Type 0 where
  pub in_trak : AreBoxes f w.in_trak (trak_pieces (m.kept == count m * m.frame_length) m place)
  pub in_stbl : AreBoxes f w.in_stbl (stbl_pieces m place)
  pub entry : IsBox f w.entry (piece IAMF (entry_body m))

pub record Walked (f : List ℕ) (m : Movie) (place : ℕ) (trak : Box) : Type 0 where
  pub way : Way
  pub is : walk_at f trak ≡ Ok (Some way)
  pub known : IsWay f m place way

-- the one box of a list of one
first_entry : (f : List ℕ) (trak : Box) (in_trak : List Box) (stbl : Box) (in_stbl entries : List Box) (m : Movie) → AreBoxes f entries (stsd_pieces m)
    → (e : Box) × (by_entry trak in_trak stbl in_stbl entries ≡ Some (record { trak = trak; in_trak = in_trak; stbl = stbl; in_stbl = in_stbl; entry = e })) × IsBox f e (piece IAMF (entry_body m))
first_entry f trak in_trak stbl in_stbl [] m are = absurd are
first_entry f trak in_trak stbl in_stbl (e ∷ []) m are = (e, rw (are.0).kind refl, are.0)
first_entry f trak in_trak stbl in_stbl (e ∷ d ∷ more) m are = absurd are.1

by_steps : (f : List ℕ) (m : Movie) (place : ℕ) (trak : Box) (a : Inside f trak 0 (trak_pieces (m.kept == count m * m.frame_length) m place))
    (mdia : Found f MDIA a.boxes (piece MDIA (mdia_body m place))) (b : Inside f mdia.box 0 (mdia_pieces m place))
    (minf : Found f MINF b.boxes (piece MINF (minf_body m place))) (c : Inside f minf.box 0 (minf_pieces m place))
    (stbl : Found f STBL c.boxes (piece STBL (stbl_body m place))) (d : Inside f stbl.box 0 (stbl_pieces m place))
    (stsd : Found f STSD d.boxes (piece STSD (stsd_body m))) (e : Inside f stsd.box 8 (stsd_pieces m))
    → nat_lt (stsd.box.end - stsd.box.start) 8 ≡ false → Walked f m place trak
unfolding walk_at
by_steps f m place trak a mdia b minf c stbl d stsd e room =
    let n = first_entry f trak a.boxes stbl.box d.boxes e.boxes m e.are in
    record {
      way = record { trak = trak; in_trak = a.boxes; stbl = stbl.box; in_stbl = d.boxes; entry = n.0 };
      is = rw (a.is, mdia.is, b.is, minf.is, c.is, stbl.is, d.is, stsd.is, room, e.is, n.1) refl;
      known = record { in_trak = a.are; in_stbl = d.are; entry = n.2 };
    }

four_trak : (whole : Bool) (m : Movie) (place : ℕ) → fours (trak_pieces whole m place) ≡ true
four_trak true m place = refl
four_trak false m place = refl

mdia_in : (whole : Bool) (m : Movie) (place : ℕ) → find (piece_is MDIA) (trak_pieces whole m place) ≡ Some (piece MDIA (mdia_body m place))
mdia_in true m place = refl
mdia_in false m place = refl

trak_is : (m : Movie) (place : ℕ) → trak_body m place ≡ [] ++ written (trak_pieces (m.kept == count m * m.frame_length) m place)
unfolding trak_body
trak_is m place = refl

mdia_is : (m : Movie) (place : ℕ) → mdia_body m place ≡ [] ++ written (mdia_pieces m place)
unfolding mdia_body
mdia_is m place = refl

minf_is : (m : Movie) (place : ℕ) → minf_body m place ≡ [] ++ written (minf_pieces m place)
unfolding minf_body
minf_is m place = refl

stbl_is : (m : Movie) (place : ℕ) → stbl_body m place ≡ [] ++ written (stbl_pieces m place)
unfolding stbl_body
stbl_is m place = refl

stsd_is : (m : Movie) → stsd_body m ≡ (word 0 ++ word 1) ++ written (stsd_pieces m)
unfolding stsd_body
stsd_is m = refl

moov_is : (m : Movie) (place : ℕ) → moov_body m place ≡ [] ++ written (moov_pieces m place)
unfolding moov_body
moov_is m place = refl

pub walked : (f : List ℕ) (m : Movie) (place : ℕ) (trak : Box) → IsBox f trak (piece TRAK (trak_body m place)) → length f < 2 ^ 32 → Walked f m place trak
walked f m place trak is small =
    let a = inside f trak _ [] (trak_pieces (m.kept == count m * m.frame_length) m place) 0 is (trak_is m place) refl small (four_trak (m.kept == count m * m.frame_length) m place) in
    let mdia = first_found f MDIA a.boxes _ (piece MDIA (mdia_body m place)) a.are (mdia_in (m.kept == count m * m.frame_length) m place) in
    let b = inside f mdia.box _ [] (mdia_pieces m place) 0 mdia.stands (mdia_is m place) refl small refl in
    let minf = first_found f MINF b.boxes _ (piece MINF (minf_body m place)) b.are refl in
    let c = inside f minf.box _ [] (minf_pieces m place) 0 minf.stands (minf_is m place) refl small refl in
    let stbl = first_found f STBL c.boxes _ (piece STBL (stbl_body m place)) c.are refl in
    let d = inside f stbl.box _ [] (stbl_pieces m place) 0 stbl.stands (stbl_is m place) refl small refl in
    let stsd = first_found f STSD d.boxes _ (piece STSD (stsd_body m)) d.are refl in
    let e = inside f stsd.box _ (word 0 ++ word 1) (stsd_pieces m) 8 stsd.stands (stsd_is m) refl small refl in
    let n : length (stsd_body m) ≡ 8 + length (written (stsd_pieces m)) = ap length (stsd_is m) ∙ length-append (word 0 ++ word 1) (written (stsd_pieces m)) in
    by_steps f m place trak a mdia b minf c stbl d stsd e (le-ltb _ _ (omega (arith, stsd.stands.end, n)))

-- the way through a written file
pub record Entered (f : List ℕ) (m : Movie) (place : ℕ) : Type 0 where
  pub way : Way
  pub is : found_at true f ≡ Ok way
  pub known : IsWay f m place way

pub record Top (f : List ℕ) (ps : List Piece) : Type 0 where
  pub boxes : List Box
  pub is : tiles true f 0 (length f) ≡ Ok boxes
  pub are : AreBoxes f boxes ps

in_second : (f : List ℕ) (m : Movie) (place : ℕ) (b c : Box) (w : Walked f m place c) → b.kind ≡ codes "mvhd" → c.kind ≡ TRAK → audio_in f (b ∷ c ∷ []) ≡ Ok (Some w.way)
in_second f m place b c w p q =
    let first : kind_is TRAK b ≡ false = rw p refl in
    let second : kind_is TRAK c ≡ true = rw q refl in
    rw (first, second, w.is) refl

by_top : (f : List ℕ) (m : Movie) (place : ℕ) (t : Top f (top_pieces m place)) (moov : Only f 0 MOOV MOOV t.boxes (piece MOOV (moov_body m place)))
    (no_moof : find (kind_is MOOF) t.boxes ≡ no_box) (a : Inside f moov.box 0 (moov_pieces m place)) (no_mvex : find (kind_is MVEX) a.boxes ≡ no_box)
    (way : Way) (known : IsWay f m place way) (found : audio_in f a.boxes ≡ Ok (Some way)) → Entered f m place
unfolding found_at
by_top f m place t moov no_moof a no_mvex way known found =
    record { way = way; is = rw (t.is, moov.is, no_moof, a.is, no_mvex, found) refl; known = known }

top_of : (f : List ℕ) (m : Movie) (place : ℕ) → f ≡ written (top_pieces m place) → length f < 2 ^ 32 → Top f (top_pieces m place)
top_of f m place is small =
    let l : Lies f 0 (written (top_pieces m place)) = lies_whole f (written (top_pieces m place)) is in
    record {
      boxes = placed_all 0 (top_pieces m place);
      is = tiles_written true f (top_pieces m place) 0 (length f) refl l (omega (arith, ap length is)) (omega (arith, ap length is));
      are = placed_are f 0 (top_pieces m place) refl l;
    }

in_moov : (f : List ℕ) (m : Movie) (place : ℕ) (bs : List Box) → AreBoxes f bs (moov_pieces m place) → length f < 2 ^ 32 → (way : Way) × (audio_in f bs ≡ Ok (Some way)) × IsWay f m place way
in_moov f m place [] are small = absurd are
in_moov f m place (b ∷ []) are small = absurd are.1
in_moov f m place (b ∷ c ∷ []) are small =
    let w = walked f m place c (are.1).0 small in
    (w.way, in_second f m place b c w (are.0).kind ((are.1).0).kind, w.known)
in_moov f m place (b ∷ c ∷ d ∷ bs) are small = absurd (are.1).1

pub entered : (f : List ℕ) (m : Movie) (place : ℕ) → f ≡ written (top_pieces m place) → length f < 2 ^ 32 → Entered f m place
entered f m place is small =
    let t = top_of f m place is small in
    let moov = only_found f 0 MOOV MOOV t.boxes (top_pieces m place) (piece MOOV (moov_body m place)) t.are refl in
    let a = inside f moov.box (piece MOOV (moov_body m place)) [] (moov_pieces m place) 0 moov.stands (moov_is m place) refl small refl in
    let w = in_moov f m place a.boxes a.are small in
    by_top f m place t moov (none_found f MOOF t.boxes (top_pieces m place) t.are refl) a (none_found f MVEX a.boxes (moov_pieces m place) a.are refl) w.0 w.2 w.1
