-- The lengths of a written file.
use Rattle.std.proofs.Common.{◌≡◌, ℕ, ◌+◌, ◌*◌, ◌^◌, ◌<◌, ◌≤◌, Bool, true, false, List, [], ◌∷◌, ◌++◌, length, refl, ◌∙◌, arith, length-append}
use Rattle.std.specs.Prelude.{◌==◌, ◌&&◌}
use Rattle.std.proofs.lemmas.Bool.{eqb-true}
use Rattle.spec_boxes.specs.declared.kinds.TheConstants.{EDTS}
use Rattle.spec_bits.specs.Leb.{leb_bytes}
use Rattle.spec_files.specs.Pieces.{word, Piece, piece, box, written, fours}
use Rattle.spec_files.specs.MovieFile.{Movie, with_edit, count, all_units, rows, ftyp_body, mvhd_body, tkhd_body, elst_body, edts_body, edts_pieces, mdhd_body, hdlr_body, smhd_body, dinf_body, iacb_body, entry_fields, entry_pieces, entry_body, stsd_pieces, stsd_body, stts_body, stsc_body, stsz_body, stco_body, stbl_pieces, stbl_body, minf_pieces, minf_body, mdia_pieces, mdia_body, trak_pieces, trak_body, moov_pieces, moov_body, top_pieces, data_place, file}
use Rattle.spec_files.specs.Laws.{IsSmall}
use Rattle.spec_files.proofs.Placed.{length-box}
use Rattle.spec_files.proofs.Tabled.{length-words}
use Rattle.spec_files.proofs.Configured.{length-leb_bytes}

-- the length of boxes is a sum
abbrev pub sizes : List Piece → ℕ
sizes [] = 0
sizes (p ∷ ps) = 8 + length p.body + sizes ps

and_true : (a b : Bool) → (a && b) ≡ true → (a ≡ true) × (b ≡ true)
and_true true b h = (refl, h)
and_true false b h = cc

pub length-written : (ps : List Piece) → fours ps ≡ true → length (written ps) ≡ sizes ps
length-written [] four = refl
length-written (p ∷ ps) four =
    let a = and_true _ _ four in
    omega (arith, length-append (box p.kind p.body) (written ps), length-box p.kind p.body (eqb-true (length p.kind) 4 a.0), length-written ps a.1)

-- the length of a count and a row, or of a count of none
abbrev pub row_size : Bool → ℕ → ℕ
row_size true n = 4
row_size false n = 4 + n

pub length-rows : (t : Bool) (row : List ℕ) → length (rows t row) ≡ row_size t (length row)
length-rows true row = omega arith
length-rows false row = omega arith

row_few : (t : Bool) (n : ℕ) → row_size t n ≤ 4 + n
row_few true n = omega arith
row_few false n = omega arith

pub length-iacb : (m : Movie) → length (iacb_body m) ≡ 1 + length (leb_bytes (length m.descriptors)) + length m.descriptors
unfolding iacb_body
length-iacb m = omega (arith, length-append (leb_bytes (length m.descriptors)) m.descriptors)

pub length-entry : (m : Movie) → length (entry_body m) ≡ 36 + length (iacb_body m)
unfolding entry_body
length-entry m = omega (arith, length-append entry_fields (written (entry_pieces m)), length-written (entry_pieces m) refl)

pub length-stsd : (m : Movie) → length (stsd_body m) ≡ 16 + length (entry_body m)
unfolding stsd_body
length-stsd m = omega (arith, length-append (word 0 ++ word 1) (written (stsd_pieces m)), length-written (stsd_pieces m) refl)

pub length-stts : (m : Movie) → length (stts_body m) ≡ 4 + row_size (count m == 0) 8
unfolding stts_body
length-stts m = omega (arith, length-rows (count m == 0) (word (count m) ++ word m.frame_length))

pub length-stsc : (m : Movie) → length (stsc_body m) ≡ 4 + row_size (count m == 0) 12
unfolding stsc_body
length-stsc m = omega (arith, length-rows (count m == 0) (word 1 ++ (word (count m) ++ word 1)))

pub length-stsz : (m : Movie) → length (stsz_body m) ≡ 12 + 4 * count m
unfolding stsz_body
length-stsz m = omega (arith, length-words m.units)

pub length-stco : (m : Movie) (place : ℕ) → length (stco_body m place) ≡ 4 + row_size (count m == 0) 4
unfolding stco_body
length-stco m place = omega (arith, length-rows (count m == 0) (word place))

pub length-stbl : (m : Movie) (place : ℕ) → length (stbl_body m place) ≡ 40 + length (stsd_body m) + length (stts_body m) + length (stsc_body m) + length (stsz_body m) + length (stco_body m place)
unfolding stbl_body
length-stbl m place = omega (arith, length-written (stbl_pieces m place) refl)

length-smhd : length smhd_body ≡ 8
unfolding smhd_body
length-smhd = refl

length-dinf : length dinf_body ≡ 28
unfolding dinf_body
length-dinf = refl

pub length-minf : (m : Movie) (place : ℕ) → length (minf_body m place) ≡ 60 + length (stbl_body m place)
unfolding minf_body
length-minf m place = omega (arith, length-written (minf_pieces m place) refl, length-smhd, length-dinf)

length-mdhd : (m : Movie) → length (mdhd_body m) ≡ 36
unfolding mdhd_body
length-mdhd m = refl

length-hdlr : length hdlr_body ≡ 25
unfolding hdlr_body
length-hdlr = refl

pub length-mdia : (m : Movie) (place : ℕ) → length (mdia_body m place) ≡ 85 + length (minf_body m place)
unfolding mdia_body
length-mdia m place = omega (arith, length-written (mdia_pieces m place) refl, length-mdhd m, length-hdlr)

length-tkhd : (m : Movie) → length (tkhd_body m) ≡ 96
unfolding tkhd_body
length-tkhd m = refl

length-elst : (m : Movie) → length (elst_body m) ≡ 28
unfolding elst_body
length-elst m = refl

pub length-edts : (m : Movie) → length (edts_body m) ≡ 36
unfolding edts_body
length-edts m = omega (arith, length-written (edts_pieces m) refl, length-elst m)

four_trak : (whole : Bool) (m : Movie) (place : ℕ) → fours (trak_pieces whole m place) ≡ true
four_trak true m place = refl
four_trak false m place = refl

-- the edit, where it stands
abbrev pub edit_size : Bool → ℕ
edit_size true = 0
edit_size false = 44

sizes_trak : (whole : Bool) (m : Movie) (place : ℕ) → sizes (trak_pieces whole m place) ≡ 112 + edit_size whole + length (mdia_body m place)
sizes_trak true m place = omega (arith, length-tkhd m)
sizes_trak false m place = omega (arith, length-tkhd m, length-edts m)

pub length-trak : (m : Movie) (place : ℕ) → length (trak_body m place) ≡ 112 + edit_size (m.kept == count m * m.frame_length) + length (mdia_body m place)
unfolding trak_body
length-trak m place = length-written (trak_pieces (m.kept == count m * m.frame_length) m place) (four_trak (m.kept == count m * m.frame_length) m place) ∙ sizes_trak (m.kept == count m * m.frame_length) m place

pub edit_len : (whole : Bool) (m : Movie) → length (written (with_edit whole m [])) ≡ edit_size whole
edit_len true m = refl
edit_len false m = omega (arith, length-written (piece EDTS (edts_body m) ∷ []) refl, length-edts m)

edit_small : (whole : Bool) → edit_size whole ≤ 44
edit_small true = omega arith
edit_small false = omega arith

length-mvhd : (m : Movie) → length (mvhd_body m) ≡ 112
unfolding mvhd_body
length-mvhd m = refl

pub length-moov : (m : Movie) (place : ℕ) → length (moov_body m place) ≡ 128 + length (trak_body m place)
unfolding moov_body
length-moov m place = omega (arith, length-written (moov_pieces m place) refl, length-mvhd m)

pub length-ftyp : length ftyp_body ≡ 16
unfolding ftyp_body
length-ftyp = refl

-- the length of `moov` is the same wherever the chunk lies
pub moov_same : (m : Movie) (x y : ℕ) → length (moov_body m x) ≡ length (moov_body m y)
moov_same m x y =
    omega (arith, length-moov m x, length-moov m y, length-trak m x, length-trak m y, length-mdia m x, length-mdia m y, length-minf m x, length-minf m y, length-stbl m x, length-stbl m y, length-stco m x, length-stco m y)

moov_small : (m : Movie) (place : ℕ) → length (moov_body m place) ≤ 600 + length m.descriptors + 4 * count m
moov_small m place =
    omega (arith, length-moov m place, length-trak m place, edit_small (m.kept == count m * m.frame_length), length-mdia m place, length-minf m place, length-stbl m place, length-stsd m, length-entry m, length-iacb m, length-leb_bytes (length m.descriptors), length-stts m, row_few (count m == 0) 8, length-stsc m, row_few (count m == 0) 12, length-stsz m, length-stco m place, row_few (count m == 0) 4)

pub length-top : (m : Movie) (place : ℕ) → length (written (top_pieces m place)) ≡ 40 + length (moov_body m place) + length (all_units m)
length-top m place = omega (arith, length-written (top_pieces m place) refl, length-ftyp)

pub file_small : (m : Movie) → IsSmall m → length (file m) < 2 ^ 32
unfolding file
file_small m small = omega (arith, small.bytes, small.units, length-top m (data_place m), moov_small m (data_place m))
