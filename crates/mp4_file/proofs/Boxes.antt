-- Boxes that are written piece by piece, with their sizes known before.
use Rattle.std.proofs.Common.{◌≡◌, ℕ, ◌+◌, ◌*◌, Bool, true, false, List, [], ◌∷◌, ◌++◌, length, refl, sym, ap, ◌∙◌, arith, append_assoc}
use Rattle.std.specs.Prelude.{◌==◌, codes}
use Rattle.std.specs.List.{flat_map}
use Rattle.std.proofs.lemmas.List.{append-nil}
use Rattle.spec_bits.specs.Leb.{leb_bytes}
use Rattle.spec_boxes.specs.declared.kinds.TheConstants.{MOOV, TRAK, EDTS, MDIA, MINF, STBL, STSD, STTS, STSC, STSZ, STCO, IAMF, IACB}
use Rattle.spec_files.specs.Pieces.{word, piece, box, written}
use Rattle.spec_files.specs.MovieFile.{Movie, count, all_units, length_word, ftyp_body, mvhd_body, tkhd_body, edts_body, with_edit, mdhd_body, hdlr_body, smhd_body, dinf_body, iacb_body, entry_fields, entry_body, stsd_body, stts_body, stsc_body, stsz_body, stco_body, stbl_body, minf_body, mdia_body, trak_body, moov_body, data_place, file}
use Rattle.spec_files.proofs.Measured.{length-stsz}

-- a box with its size known
pub box_is : (kind body : List ℕ) (n : ℕ) → n ≡ 8 + length body → box kind body ≡ (word n ++ kind) ++ body
box_is kind body n is = ap (λ (k : ℕ). word k ++ (kind ++ body)) (sym is) ∙ sym (append_assoc (word n) kind body)

-- the last box of some
last : (kind body : List ℕ) → box kind body ++ [] ≡ box kind body
last kind body = append-nil (box kind body)

pub iacb_is : (m : Movie) (n : ℕ) → n ≡ 8 + length (iacb_body m) → box IACB (iacb_body m) ≡ (word n ++ IACB) ++ (1 ∷ (leb_bytes (length m.descriptors) ++ m.descriptors))
unfolding iacb_body
iacb_is m n is = box_is IACB (1 ∷ (leb_bytes (length m.descriptors) ++ m.descriptors)) n is

pub stsd_is : (m : Movie) (s e : ℕ) → s ≡ 8 + length (stsd_body m) → e ≡ 8 + length (entry_body m)
    → box STSD (stsd_body m) ≡ (word s ++ STSD) ++ ((word 0 ++ word 1) ++ ((word e ++ IAMF) ++ (entry_fields ++ box IACB (iacb_body m))))
unfolding stsd_body entry_body
stsd_is m s e is entry =
    let inner : box IACB (iacb_body m) ++ [] ≡ box IACB (iacb_body m) = last IACB (iacb_body m) in
    box_is STSD _ s is
    ∙ ap (λ (x : List ℕ). (word s ++ STSD) ++ ((word 0 ++ word 1) ++ x)) (append-nil (box IAMF (entry_fields ++ (box IACB (iacb_body m) ++ []))) ∙ box_is IAMF _ e entry)
    ∙ ap (λ (x : List ℕ). (word s ++ STSD) ++ ((word 0 ++ word 1) ++ ((word e ++ IAMF) ++ (entry_fields ++ x)))) inner

-- a table of one row, which has none where there are no units
pub stts_none : (m : Movie) → (count m == 0) ≡ true → box STTS (stts_body m) ≡ (word 16 ++ (STTS ++ word 0)) ++ word 0
unfolding stts_body
stts_none m none = rw none refl

pub stts_some : (m : Movie) (n : ℕ) → n ≡ count m → (count m == 0) ≡ false → box STTS (stts_body m) ≡ (word 24 ++ (STTS ++ word 0)) ++ (word 1 ++ (word n ++ word m.frame_length))
unfolding stts_body
stts_some m n is some = rw (some, is) refl

pub stsc_none : (m : Movie) → (count m == 0) ≡ true → box STSC (stsc_body m) ≡ (word 16 ++ (STSC ++ word 0)) ++ word 0
unfolding stsc_body
stsc_none m none = rw none refl

pub stsc_some : (m : Movie) (n : ℕ) → n ≡ count m → (count m == 0) ≡ false → box STSC (stsc_body m) ≡ (word 28 ++ (STSC ++ word 0)) ++ (word 1 ++ (word 1 ++ (word n ++ word 1)))
unfolding stsc_body
stsc_some m n is some = rw (some, is) refl

pub stco_none : (m : Movie) (place : ℕ) → (count m == 0) ≡ true → box STCO (stco_body m place) ≡ (word 16 ++ (STCO ++ word 0)) ++ word 0
unfolding stco_body
stco_none m place none = rw none refl

pub stco_some : (m : Movie) (place : ℕ) → (count m == 0) ≡ false → box STCO (stco_body m place) ≡ (word 20 ++ (STCO ++ word 0)) ++ (word 1 ++ word place)
unfolding stco_body
stco_some m place some = rw some refl

pub stsz_is : (m : Movie) (s n : ℕ) (lengths : List ℕ) → s ≡ 20 + 4 * count m → n ≡ count m → flat_map length_word m.units ≡ lengths
    → box STSZ (stsz_body m) ≡ (word s ++ (STSZ ++ word 0)) ++ (word 0 ++ (word n ++ lengths))
unfolding stsz_body
stsz_is m s n lengths is count_is are =
    box_is STSZ _ s (omega (arith, is, length-stsz m))
    ∙ ap (λ (k : ℕ). (word s ++ STSZ) ++ (word 0 ++ (word 0 ++ (word k ++ flat_map length_word m.units)))) (sym count_is)
    ∙ ap (λ (x : List ℕ). (word s ++ STSZ) ++ (word 0 ++ (word 0 ++ (word n ++ x)))) are

pub stbl_is : (m : Movie) (place n : ℕ) → n ≡ 8 + length (stbl_body m place)
    → box STBL (stbl_body m place) ≡ (word n ++ STBL) ++ (box STSD (stsd_body m) ++ (box STTS (stts_body m) ++ (box STSC (stsc_body m) ++ (box STSZ (stsz_body m) ++ box STCO (stco_body m place)))))
unfolding stbl_body
stbl_is m place n is =
    box_is STBL _ n is
    ∙ ap (λ (x : List ℕ). (word n ++ STBL) ++ (box STSD (stsd_body m) ++ (box STTS (stts_body m) ++ (box STSC (stsc_body m) ++ (box STSZ (stsz_body m) ++ x))))) (last STCO (stco_body m place))

pub minf_is : (m : Movie) (place n : ℕ) → n ≡ 8 + length (minf_body m place)
    → box MINF (minf_body m place) ≡ (word n ++ MINF) ++ (box (codes "smhd") smhd_body ++ (box (codes "dinf") dinf_body ++ box STBL (stbl_body m place)))
unfolding minf_body
minf_is m place n is = box_is MINF _ n is ∙ ap (λ (x : List ℕ). (word n ++ MINF) ++ (box (codes "smhd") smhd_body ++ (box (codes "dinf") dinf_body ++ x))) (last STBL (stbl_body m place))

pub mdia_is : (m : Movie) (place n : ℕ) → n ≡ 8 + length (mdia_body m place)
    → box MDIA (mdia_body m place) ≡ (word n ++ MDIA) ++ (box (codes "mdhd") (mdhd_body m) ++ (box (codes "hdlr") hdlr_body ++ box MINF (minf_body m place)))
unfolding mdia_body
mdia_is m place n is = box_is MDIA _ n is ∙ ap (λ (x : List ℕ). (word n ++ MDIA) ++ (box (codes "mdhd") (mdhd_body m) ++ (box (codes "hdlr") hdlr_body ++ x))) (last MINF (minf_body m place))

-- the edit, and then another box
edit_then : (whole : Bool) (m : Movie) (kind body : List ℕ) → written (with_edit whole m (piece kind body ∷ [])) ≡ written (with_edit whole m []) ++ box kind body
edit_then true m kind body = last kind body
edit_then false m kind body =
    ap (λ (x : List ℕ). box EDTS (edts_body m) ++ x) (last kind body)
    ∙ ap (λ (x : List ℕ). x ++ box kind body) (sym (last EDTS (edts_body m)))

pub trak_is : (m : Movie) (place n : ℕ) → n ≡ 8 + length (trak_body m place)
    → box TRAK (trak_body m place) ≡ (word n ++ TRAK) ++ (box (codes "tkhd") (tkhd_body m) ++ (written (with_edit (m.kept == count m * m.frame_length) m []) ++ box MDIA (mdia_body m place)))
unfolding trak_body
trak_is m place n is = box_is TRAK _ n is ∙ ap (λ (x : List ℕ). (word n ++ TRAK) ++ (box (codes "tkhd") (tkhd_body m) ++ x)) (edit_then (m.kept == count m * m.frame_length) m MDIA (mdia_body m place))

-- the edit, where it stands and where not
pub edit_stands : (whole : Bool) (m : Movie) → whole ≡ false → written (with_edit whole m []) ≡ box EDTS (edts_body m)
edit_stands whole m is = rw is (last EDTS (edts_body m))

pub no_edit : (whole : Bool) (m : Movie) → whole ≡ true → written (with_edit whole m []) ≡ []
no_edit whole m is = rw is refl

pub moov_is : (m : Movie) (place n : ℕ) → n ≡ 8 + length (moov_body m place) → box MOOV (moov_body m place) ≡ (word n ++ MOOV) ++ (box (codes "mvhd") (mvhd_body m) ++ box TRAK (trak_body m place))
unfolding moov_body
moov_is m place n is = box_is MOOV _ n is ∙ ap (λ (x : List ℕ). (word n ++ MOOV) ++ (box (codes "mvhd") (mvhd_body m) ++ x)) (last TRAK (trak_body m place))

pub file_is : (m : Movie) (place : ℕ) → place ≡ 40 + length (moov_body m 0)
    → file m ≡ box (codes "ftyp") ftyp_body ++ (box MOOV (moov_body m place) ++ box (codes "mdat") (all_units m))
unfolding file
file_is m place is =
    rw is (ap (λ (x : List ℕ). box (codes "ftyp") ftyp_body ++ (box MOOV (moov_body m (data_place m)) ++ x)) (last (codes "mdat") (all_units m)))
