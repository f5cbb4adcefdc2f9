-- The MP4 file that is written of some descriptors and units, as boxes in boxes (ISO/IEC 14496-12 and IAMF 1.0.0,
-- "ISOBMFF IAMF Encapsulation"). Every field of it is this project's own choice among what these allow.
use Rattle.std.specs.Prelude.{ℕ, ◌+◌, ◌*◌, ◌==◌, Bool, true, false, List, [], ◌∷◌, ◌++◌, length, codes}
use Rattle.std.specs.List.{flat_map}
use Rattle.spec_boxes.specs.declared.kinds.TheConstants.{MOOV, TRAK, EDTS, ELST, MDIA, MINF, STBL, STSD, STTS, STSC, STSZ, STCO, IAMF, IACB}
use Rattle.spec_bits.specs.Leb.{leb_bytes}
use Rattle.spec_files.specs.Pieces.{half, word, long, zeros, Piece, piece, written}

-- What is written: the bytes of the descriptors and of each temporal unit, without its delimiter; the samples of a
-- unit and of a second, per channel; how many are trimmed at the starts of units, and how many are kept of all.
pub record Movie : Type 0 where
  pub descriptors : List ℕ
  pub units : List (List ℕ)
  pub frame_length : ℕ
  pub sample_rate : ℕ
  pub trimmed : ℕ
  pub kept : ℕ

abbrev pub count : Movie → ℕ
count m = length m.units

abbrev pub all_units : Movie → List ℕ
all_units m = flat_map (λ u. u) m.units

-- a body that begins with a version and flags (`FullBox`)
abbrev pub full : ℕ → ℕ → List ℕ → List ℕ
full version flags body = word (version * 0x1000000 + flags) ++ body

-- the unit matrix
abbrev pub matrix : List ℕ
matrix = word 0x10000 ++ (zeros 12 ++ (word 0x10000 ++ (zeros 12 ++ word 0x40000000)))

unfoldable pub ftyp_body : List ℕ
ftyp_body = codes "iso6" ++ (zeros 4 ++ (codes "iso6" ++ codes "iamf"))

-- the times of creation and change, the time scale and the duration
abbrev pub movie_times : Movie → List ℕ
movie_times m = zeros 16 ++ (word m.sample_rate ++ long m.kept)

-- the rate, the volume, the matrix and the next track
abbrev pub movie_settings : List ℕ
movie_settings = word 0x10000 ++ (half 0x100 ++ (zeros 10 ++ (matrix ++ (zeros 24 ++ word 2))))

unfoldable pub mvhd_body : Movie → List ℕ
mvhd_body m = full 1 0 (movie_times m ++ movie_settings)

-- the times of creation and change, the track and the duration
abbrev pub track_times : Movie → List ℕ
track_times m = zeros 16 ++ (word 1 ++ (zeros 4 ++ long m.kept))

-- the layer, the group, the volume, the matrix and the size of a picture
abbrev pub track_settings : List ℕ
track_settings = zeros 12 ++ (half 0x100 ++ (zeros 2 ++ (matrix ++ zeros 8)))

unfoldable pub tkhd_body : Movie → List ℕ
tkhd_body m = full 1 3 (track_times m ++ track_settings)

-- one edit: its duration, where it begins, and its rate
abbrev pub edit : Movie → List ℕ
edit m = word 1 ++ (long m.kept ++ (long m.trimmed ++ (half 1 ++ zeros 2)))

unfoldable pub elst_body : Movie → List ℕ
elst_body m = full 1 0 (edit m)

unfoldable pub mdhd_body : Movie → List ℕ
mdhd_body m = full 1 0 (zeros 16 ++ (word m.sample_rate ++ (long (count m * m.frame_length) ++ (half 0x55c4 ++ zeros 2))))

unfoldable pub hdlr_body : List ℕ
hdlr_body = full 0 0 (zeros 4 ++ (codes "soun" ++ zeros 13))

unfoldable pub smhd_body : List ℕ
smhd_body = full 0 0 (zeros 4)

unfoldable pub dinf_body : List ℕ
dinf_body = written (piece (codes "dref") (full 0 0 (word 1 ++ written (piece (codes "url ") (full 0 1 []) ∷ []))) ∷ [])

unfoldable pub iacb_body : Movie → List ℕ
iacb_body m = 1 ∷ (leb_bytes (length m.descriptors) ++ m.descriptors)

-- which data, and the fields of a sound that say nothing here
abbrev pub entry_fields : List ℕ
entry_fields = zeros 6 ++ (half 1 ++ (zeros 10 ++ (half 16 ++ zeros 8)))

abbrev pub entry_pieces : Movie → List Piece
entry_pieces m = piece IACB (iacb_body m) ∷ []

unfoldable pub entry_body : Movie → List ℕ
entry_body m = entry_fields ++ written (entry_pieces m)

abbrev pub stsd_pieces : Movie → List Piece
stsd_pieces m = piece IAMF (entry_body m) ∷ []

unfoldable pub stsd_body : Movie → List ℕ
stsd_body m = (word 0 ++ word 1) ++ written (stsd_pieces m)

-- a count and a row, or a count of none
abbrev pub rows : Bool → List ℕ → List ℕ
rows true row = word 0
rows false row = word 1 ++ row

unfoldable pub stts_body : Movie → List ℕ
stts_body m = word 0 ++ rows (count m == 0) (word (count m) ++ word m.frame_length)

unfoldable pub stsc_body : Movie → List ℕ
stsc_body m = word 0 ++ rows (count m == 0) (word 1 ++ (word (count m) ++ word 1))

-- the length of each unit
abbrev pub length_word : List ℕ → List ℕ
length_word u = word (length u)

unfoldable pub stsz_body : Movie → List ℕ
stsz_body m = word 0 ++ (word 0 ++ (word (count m) ++ flat_map length_word m.units))

unfoldable pub stco_body : Movie → ℕ → List ℕ
stco_body m place = word 0 ++ rows (count m == 0) (word place)

abbrev pub stbl_pieces : Movie → ℕ → List Piece
stbl_pieces m place = piece STSD (stsd_body m) ∷ piece STTS (stts_body m) ∷ piece STSC (stsc_body m) ∷ piece STSZ (stsz_body m) ∷ piece STCO (stco_body m place) ∷ []

unfoldable pub stbl_body : Movie → ℕ → List ℕ
stbl_body m place = written (stbl_pieces m place)

abbrev pub minf_pieces : Movie → ℕ → List Piece
minf_pieces m place = piece (codes "smhd") smhd_body ∷ piece (codes "dinf") dinf_body ∷ piece STBL (stbl_body m place) ∷ []

unfoldable pub minf_body : Movie → ℕ → List ℕ
minf_body m place = written (minf_pieces m place)

abbrev pub mdia_pieces : Movie → ℕ → List Piece
mdia_pieces m place = piece (codes "mdhd") (mdhd_body m) ∷ piece (codes "hdlr") hdlr_body ∷ piece MINF (minf_body m place) ∷ []

unfoldable pub mdia_body : Movie → ℕ → List ℕ
mdia_body m place = written (mdia_pieces m place)

abbrev pub edts_pieces : Movie → List Piece
edts_pieces m = piece ELST (elst_body m) ∷ []

unfoldable pub edts_body : Movie → List ℕ
edts_body m = written (edts_pieces m)

-- an edit stands only where some samples are trimmed
abbrev pub with_edit : Bool → Movie → List Piece → List Piece
with_edit true m ps = ps
with_edit false m ps = piece EDTS (edts_body m) ∷ ps

abbrev pub trak_pieces : Bool → Movie → ℕ → List Piece
trak_pieces whole m place = piece (codes "tkhd") (tkhd_body m) ∷ with_edit whole m (piece MDIA (mdia_body m place) ∷ [])

unfoldable pub trak_body : Movie → ℕ → List ℕ
trak_body m place = written (trak_pieces (m.kept == count m * m.frame_length) m place)

abbrev pub moov_pieces : Movie → ℕ → List Piece
moov_pieces m place = piece (codes "mvhd") (mvhd_body m) ∷ piece TRAK (trak_body m place) ∷ []

unfoldable pub moov_body : Movie → ℕ → List ℕ
moov_body m place = written (moov_pieces m place)

abbrev pub top_pieces : Movie → ℕ → List Piece
top_pieces m place = piece (codes "ftyp") ftyp_body ∷ piece MOOV (moov_body m place) ∷ piece (codes "mdat") (all_units m) ∷ []

-- where the chunk lies: after `ftyp`, `moov` and the header of `mdat`
abbrev pub data_place : Movie → ℕ
data_place m = 40 + length (moov_body m 0)

unfoldable pub file : Movie → List ℕ
file m = written (top_pieces m (data_place m))
