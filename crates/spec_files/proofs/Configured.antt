-- The configuration, the edits and the groups of a written file.
use Rattle.std.proofs.Common.{◌≡◌, ℕ, zero, suc, ◌+◌, ◌-◌, ◌/◌, ◌%◌, ◌^◌, ◌<◌, ◌≤◌, Bool, true, false, nat_lt, List, [], ◌∷◌, ◌++◌, length, Some, Ok, refl, sym, ap, ◌∙◌, arith, length-append}
use Rattle.std.specs.Prelude.{if◌then◌else◌, ◌&&◌, not, find}
use Rattle.std.proofs.lemmas.Bool.{le-ltb}
use Rattle.std.proofs.Math.Seq.{take-length, drop-length}
use Rattle.spec_bits.specs.ByteReading.{leb_at, bytes_at}
use Rattle.spec_bits.specs.Leb.{leb_bytes, leb_within}
use Rattle.spec_bits.proofs.LebLaws.{leb_again}
use Rattle.spec_bits.proofs.CanonLaws.{leb_canonical}
use Rattle.spec_boxes.specs.declared.kinds.TheConstants.{EDTS, ELST, SGPD, SBGP, IACB, IAMF}
use Rattle.spec_boxes.specs.Boxes.{Box}
use Rattle.spec_boxes.specs.Parts.{kind_is}
use Rattle.spec_boxes.specs.Tables.{payload}
use Rattle.spec_boxes.specs.Edits.{elst_reads, edits_at}
use Rattle.spec_boxes.specs.Groups.{group_fits, groups_at}
use Rattle.spec_boxes.specs.ObuLists.{are_obus, in_config}
use Rattle.spec_boxes.specs.Configuration.{config_in, config_at}
use Rattle.spec_files.specs.Pieces.{Piece, piece, written, piece_is}
use Rattle.spec_files.specs.MovieFile.{Movie, elst_body, edts_body, edts_pieces, trak_pieces, iacb_body, entry_fields, entry_pieces, entry_body}
use Rattle.spec_files.proofs.Placed.{IsBox, AreBoxes, Inside, inside, Found, first_found, no_box, none_found, Only, only_found, payload_is}

-- The shortest leb128 has few bytes, and is read.
few_or : (t : Bool) (k x : ℕ) (rest : List ℕ) → length rest ≤ k + 1 → length (if t then x ∷ [] else (128 + x % 128) ∷ rest) ≤ suc k + 1
few_or true k x rest few = omega arith
few_or false k x rest few = omega (arith, few)

few_by : (k x : ℕ) → length (leb_within k x) ≤ k + 1
few_by zero x = omega arith
few_by (suc k) x = few_or (nat_lt x 128) k x (leb_within k (x / 128)) (few_by k (x / 128))

pub length-leb_bytes : (x : ℕ) → length (leb_bytes x) ≤ 5
unfolding leb_bytes
length-leb_bytes x = few_by 4 x

leb_read : (x : ℕ) (rest : List ℕ) → x < 2 ^ 32 → leb_at (leb_bytes x ++ rest) ≡ Ok (x, rest)
leb_read x rest small = leb_again (leb_bytes x) rest x (leb_canonical x small).1

all_bytes : (d : List ℕ) → bytes_at (length d) d ≡ Ok (d, [])
unfolding bytes_at
all_bytes d = let e : nat_lt (length d) (length d) ≡ false = le-ltb _ _ (omega arith) in rw (e, take-length d, drop-length d) refl

config_read : (b : Box) (m : Movie) → length m.descriptors < 2 ^ 32 → are_obus in_config m.descriptors ≡ true → config_in b (iacb_body m) ≡ Ok m.descriptors
unfolding config_in iacb_body
config_read b m small fine = rw (leb_read (length m.descriptors) m.descriptors small, all_bytes m.descriptors, fine) refl

entry_is : (m : Movie) → entry_body m ≡ entry_fields ++ written (entry_pieces m)
unfolding entry_body
entry_is m = refl

by_entry : (f : List ℕ) (m : Movie) (entry : Box) (a : Inside f entry 28 (entry_pieces m)) (iacb : Only f entry.at IACB IACB a.boxes (piece IACB (iacb_body m)))
    → nat_lt (entry.end - entry.start) 28 ≡ false → config_in iacb.box (payload f iacb.box) ≡ Ok m.descriptors → config_at f entry ≡ Ok m.descriptors
unfolding config_at
by_entry f m entry a iacb room read = rw (room, a.is, iacb.is, read) refl

pub configured : (f : List ℕ) (m : Movie) (entry : Box) → IsBox f entry (piece IAMF (entry_body m)) → length f < 2 ^ 32 → length m.descriptors < 2 ^ 32 → are_obus in_config m.descriptors ≡ true → config_at f entry ≡ Ok m.descriptors
configured f m entry is small few fine =
    let a = inside f entry (piece IAMF (entry_body m)) entry_fields (entry_pieces m) 28 is (entry_is m) refl small refl in
    let iacb = only_found f entry.at IACB IACB a.boxes (entry_pieces m) (piece IACB (iacb_body m)) a.are refl in
    let n : length (entry_body m) ≡ 28 + length (written (entry_pieces m)) = ap length (entry_is m) ∙ length-append entry_fields (written (entry_pieces m)) in
    by_entry f m entry a iacb (le-ltb _ _ (omega (arith, is.end, n))) (rw (payload_is f iacb.box _ iacb.stands) (config_read iacb.box m few fine))

-- an edit list reads
elst_by : (f : List ℕ) (b : Box) (m : Movie) → payload f b ≡ elst_body m → elst_reads f (Some b) ≡ Ok tt
unfolding elst_body
elst_by f b m is = rw is refl

edts_is : (m : Movie) → edts_body m ≡ [] ++ written (edts_pieces m)
unfolding edts_body
edts_is m = refl

edits_by : (f : List ℕ) (m : Movie) (bs : List Box) (edts : Found f EDTS bs (piece EDTS (edts_body m))) (a : Inside f edts.box 0 (edts_pieces m)) (elst : Found f ELST a.boxes (piece ELST (elst_body m))) → edits_at f bs ≡ Ok tt
unfolding edits_at
edits_by f m bs edts a elst = rw (edts.is, a.is, elst.is) (elst_by f elst.box m (payload_is f elst.box _ elst.stands))

no_edits : (f : List ℕ) (bs : List Box) → find (kind_is EDTS) bs ≡ no_box → edits_at f bs ≡ Ok tt
unfolding edits_at
no_edits f bs none = rw none refl

pub edits_read : (whole : Bool) (f : List ℕ) (m : Movie) (place : ℕ) (bs : List Box) → AreBoxes f bs (trak_pieces whole m place) → length f < 2 ^ 32 → edits_at f bs ≡ Ok tt
edits_read true f m place bs are small = no_edits f bs (none_found f EDTS bs (trak_pieces true m place) are refl)
edits_read false f m place bs are small =
    let edts = first_found f EDTS bs (trak_pieces false m place) (piece EDTS (edts_body m)) are refl in
    let a = inside f edts.box (piece EDTS (edts_body m)) [] (edts_pieces m) 0 edts.stands (edts_is m) refl small refl in
    let elst = first_found f ELST a.boxes (edts_pieces m) (piece ELST (elst_body m)) a.are refl in
    edits_by f m bs edts a elst

-- boxes of other kinds are no groups
abbrev pub ungrouped : List Piece → Bool
ungrouped [] = true
ungrouped (p ∷ ps) = not (piece_is SGPD p) && (not (piece_is SBGP p) && ungrouped ps)

both_true : (c : Bool) → (if c then true else true) ≡ true
both_true true = refl
both_true false = refl

not_true : (b : Bool) → not b ≡ true → b ≡ false
not_true true h = sym h
not_true false h = refl

and_true : (a b : Bool) → (a && b) ≡ true → (a ≡ true) × (b ≡ true)
and_true true b h = (refl, h)
and_true false b h = cc

other_fits : (samples : ℕ) (b : Box) (p : List ℕ) → kind_is SGPD b ≡ false → kind_is SBGP b ≡ false → group_fits samples b p ≡ true
other_fits samples b p one two = rw (one, two) (both_true _)

pub no_groups : (f : List ℕ) (samples : ℕ) (bs : List Box) (ps : List Piece) → AreBoxes f bs ps → ungrouped ps ≡ true → groups_at f samples bs ≡ Ok tt
no_groups f samples [] ps are plain = refl
no_groups f samples (b ∷ bs) [] are plain = absurd are
no_groups f samples (b ∷ bs) (p ∷ ps) are plain =
    let h = and_true _ _ plain in
    let k = and_true _ _ h.1 in
    let one : kind_is SGPD b ≡ false = rw (are.0).kind (not_true _ h.0) in
    let two : kind_is SBGP b ≡ false = rw (are.0).kind (not_true _ k.0) in
    rw (other_fits samples b (payload f b) one two) (no_groups f samples bs ps are.1 k.1)
