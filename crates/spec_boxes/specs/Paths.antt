-- The way from a file to the tables of its audio track.
use Rattle.std.specs.Prelude.{ℕ, ◌-◌, nat_lt, Bool, true, false, if◌then◌else◌, List, [], ◌∷◌, length, find, filter, Option, Some, None, Result, Ok}
use Rattle.spec_boxes.specs.declared.kinds.TheConstants.{MOOV, MOOF, MVEX, TRAK, MDIA, MINF, STBL, STSD, IAMF}
use Rattle.spec_boxes.specs.declared.fault.BoxFault.TheVariants.{Missing}
use Rattle.spec_boxes.specs.declared.fault.BoxRefusal.{BoxRefusal}
use Rattle.spec_bits.specs.ByteReading.{◌>>=◌}
use Rattle.spec_boxes.specs.Boxes.{Box, tiles, refuse, ◌>>◌}
use Rattle.spec_boxes.specs.Parts.{kind_is, either_is, exactly_one, none_of, children}

-- the boxes of a track that the rules use
pub record Way : Type 0 where
  pub trak : Box
  pub in_trak : List Box
  pub stbl : Box
  pub in_stbl : List Box
  pub entry : Box

-- goes on with the first box of the kind, if there is one
abbrev pub go_on : Option Box → (Box → Result (Option Way) BoxRefusal) → Result (Option Way) BoxRefusal
go_on None next = Ok None
go_on (Some b) next = next b

abbrev pub through : List ℕ → List Box → (Box → Result (Option Way) BoxRefusal) → Result (Option Way) BoxRefusal
through kind bs next = go_on (find (kind_is kind) bs) next

-- the way, where the first entry is of the kind
abbrev pub by_entry : Box → List Box → Box → List Box → List Box → Option Way
by_entry trak in_trak stbl in_stbl [] = None
by_entry trak in_trak stbl in_stbl (entry ∷ more) =
    if kind_is IAMF entry then Some (record { trak = trak; in_trak = in_trak; stbl = stbl; in_stbl = in_stbl; entry = entry }) else None

-- the way through a track
unfoldable pub walk_at : List ℕ → Box → Result (Option Way) BoxRefusal
walk_at f trak =
    children f trak 0 >>= λ in_trak. through MDIA in_trak (λ mdia.
    children f mdia 0 >>= λ in_mdia. through MINF in_mdia (λ minf.
    children f minf 0 >>= λ in_minf. through STBL in_minf (λ stbl.
    children f stbl 0 >>= λ in_stbl. through STSD in_stbl (λ stsd.
    if nat_lt (stsd.end - stsd.start) 8 then Ok None
    else (children f stsd 8 >>= λ entries. Ok (by_entry trak in_trak stbl in_stbl entries))))))

abbrev pub or_else : Option Way → Result (Option Way) BoxRefusal → Result (Option Way) BoxRefusal
or_else None other = other
or_else (Some w) other = Ok (Some w)

-- the way through the first track that has one
abbrev pub audio_in : List ℕ → List Box → Result (Option Way) BoxRefusal
audio_in f [] = Ok None
audio_in f (b ∷ bs) = if kind_is TRAK b then (walk_at f b >>= λ w. or_else w (audio_in f bs)) else audio_in f bs

abbrev pub must : Box → Option Way → Result Way BoxRefusal
must moov None = refuse moov.at (Missing IAMF)
must moov (Some w) = Ok w

-- a test that only whole files have to pass, and fragmented ones not
abbrev pub only_if : Bool → Result (Unit {0}) BoxRefusal → Result (Unit {0}) BoxRefusal
only_if true r = r
only_if false r = Ok tt

-- The first two rules.
unfoldable pub found_at : Bool → List ℕ → Result Way BoxRefusal
found_at whole f = do
  top ← tiles true f 0 (length f)
  moov ← exactly_one 0 MOOV (filter (either_is MOOV MOOV) top)
  only_if whole (none_of MOOF top)
  in_moov ← children f moov 0
  only_if whole (none_of MVEX in_moov)
  way ← audio_in f in_moov
  must moov way
