-- The groups of samples for pre-roll (ISO/IEC 14496-12, "Sample Group Description Box" and "Sample to Group Box").
-- Which versions are tested, and that the rest is passed over, is this project's own.
use Rattle.std.specs.Prelude.{ℕ, zero, suc, ◌+◌, ◌*◌, ◌==◌, nat_lt, nat_le, nat_eq, Bool, true, not, ◌&&◌, ◌||◌, if◌then◌else◌, List, [], ◌∷◌, length, sum, slice_index, Result, Ok}
use Rattle.std.specs.Cmp.Lexicographic.{pointwise}
use Rattle.spec_boxes.specs.declared.kinds.TheConstants.{SGPD, SBGP, ROLL}
use Rattle.spec_boxes.specs.declared.fault.BoxFault.TheVariants.{Roll}
use Rattle.spec_boxes.specs.declared.fault.BoxRefusal.{BoxRefusal}
use Rattle.spec_boxes.specs.Bytes.{word_at, kind_at}
use Rattle.spec_boxes.specs.Boxes.{Box, refuse}
use Rattle.spec_boxes.specs.Parts.{kind_is}
use Rattle.spec_boxes.specs.Tables.{payload, words}

-- so many entries from a place on, each with its own length before it.
abbrev pub entries_from : ℕ → List ℕ → ℕ → Bool
entries_from zero p at = true
entries_from (suc n) p at = nat_le (at + 4) (length p) && (nat_le 2 (word_at p at) && (nat_le (at + 4 + word_at p at) (length p) && entries_from n p (at + 4 + word_at p at)))

abbrev pub descriptions_fit : List ℕ → Bool
descriptions_fit p =
    nat_le 16 (length p) && (if word_at p 8 == 0 then entries_from (word_at p 12) p 16
    else (word_at p 12 == 0) || (nat_le 2 (word_at p 8) && nat_le (16 + word_at p 8 * word_at p 12) (length p)))

abbrev pub groups_fit : ℕ → List ℕ → ℕ → Bool
groups_fit samples p at =
    nat_le (at + 4) (length p) && (nat_le (at + 4 + 8 * word_at p at) (length p) && nat_le (sum (words 8 (word_at p at) p (at + 4))) samples)

abbrev pub group_fits : ℕ → Box → List ℕ → Bool
group_fits samples b p =
    if nat_lt (length p) 8 || not (pointwise nat_eq (kind_at p 4) ROLL) then true
    else if kind_is SGPD b && (slice_index p 0 == 1) then descriptions_fit p
    else if kind_is SBGP b && nat_le (slice_index p 0) 1 then groups_fit samples p (if slice_index p 0 == 1 then 12 else 8)
    else true

abbrev pub groups_at : List ℕ → ℕ → List Box → Result (Unit {0}) BoxRefusal
groups_at f samples [] = Ok tt
groups_at f samples (b ∷ bs) = if group_fits samples b (payload f b) then groups_at f samples bs else refuse b.at Roll
