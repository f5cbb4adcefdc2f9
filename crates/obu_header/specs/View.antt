-- A header that was read, without where it lies.
use Rattle.std.specs.Prelude.{◌≡◌, ℕ, ◌-◌, List, ◌++◌, length, drop, Result, Ok, Err}
use Rattle.std.specs.Option.{option_copied}
use Rattle.std.specs.Borrow.{Bor}
use Rattle.spec_bits.specs.declared.FieldFault.{FieldFault}
use Rattle.spec_obu.specs.declared.HeaderFault.{HeaderFault}
use Rattle.spec_obu.specs.Header.{Head}
use Rattle.spec_obu.specs.Reading.{Front, header_at}
use Rattle.spec_obu.specs.Canonical.{canonical_header}
use Rattle.obu_header.specs.declared.head.ObuHead.{ObuHead}
use Rattle.obu_header.specs.declared.view.ObuView.{ObuView}

abbrev pub head_of : ObuHead → Head
head_of h = record { kind = h.kind; redundant = h.redundant; trim = h.trim; extension = option_copied h.extension }

-- the fields that were read are what reading gives
abbrev pub ReadsFields : Result (ObuHead × Bor (List ℕ)) FieldFault → Result (Head × List ℕ) FieldFault → Type 0
ReadsFields (Ok r) read = read ≡ Ok (head_of r.0, r.1.now)
ReadsFields (Err f) read = read ≡ Err f

-- what was read at a place is what reading gives
abbrev pub ReadsAt : ℕ → Result ObuView HeaderFault → Result Front HeaderFault → Type 0
ReadsAt at (Ok o) read = read ≡ Ok (head_of o.head, o.payload.now, o.end - at)
ReadsAt at (Err f) read = read ≡ Err f

-- it was read, with this head, this payload and this length
abbrev pub IsObu : Head → List ℕ → ℕ → ℕ → Result ObuView HeaderFault → Type 0
IsObu head payload len at (Ok o) = (head_of o.head ≡ head) × (o.payload.now ≡ payload) × (o.end - at ≡ len)
IsObu head payload len at (Err f) = ⊥

-- Wherever the canonical spelling stands among other bytes, what `read_obu` answers at its place is the head and the payload.
abbrev pub IsReadBack : Head → List ℕ → Type 0
IsReadBack head payload = (before after : List ℕ) (answer : Result ObuView HeaderFault)
    → ReadsAt (length before) answer (header_at (drop (length before) (before ++ (canonical_header head payload ++ after))))
    → IsObu head payload (length (canonical_header head payload)) (length before) answer
