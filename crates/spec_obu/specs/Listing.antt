-- What a listing of the OBUs of some bytes is, and where it is refused. The OBUs follow one another with nothing between
-- (IAMF 1.0.0, "Open Bitstream Unit (OBU) Syntax and Semantics"); their payloads are not looked at. The form of the lines is this project's own.
use Rattle.std.specs.Prelude.{◌≡◌, ℕ, ◌+◌, ◌<◌, Bool, if◌then◌else◌, is_some, List, [], ◌∷◌, ◌++◌, length}
use Rattle.std.specs.Fmt.{decimal}
use Rattle.spec_obu.specs.declared.HeaderFault.{HeaderFault}
use Rattle.spec_obu.specs.Header.{Head, Header}
use Rattle.spec_obu.specs.Faults.{IsFirstFault}

-- an OBU of the input: its head, its payload and all its bytes
pub record Obu : Type 0 where
  pub head : Head
  pub payload : List ℕ
  pub bytes : List ℕ

abbrev pub AreObus : List Obu → Type 0
AreObus [] = Unit {0}
AreObus (o ∷ os) = Header o.head o.payload o.bytes × AreObus os

-- one after the other
abbrev pub joined : List Obu → List ℕ
joined [] = []
joined (o ∷ os) = o.bytes ++ joined os

-- a letter where there is the flag, else a dash
abbrev pub mark : ℕ → Bool → List ℕ
mark letter there = (if there then letter else 45) ∷ []

-- the place, the type and the length of the whole in decimal, and `r`, `t` and `x` for the redundant, the trimming and the extension flag
abbrev pub line : ℕ → Head → ℕ → List ℕ
line at h len = decimal at ++ 32 ∷ decimal h.kind ++ 32 ∷ decimal len ++ 32 ∷ mark 114 h.redundant ++ mark 116 (is_some h.trim) ++ mark 120 (is_some h.extension) ++ 10 ∷ []

abbrev pub lines : ℕ → List Obu → List ℕ
lines at [] = []
lines at (o ∷ os) = line at o.head (length o.bytes) ++ lines (at + length o.bytes) os

-- from the place on the bytes are OBUs, and these are their lines
pub record Lists (at : ℕ) (b text : List ℕ) : Type 0 where
  pub obus : List Obu
  pub are : AreObus obus
  pub whole : b ≡ joined obus
  pub text_is : text ≡ lines at obus

-- after some OBUs, at this place, the header has this fault
pub record Refuses (at : ℕ) (b : List ℕ) (place : ℕ) (f : HeaderFault) : Type 0 where
  pub obus : List Obu
  pub rest : List ℕ
  pub are : AreObus obus
  pub whole : b ≡ joined obus ++ rest
  pub place_is : place ≡ at + length (joined obus)
  pub begun : 0 < length rest
  pub fault : IsFirstFault f rest
