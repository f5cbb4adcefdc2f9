-- Bytes that are not none begin with one header or have one first fault, and they have one listing or one refusal.
use Rattle.std.specs.Prelude.{◌≡◌, ℕ, ◌<◌, ◌≤◌, ◌⊎◌, List, ◌∷◌, ◌++◌, length, take, Ok, Err}
use Rattle.spec_bits.specs.Bits.{AreBytes}
use Rattle.spec_obu.specs.declared.HeaderFault.{HeaderFault}
use Rattle.spec_obu.specs.Header.{Head, Header}
use Rattle.spec_obu.specs.Faults.{IsFirstFault}
use Rattle.spec_obu.specs.Reading.{header_at}
use Rattle.spec_obu.specs.Canonical.{canonical_header}
use Rattle.spec_obu.specs.Listing.{Lists, Refuses}

-- ---- one header or one fault

-- a header and its payload stand at the front of the bytes
pub record HasHeader (b : List ℕ) : Type 0 where
  pub head : Head
  pub payload : List ℕ
  pub front : List ℕ
  pub rest : List ℕ
  pub is : Header head payload front
  pub parts : b ≡ front ++ rest

abbrev pub EitherHeaderOrFault : Type 0
EitherHeaderOrFault = (b : List ℕ) → AreBytes b → 0 < length b → HasHeader b ⊎ ((f : HeaderFault) × IsFirstFault f b)

abbrev pub NotHeaderAndFault : Type 0
NotHeaderAndFault = (b : List ℕ) (f : HeaderFault) → 0 < length b → HasHeader b → IsFirstFault f b → ⊥

-- no header with its payload begins another, and what is spelled has one value
abbrev pub OneValue : Type 0
OneValue = (h k : Head) (payload other front start rest after : List ℕ) → Header h payload front → Header k other start → front ++ rest ≡ start ++ after
    → (h ≡ k) × (payload ≡ other) × (front ≡ start)

abbrev pub OneFault : Type 0
OneFault = (b : List ℕ) (f g : HeaderFault) → IsFirstFault f b → IsFirstFault g b → f ≡ g

-- ---- the canonical spelling

-- what has a spelling has the canonical one
abbrev pub CanonicalIsHeader : Type 0
CanonicalIsHeader = (h : Head) (payload b : List ℕ) → Header h payload b → Header h payload (canonical_header h payload)

abbrev pub CanonicalIsShortest : Type 0
CanonicalIsShortest = (h : Head) (payload b : List ℕ) → Header h payload b → length (canonical_header h payload) ≤ length b

-- ---- reading

-- what is read is a header and its payload, at the front of the bytes
abbrev pub HeaderIsRead : Type 0
HeaderIsRead = (x : ℕ) (after payload : List ℕ) (h : Head) (len : ℕ) → x < 256 → header_at (x ∷ after) ≡ Ok (h, payload, len)
    → (len ≤ length (x ∷ after)) × Header h payload (take len (x ∷ after))

-- a header and its payload are read, whatever follows
abbrev pub HeaderIsReadAgain : Type 0
HeaderIsReadAgain = (h : Head) (payload front rest : List ℕ) → Header h payload front → header_at (front ++ rest) ≡ Ok (h, payload, length front)

-- the fault that is answered is the first
abbrev pub HeaderFails : Type 0
HeaderFails = (x : ℕ) (after : List ℕ) (f : HeaderFault) → header_at (x ∷ after) ≡ Err f → IsFirstFault f (x ∷ after)

-- and no other is
abbrev pub HeaderFailsOnly : Type 0
HeaderFailsOnly = (x : ℕ) (after : List ℕ) (f : HeaderFault) → IsFirstFault f (x ∷ after) → header_at (x ∷ after) ≡ Err f

-- ---- listings

abbrev pub ListedIsNotRefused : Type 0
ListedIsNotRefused = (at : ℕ) (b text : List ℕ) (place : ℕ) (f : HeaderFault) → Lists at b text → Refuses at b place f → ⊥

abbrev pub EitherListedOrRefused : Type 0
EitherListedOrRefused = (at : ℕ) (b : List ℕ) → AreBytes b → ((text : List ℕ) × Lists at b text) ⊎ ((place : ℕ) × (f : HeaderFault) × Refuses at b place f)

abbrev pub OneListing : Type 0
OneListing = (at : ℕ) (b text other : List ℕ) → Lists at b text → Lists at b other → text ≡ other

abbrev pub OneRefusal : Type 0
OneRefusal = (at : ℕ) (b : List ℕ) (place other : ℕ) (f g : HeaderFault) → Refuses at b place f → Refuses at b other g → (place ≡ other) × (f ≡ g)
