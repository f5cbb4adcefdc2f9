-- Lists of OBUs of some types: whole OBUs, each with its header, one after the other with nothing between.
use Rattle.std.specs.Prelude.{◌≡◌, ℕ, zero, suc, Bool, true, false, not, ◌||◌, if◌then◌else◌, List, [], ◌∷◌, length, drop, Option, Some, None, Result, Ok, Err}
use Rattle.spec_bits.specs.Bits.{AreBytes}
use Rattle.spec_obu.specs.declared.HeaderFault.{HeaderFault}
use Rattle.spec_obu.specs.declared.obu_type.ObuType.{ObuType}
use Rattle.spec_obu.specs.declared.obu_type.ObuType.TheVariants.{TemporalDelimiter}
use Rattle.spec_obu.specs.Kinds.{obu_type_of, is_descriptor, is_reserved}
use Rattle.spec_obu.specs.Header.{Header}
use Rattle.spec_obu.specs.Reading.{Front, header_at}
use Rattle.spec_obu.specs.Listing.{Obu, joined}

abbrev pub one_obu : (ℕ → Bool) → Result Front HeaderFault → Option ℕ
one_obu may (Ok r) = if may (r.0).kind then Some r.2 else None
one_obu may (Err e) = None

abbrev pub and_then : Option ℕ → (ℕ → Bool) → Bool
and_then None rest = false
and_then (Some n) rest = rest n

-- at most so many OBUs, each with a byte at least
abbrev pub obus : ℕ → (ℕ → Bool) → List ℕ → Bool
obus zero may bytes = true
obus (suc n) may [] = true
obus (suc n) may (x ∷ xs) = and_then (one_obu may (header_at (x ∷ xs))) (λ len. obus n may (drop len (x ∷ xs)))

unfoldable pub are_obus : (ℕ → Bool) → List ℕ → Bool
are_obus may bytes = obus (length bytes) may bytes

-- what the configuration holds (IAMF 1.0.0, "IA Configuration Box"); that reserved types may stand there is this project's own
abbrev pub describes : ObuType → Bool
describes obu_type = is_descriptor obu_type || is_reserved obu_type

abbrev pub in_config : ℕ → Bool
in_config kind = describes (obu_type_of kind)

abbrev pub delimits : ObuType → Bool
delimits TemporalDelimiter = true
delimits _ = false

-- what a sample holds (IAMF 1.0.0, "IA Sample Format")
abbrev pub in_sample : ℕ → Bool
in_sample kind = not (delimits (obu_type_of kind))

-- Whole OBUs that each pass a test.
abbrev pub AllPass : (Obu → Bool) → List Obu → Type 0
AllPass test [] = Unit {0}
AllPass test (o ∷ os) = Header o.head o.payload o.bytes × (test o ≡ true) × AllPass test os

-- these bytes are such OBUs, one after the other
pub record WholeObus (test : Obu → Bool) (bytes : List ℕ) : Type 0 where
  pub obus : List Obu
  pub all : AllPass test obus
  pub bytes_are : bytes ≡ joined obus

-- the OBU is of a type that may stand there
abbrev pub of_kind : (ℕ → Bool) → Obu → Bool
of_kind may o = may o.head.kind

-- what passes is whole OBUs, and whole OBUs pass
abbrev pub ObusAreWhole : Type 0
ObusAreWhole = (may : ℕ → Bool) (bytes : List ℕ) → AreBytes bytes → are_obus may bytes ≡ true → WholeObus (of_kind may) bytes

abbrev pub WholeAreObus : Type 0
WholeAreObus = (may : ℕ → Bool) (bytes : List ℕ) → WholeObus (of_kind may) bytes → are_obus may bytes ≡ true
