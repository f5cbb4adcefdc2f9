-- Why no header stands at the front of the bytes (IAMF 1.0.0, "OBU Header Syntax and Semantics").
-- The names of the faults and the order of the tests are this project's own.
use Rattle.std.specs.Prelude.{◌≡◌, ℕ, ◌+◌, ◌^◌, ◌<◌, ◌≤◌, ◌⊎◌, Bool, false, IsTrue, is_some, List, ◌++◌, length, take, drop, slice_index, Option}
use Rattle.spec_bits.specs.declared.FieldFault.{FieldFault}
use Rattle.spec_bits.specs.declared.FieldFault.TheVariants as field
use Rattle.spec_bits.specs.Leb.{IsLeb, LebFault, EndsAtLast, leb_value}
use Rattle.spec_obu.specs.declared.HeaderFault.{HeaderFault}
use Rattle.spec_obu.specs.declared.HeaderFault.TheVariants.{Leb, ObuSize, Flags, HeaderSize, Cut}
use Rattle.spec_obu.specs.declared.trim.Trim.{Trim}
use Rattle.spec_obu.specs.Header.{IsTrim, is_trimmed, is_extended, flags_allowed}

-- `obu_size` is whole: the n bytes after the first byte are its field, up to the first byte below 128, and it says v
pub record SizeIs (after : List ℕ) (n v : ℕ) : Type 0 where
  pub few : n ≤ 8
  pub there : n ≤ length after
  pub ends : EndsAtLast (take n after)
  pub value : leb_value (take n after) ≡ v

-- no number is spelled at the front of the bytes
abbrev pub NumberFails : List ℕ → Type 0
NumberFails b = (f : FieldFault) × LebFault f b

-- a number is spelled at the front of the bytes, and it and the bytes after it are so
pub record AfterNumber (P : ℕ → List ℕ → Type 0) (b : List ℕ) : Type 0 where
  pub value : ℕ
  pub front : List ℕ
  pub rest : List ℕ
  pub is : IsLeb value front
  pub parts : b ≡ front ++ rest
  pub has : P value rest

-- one of the two trims has a fault
abbrev pub TrimsFail : List ℕ → Type 0
TrimsFail b = NumberFails b ⊎ AfterNumber (λ _ rest. NumberFails rest) b

-- `extension_header_size` has a fault, or says more bytes than there are
abbrev pub ExtensionFails : List ℕ → Type 0
ExtensionFails b = NumberFails b ⊎ AfterNumber (λ size rest. length rest < size) b

-- the trims, where the flag says that there are some, are spelled at the front of the bytes, and the bytes after them are so
pub record AfterTrims (trimmed : Bool) (P : List ℕ → Type 0) (b : List ℕ) : Type 0 where
  pub trim : Option Trim
  pub front : List ℕ
  pub rest : List ℕ
  pub there : is_some trim ≡ trimmed
  pub is : IsTrim trim front
  pub parts : b ≡ front ++ rest
  pub has : P rest

-- within the bytes that `obu_size` counts, the trims or the extension have a fault
abbrev pub FieldsFail : ℕ → List ℕ → Type 0
FieldsFail x b = (IsTrue (is_trimmed x) × TrimsFail b) ⊎ (IsTrue (is_extended x) × AfterTrims (is_trimmed x) ExtensionFails b)

-- The ways in which a header fails, where x is its first byte and the bytes after it are these.

-- the first 8 bytes all say that another follows, or the number is 2 ^ 32 or more
abbrev pub SizeFails : List ℕ → Type 0
SizeFails after = LebFault field.Leb after

-- the first byte, `obu_size` and what it counts are more than 2 ^ 21 bytes
abbrev pub IsTooLong : List ℕ → Type 0
IsTooLong after = (n : ℕ) × (v : ℕ) × SizeIs after n v × (2 ^ 21 < 1 + n + v)

abbrev pub FlagsFail : ℕ → Type 0
FlagsFail x = flags_allowed x ≡ false

-- `obu_size` is not whole, or the bytes end before what it counts
abbrev pub IsCut : List ℕ → Type 0
IsCut after = ((n v : ℕ) → SizeIs after n v → ⊥) ⊎ ((n : ℕ) × (v : ℕ) × SizeIs after n v × (length after < n + v))

abbrev pub BodyFails : ℕ → List ℕ → Type 0
BodyFails x after = (n : ℕ) × (v : ℕ) × SizeIs after n v × FieldsFail x (take v (drop n after))

-- the header has this fault, whatever other faults it has
abbrev pub Has : HeaderFault → ℕ → List ℕ → Type 0
Has Leb x after = SizeFails after
Has ObuSize x after = IsTooLong after
Has Flags x after = FlagsFail x
Has Cut x after = IsCut after
Has HeaderSize x after = BodyFails x after

-- the order of the tests
abbrev pub rank : HeaderFault → ℕ
rank Leb = 0
rank ObuSize = 1
rank Flags = 2
rank Cut = 3
rank HeaderSize = 4

-- the fault is there, and none that is tested before it
pub record IsFirstFault (f : HeaderFault) (b : List ℕ) : Type 0 where
  pub here : Has f (slice_index b 0) (drop 1 b)
  pub first : (g : HeaderFault) → rank g < rank f → Has g (slice_index b 0) (drop 1 b) → ⊥
