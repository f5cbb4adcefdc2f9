-- The header of an OBU and its spellings (IAMF 1.0.0, "OBU Header Syntax and Semantics").
use Rattle.std.specs.Prelude.{◌≡◌, ℕ, ◌+◌, ◌*◌, ◌/◌, ◌%◌, ◌^◌, ◌<◌, ◌≤◌, Bool, ◌&&◌, ◌||◌, not, ◌==◌, if◌then◌else◌, is_some, IsTrue, List, [], ◌∷◌, ◌++◌, length, Option, Some, None}
use Rattle.spec_bits.specs.Leb.{IsLeb}
use Rattle.spec_obu.specs.declared.obu_type.ObuType.{ObuType}
use Rattle.spec_obu.specs.declared.trim.Trim.{Trim}
use Rattle.spec_obu.specs.Kinds.{obu_type_of, is_data, is_audio_frame, is_reserved}

-- What the fields of a header say, without how they are spelled. `kind` is `obu_type`; an extension is its bytes.
pub record Head : Type 0 where
  pub kind : ℕ
  pub redundant : Bool
  pub trim : Option Trim
  pub extension : Option (List ℕ)

-- The trimming flag stands on audio frames alone, and the redundant flag on descriptors and reserved types alone.
-- That a flag anywhere else is refused is this project's own rule.
abbrev pub are_allowed : ObuType → Bool → Bool → Bool
are_allowed obu_type redundant trimmed = (not trimmed || is_audio_frame obu_type) && (not redundant || not (is_data obu_type))

-- a redundant copy of a descriptor; of a reserved type the flag says nothing
abbrev pub is_copy : Head → Bool
is_copy h = h.redundant && not (is_reserved (obu_type_of h.kind))

abbrev pub digit : Bool → ℕ
digit b = if b then 1 else 0

-- `obu_type` in five bits, `obu_redundant_copy`, `obu_trimming_status_flag` and `obu_extension_flag`
abbrev pub first_byte : Head → ℕ
first_byte h = 8 * h.kind + 4 * digit h.redundant + 2 * digit (is_some h.trim) + digit (is_some h.extension)

abbrev pub IsTrim : Option Trim → List ℕ → Type 0
IsTrim None b = b ≡ []
IsTrim (Some t) b = (e : List ℕ) × (s : List ℕ) × IsLeb t.end e × IsLeb t.start s × (b ≡ e ++ s)

-- `extension_header_size`, and so many bytes
abbrev pub IsExtension : Option (List ℕ) → List ℕ → Type 0
IsExtension None b = b ≡ []
IsExtension (Some x) b = (n : List ℕ) × IsLeb (length x) n × (b ≡ n ++ x)

-- The bytes are a header and then the payload, and nothing after it. `obu_size` counts all that follows it.
-- At most 2 ^ 21 bytes, all told: this project's own limit.
pub record Header (h : Head) (payload b : List ℕ) : Type 0 where
  pub size : List ℕ
  pub trim : List ℕ
  pub extension : List ℕ
  pub bytes : b ≡ first_byte h ∷ size ++ (trim ++ (extension ++ payload))
  pub size_is : IsLeb (length (trim ++ (extension ++ payload))) size
  pub trim_is : IsTrim h.trim trim
  pub extension_is : IsExtension h.extension extension
  pub kind_is : h.kind < 32
  pub allowed : IsTrue (are_allowed (obu_type_of h.kind) h.redundant (is_some h.trim))
  pub short : length b ≤ 2 ^ 21

-- what a first byte says

abbrev pub kind_of : ℕ → ℕ
kind_of x = x / 8

abbrev pub is_redundant : ℕ → Bool
is_redundant x = x / 4 % 2 == 1

abbrev pub is_trimmed : ℕ → Bool
is_trimmed x = x / 2 % 2 == 1

abbrev pub is_extended : ℕ → Bool
is_extended x = x % 2 == 1

abbrev pub flags_allowed : ℕ → Bool
flags_allowed x = are_allowed (obu_type_of (kind_of x)) (is_redundant x) (is_trimmed x)
