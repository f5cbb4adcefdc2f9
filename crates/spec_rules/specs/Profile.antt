-- Which mixes fit a profile (IAMF 1.0.0, "IA Profiles": the Simple and the Base profile). The wide profile is this project's own.
use Rattle.std.specs.Prelude.{ℕ, ◌+◌, ◌==◌, nat_le, Bool, false, ◌&&◌, if◌then◌else◌, List, [], ◌∷◌, length, sum, Option, Some, None}
use Rattle.std.specs.List.{list_any}
use Rattle.spec_rules.specs.Role.{ElementRole, MixRole, Role}
use Rattle.spec_rules.specs.Descriptors.{profiles, elements, mixes}

-- the channels of the first element with the id, where they are known
abbrev pub channels_of_element : List ElementRole → ℕ → Option (List ℕ)
channels_of_element [] id = None
channels_of_element (e ∷ es) id = if e.id == id then e.channels else channels_of_element es id

abbrev pub plus : Option (List ℕ) → Option ℕ → Option ℕ
plus None total = None
plus (Some channels) None = None
plus (Some channels) (Some total) = Some (sum channels + total)

-- The coded channels of all elements of a sub-mix, where all are known. One that is named twice counts twice.
abbrev pub channels_of_sub_mix : List ElementRole → List ℕ → Option ℕ
channels_of_sub_mix es [] = Some 0
channels_of_sub_mix es (id ∷ ids) = plus (channels_of_element es id) (channels_of_sub_mix es ids)

-- Simple is 0: one element and at most 16 channels. Base is 1: one or two elements and at most 18 channels. Wide is 2: from
-- 1 to 28 elements and at most 28 channels.
abbrev pub are_within : (primary_profile elements channels : ℕ) → Bool
are_within primary_profile elements channels =
    if primary_profile == 0 then elements == 1 && nat_le channels 16
    else if primary_profile == 1 then nat_le 1 elements && (nat_le elements 2 && nat_le channels 18)
    else nat_le 1 elements && (nat_le elements 28 && nat_le channels 28)

abbrev pub fits_channels : ℕ → ℕ → Option ℕ → Bool
fits_channels primary_profile count None = false
fits_channels primary_profile count (Some channels) = are_within primary_profile count channels

-- a mix of exactly one sub-mix, which fits; these are its elements
abbrev pub fits_sub_mixes : ℕ → List ElementRole → (sub_mixes : ℕ) → List ℕ → Bool
fits_sub_mixes primary_profile es sub_mixes ids = sub_mixes == 1 && fits_channels primary_profile (length ids) (channels_of_sub_mix es ids)

abbrev pub first_profile : List ℕ → ℕ
first_profile [] = 0
first_profile (p ∷ ps) = p

unfoldable pub fits : List Role → MixRole → Bool
fits l m = fits_sub_mixes (first_profile (profiles l)) (elements l) m.sub_mixes m.elements

unfoldable pub has_fit : List Role → Bool
has_fit l = list_any (fits l) (mixes l)
