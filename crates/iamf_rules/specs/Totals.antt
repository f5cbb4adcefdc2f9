-- No definitions: totals of channels as far as a number of 32 bits holds them, for the prover.
use Rattle.std.specs.Prelude.{◌≡◌, ℕ, ◌-◌, ◌^◌, min, List, sum, Option, Some, None}
use Rattle.std.specs.Option.{option_map}
use Rattle.std.specs.Ordering.{nat_cmp}
use Rattle.std.specs.BTreeMap.{BTreeMap, get}
use Rattle.spec_rules.specs.Role.{ElementRole}
use Rattle.spec_rules.specs.Profile.{channels_of_element}

abbrev pub capped : ℕ → ℕ
capped n = min n (2 ^ 32 - 1)

abbrev pub total_of : List ℕ → ℕ
total_of channels = capped (sum channels)

abbrev pub joined : Option (Option ℕ) → Option ℕ
joined None = None
joined (Some total) = total

-- the map has the channels of each element in which they are known
abbrev pub HasTotals : BTreeMap ℕ (Option ℕ) → List ElementRole → Type 0
HasTotals totals es = (id : ℕ) → joined (get nat_cmp totals id) ≡ option_map total_of (channels_of_element es id)
