-- No definitions: what the calls on maps of slots leave, for the prover.
use Rattle.std.specs.Prelude.{◌≡◌, ℕ, ◌+◌, true, if◌then◌else◌, List, length, slice_get, Option, Some, None}
use Rattle.std.specs.Ordering.{nat_cmp}
use Rattle.std.specs.BTreeMap.{BTreeMap, get, btree_map_len}
use Rattle.spec_rules.specs.Descriptors.{pairs_in, channels_in}
use Rattle.spec_rules.specs.Units.{contains, are_apart}
use Rattle.iamf_rules.specs.declared.substreams.Slot.{Slot}

abbrev pub filled : Option Slot → ℕ → Option Slot
filled None frames = None
filled (Some slot) frames = Some (record slot { frames = frames })

-- the ids are new, and none stands there twice
pub record AreNew (old : BTreeMap ℕ Slot) (ids : List ℕ) : Type 0 where
  pub apart : are_apart ids ≡ true
  pub absent : (s : ℕ) → contains ids s ≡ true → get nat_cmp old s ≡ None

-- of the substreams of an element these came, with the channels of each where they are known
pub record HasSome (old new : BTreeMap ℕ Slot) (ids : List ℕ) (channels : Option (List ℕ)) (some : List ℕ) : Type 0 where
  pub slots : (s : ℕ) → get nat_cmp new s ≡ (if contains some s then Some (record { channels = channels_in (pairs_in ids channels) s; frames = 0 }) else get nat_cmp old s)
  pub count : btree_map_len new ≡ btree_map_len old + length some

abbrev pub Adds : BTreeMap ℕ Slot → BTreeMap ℕ Slot → List ℕ → Option (List ℕ) → Type 0
Adds old new ids channels = AreNew old ids → HasSome old new ids channels ids

abbrev pub channel_at : Option (List ℕ) → ℕ → Option ℕ
channel_at None i = None
channel_at (Some channels) i = slice_get channels i
