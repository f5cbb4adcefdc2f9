-- Where the frames of a codec can be decoded, so that they can be tested.
use Rattle.std.specs.Prelude.{◌≡◌, ◌≤◌, ◌⊎◌, ℕ, List, [], ◌∷◌, Option, Some, None}
use Rattle.std.specs.Ordering.{nat_cmp}
use Rattle.std.specs.BTreeMap.{get}
use Rattle.iamf_bits.specs.Rows.{Rows}
use Rattle.spec_rules.specs.declared.codec.Codec.TheVariants.{Flac}
use Rattle.spec_rules.specs.declared.codec_role.CodecRole.{CodecRole}
use Rattle.spec_rules.specs.Role.{Role}
use Rattle.spec_rules.specs.Descriptors.{codecs, channels_of}
use Rattle.iamf_rules.specs.declared.substreams.Slot.{Slot}
use Rattle.iamf_rules.specs.declared.rules.Rules.{Rules}

-- two rows of so many samples
abbrev pub HasRoom : Option Rows → ℕ → Type 0
HasRoom None length = ⊥
HasRoom (Some rows) length = (rows.channels ≡ 2) × (rows.length ≡ length)

abbrev pub IsDepth : ℕ → Type 0
IsDepth depth = (1 ≤ depth) × (depth ≤ 32)

abbrev pub IsChannels : ℕ → Type 0
IsChannels channels = (channels ≡ 1) ⊎ (channels ≡ 2)

-- As in lists of descriptors that were read: samples of FLAC have 1 to 32 bits, substreams have one channel or two, and there is room for a frame.
pub record IsCoded (planes : Option Rows) (l : List Role) : Type 0 where
  pub depth : (c : CodecRole) → codecs l ≡ c ∷ [] → c.codec ≡ Flac → IsDepth c.depth
  pub channels : (s n : ℕ) → channels_of l s ≡ Some n → IsChannels n
  pub room : (c : CodecRole) → codecs l ≡ c ∷ [] → c.codec ≡ Flac → HasRoom planes c.frame_length

-- the same of one substream
abbrev pub AreKnown : Option ℕ → Type 0
AreKnown None = Unit {0}
AreKnown (Some n) = IsChannels n

abbrev pub CanDecode : CodecRole → Option ℕ → Option Rows → Type 0
CanDecode c channels planes = c.codec ≡ Flac → IsDepth c.depth × AreKnown channels × HasRoom planes c.frame_length

abbrev pub CanDecodeFor : Option CodecRole → Option ℕ → Option Rows → Type 0
CanDecodeFor None channels planes = Unit {0}
CanDecodeFor (Some c) channels planes = CanDecode c channels planes

abbrev pub CanDecodeSlot : Option CodecRole → Option Slot → Option Rows → Type 0
CanDecodeSlot codec None planes = Unit {0}
CanDecodeSlot codec (Some slot) planes = CanDecodeFor codec slot.channels planes

abbrev pub CanDecodeOf : Rules → ℕ → Option Rows → Type 0
CanDecodeOf a s planes = CanDecodeSlot a.descriptors.codec (get nat_cmp a.substreams.slots s) planes

-- what there was room for there is room for
abbrev pub KeepsRoom : Option Rows → Option Rows → Type 0
KeepsRoom old new = (length : ℕ) → HasRoom old length → HasRoom new length
