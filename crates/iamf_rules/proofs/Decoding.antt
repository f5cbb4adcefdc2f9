-- Frames of the substreams of a list can be decoded.
use Rattle.std.proofs.Common.{◌≡◌, ℕ, Bool, true, false, cond, List, refl, sym}
use Rattle.std.specs.Prelude.{Option, Some, None}
use Rattle.iamf_bits.specs.Rows.{Rows}
use Rattle.spec_rules.specs.declared.codec_role.CodecRole.{CodecRole}
use Rattle.spec_rules.specs.Role.{Role}
use Rattle.spec_rules.specs.Descriptors.{codecs, substreams, channels_of}
use Rattle.spec_rules.specs.Units.{contains, frames_of}
use Rattle.iamf_rules.specs.declared.rules.Rules.{Rules}
use Rattle.iamf_rules.specs.DescriptorSteps.{codec_list}
use Rattle.iamf_rules.specs.Coding.{IsCoded, AreKnown, CanDecodeFor, CanDecodeSlot, CanDecodeOf}
use Rattle.iamf_rules.specs.Standing.{Stands}

pub can_decode : (a : Rules) (l : List Role) (s : ℕ) (planes : Option Rows) → Stands a l → IsCoded planes l → CanDecodeOf a s planes
can_decode a l s planes st coded = rw (st.substreams.each s) (one (contains (substreams l) s))
  where
    known : (n : Option ℕ) → channels_of l s ≡ n → AreKnown n
    known None e = tt
    known (Some n) e = coded.channels s n e

    decodes : (c : Option CodecRole) → codec_list c ≡ codecs l → (n : Option ℕ) → AreKnown n → CanDecodeFor c n planes
    decodes None e n k = tt
    decodes (Some c) e n k = λ flac. (coded.depth c (sym e) flac, k, coded.room c (sym e) flac)

    one : (b : Bool) → CanDecodeSlot a.descriptors.codec (cond b (Some (record { channels = channels_of l s; frames = frames_of l s })) None) planes
    one false = tt
    one true = decodes a.descriptors.codec st.descriptors.codec (channels_of l s) (known (channels_of l s) refl)
