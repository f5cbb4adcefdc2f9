-- What is kept of a list of OBUs, and what is answered of the next one and of the end.
use Rattle.std.specs.Prelude.{◌≡◌, ◌<◌, ℕ, List, [], ◌∷◌, ◌++◌, Option, Some, None, Result, Ok, Err}
use Rattle.spec_values.specs.declared.fault.Fault.{Fault}
use Rattle.spec_rules.specs.declared.codec.Codec.TheVariants.{Flac}
use Rattle.spec_rules.specs.declared.codec_role.CodecRole.{CodecRole}
use Rattle.spec_rules.specs.Role.{Role, CodecConfig, AudioElement}
use Rattle.spec_rules.specs.Descriptors.{codecs}
use Rattle.spec_rules.specs.Rules.{end_fault}
use Rattle.spec_sequence.specs.Reading.{Entry, values_of, roles, HasFault, Keeps}
use Rattle.obu_header.specs.View.{head_of}
use Rattle.obu_header.specs.declared.view.ObuView.{ObuView}
use Rattle.iamf_bits.specs.declared.unread.Unread.{Unread}
use Rattle.iamf_bits.specs.declared.unread.Unread.TheVariants as unread
use Rattle.iamf_rules.specs.Standing.{Stands as RulesStand}
use Rattle.iamf_rules.specs.Coding.{IsDepth, IsChannels, IsCoded}
use Rattle.iamf_copies.specs.Standing.{Stands as CopiesStand}
use Rattle.iamf_report.specs.TallyView.{Stands as TallyStands}
use Rattle.iamf_report.specs.Lines.{Facts, facts_of}
use Rattle.iamf_admission.specs.declared.kept.Kept.{Kept}
use Rattle.iamf_admission.specs.declared.admitted.Admitted.{Admitted}
use Rattle.iamf_admission.specs.Taking.{IsTaken}

-- frames of the codec config, where there is one, are not empty
abbrev pub FramesLast : List CodecRole → Type 0
FramesLast [] = Unit {0}
FramesLast (codec ∷ codecs) = 0 < codec.frame_length

-- an element's substreams have one channel or two, where that is known
abbrev pub AreChannels : List ℕ → Type 0
AreChannels [] = Unit {0}
AreChannels (n ∷ ns) = IsChannels n × AreChannels ns

abbrev pub AreAllChannels : Option (List ℕ) → Type 0
AreAllChannels None = Unit {0}
AreAllChannels (Some channels) = AreChannels channels

-- the role is one of an OBU that was read
abbrev pub IsSound : Role → Type 0
IsSound (CodecConfig c) = (0 < c.frame_length) × (c.codec ≡ Flac → IsDepth c.depth)
IsSound (AudioElement e) = AreAllChannels e.channels
IsSound _ = Unit {0}

-- It is what is kept of the list.
pub record Stands (k : Kept) (past : List Entry) : Type 0 where
  pub rules : RulesStand k.rules (roles past)
  pub copies : CopiesStand k.copies past
  pub tally : TallyStands k.tally (values_of past)
  pub keeps : Keeps past
  pub coded : IsCoded k.planes (roles past)
  pub last : FramesLast (codecs (roles past))

-- The OBU is admitted, and is kept; or this is its first fault, and all is kept as before; unless memory ran out.
abbrev pub Steps : Kept → Result Admitted (Unread Fault) → List Entry → ObuView → Type 0
Steps new (Ok obu) past view = (e : Entry) × IsTaken past view obu e × Stands new (past ++ e ∷ [])
Steps new (Err (unread.Fault f)) past view = HasFault past (head_of view.head) view.payload.now f × Stands new past
Steps new (Err (unread.Memory e)) past view = Unit {0}

-- The list is a sequence, and this is what the report says of it; or this is the fault of its end.
abbrev pub Ends : Result Facts (Unread Fault) → List Entry → Type 0
Ends (Ok facts) past = (end_fault (roles past) ≡ None) × (facts ≡ facts_of (values_of past))
Ends (Err (unread.Fault f)) past = end_fault (roles past) ≡ Some f
Ends (Err (unread.Memory e)) past = ⊥
