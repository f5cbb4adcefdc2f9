-- What an OBU that is admitted is to those before it.
use Rattle.std.specs.Prelude.{◌≡◌, true, false, List, Option, Some, None}
use Rattle.spec_obu.specs.Header.{is_copy}
use Rattle.spec_obu.specs.Kinds.{obu_type_of}
use Rattle.spec_values.specs.Content.{PayloadOf}
use Rattle.spec_rules.specs.Role.{Role, CodecConfig}
use Rattle.spec_rules.specs.declared.codec.Codec.TheVariants.{Flac}
use Rattle.spec_rules.specs.Admitted.{HasNoFault}
use Rattle.spec_sequence.specs.ValueRole.{role}
use Rattle.spec_sequence.specs.Reading.{Entry, roles, context_after, IsAdmissible}
use Rattle.obu_header.specs.View.{head_of}
use Rattle.obu_header.specs.declared.view.ObuView.{ObuView}
use Rattle.iamf_bits.specs.Rows.{Rows}
use Rattle.iamf_obu.specs.declared.content.Content.{Content}
use Rattle.iamf_obu.specs.ContentView.{Holds, IsValidContent, HasTrims, type_in}
use Rattle.iamf_rules.specs.Coding.{HasRoom}
use Rattle.iamf_admission.specs.declared.admitted.Admitted.{Admitted}
use Rattle.iamf_admission.specs.Numbers.{number_after}

-- It has the head and the payload of the view, says what the payload says after the list, and has no fault there.
pub record IsNext (past : List Entry) (view : ObuView) (e : Entry) : Type 0 where
  pub head : e.value.head ≡ head_of view.head
  pub payload : e.payload ≡ view.payload.now
  pub payload_is : PayloadOf (context_after past) e.value.head.kind e.value.content e.value.tail e.payload
  pub admissible : IsAdmissible past e

-- It is no redundant copy, and was read as this content.
pub record IsSaid (content : Content) (past : List Entry) (e : Entry) : Type 0 where
  pub plain : is_copy e.value.head ≡ false
  pub holds : Holds content e.value.content e.value.tail
  pub valid : IsValidContent (context_after past) e.value.head.kind content
  pub obu_type : type_in content ≡ obu_type_of e.value.head.kind
  pub trims : HasTrims content e.value.head.trim
  pub faultless : HasNoFault (roles past) (role e.value)

-- what is handed out of an OBU; a redundant copy says nothing
abbrev pub Says : Option Content → List Entry → Entry → Type 0
Says None past e = is_copy e.value.head ≡ true
Says (Some content) past e = IsSaid content past e

-- It is admitted, and this is handed out.
pub record IsTaken (past : List Entry) (view : ObuView) (obu : Admitted) (e : Entry) : Type 0 where
  pub next : IsNext past view e
  pub unit : obu.unit ≡ number_after (roles past) (role e.value)
  pub says : Says obu.content past e

-- once a codec config of FLAC is there, there is room to decode its frames
abbrev pub MakesRoom : Option Rows → Option Rows → Role → Type 0
MakesRoom old new (CodecConfig c) = c.codec ≡ Flac → HasRoom new c.frame_length
MakesRoom old new _ = new ≡ old
