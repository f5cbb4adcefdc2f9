-- What reading the payload of an OBU answers.
use Rattle.std.specs.Prelude.{ℕ, List, Result, Ok, Err}
use Rattle.spec_obu.specs.declared.obu_type.ObuType.{ObuType}
use Rattle.spec_bits.specs.Bits.{AreBytes}
use Rattle.spec_values.specs.declared.fault.Fault.{Fault}
use Rattle.spec_values.specs.Content as said
use Rattle.spec_values.specs.Content.{Context, Says, SaysNot}
use Rattle.iamf_bits.specs.declared.unread.Unread.{Unread}
use Rattle.iamf_bits.specs.declared.unread.Unread.TheVariants as unread
use Rattle.iamf_obu.specs.declared.content.Content.{Content}
use Rattle.iamf_obu.specs.ContentView.{Holds}

-- the payload of an OBU of the type says this, and the record is that content and its tail
pub record IsRead (context : Context) (kind : ℕ) (obu_type : ObuType) (payload : List ℕ) (content : Content) : Type 0 where
  pub said_is : said.Content
  pub tail : List ℕ
  pub holds : Holds content said_is tail
  pub bytes : AreBytes tail
  pub says : Says context kind obu_type said_is tail payload

-- It is read, or this is its first fault, unless memory ran out.
abbrev pub ReadsContent : Context → ℕ → ObuType → List ℕ → Result Content (Unread Fault) → Type 0
ReadsContent context kind obu_type payload (Ok content) = IsRead context kind obu_type payload content
ReadsContent context kind obu_type payload (Err (unread.Fault f)) = SaysNot context kind obu_type f payload
ReadsContent context kind obu_type payload (Err (unread.Memory e)) = Unit {0}
