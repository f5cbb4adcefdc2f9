-- What is answered of the next OBU.
use Rattle.std.proofs.Common.{◌≡◌, ℕ, false, List, [], ◌∷◌, ◌++◌, refl, sym, ap, subst, ◌∙◌}
use Rattle.std.specs.Prelude.{Option, Some, None, Err}
use Rattle.spec_bits.specs.Bits.{AreBytes}
use Rattle.spec_obu.specs.Header.{is_copy}
use Rattle.spec_obu.specs.Kinds.{obu_type_of}
use Rattle.spec_obu.specs.declared.obu_type.ObuType.{ObuType}
use Rattle.spec_blocks.specs.Shape.{Definition}
use Rattle.spec_values.specs.declared.fault.Fault.{Fault}
use Rattle.spec_values.specs.Content as said
use Rattle.spec_values.specs.Content.{Context, PayloadOf, SaysNot}
use Rattle.spec_rules.specs.Role.{Role}
use Rattle.spec_rules.specs.Descriptors.{frame_length, definitions, context_of}
use Rattle.spec_rules.specs.Units.{open_unit}
use Rattle.spec_rules.specs.Rules.{fault_before, fault_after}
use Rattle.spec_rules.specs.Admitted.{type_of_role}
use Rattle.spec_sequence.specs.ValueRole.{role, role_in}
use Rattle.spec_sequence.specs.Reading.{Entry, roles, context_after, early_fault, OfPayload, Late}
use Rattle.spec_sequence.proofs.RedundantCopies.{early_plain}
use Rattle.obu_header.specs.declared.view.ObuView.{ObuView}
use Rattle.obu_header.specs.View.{head_of}
use Rattle.iamf_bits.specs.Rows.{Rows}
use Rattle.iamf_bits.specs.declared.unread.Unread.{Unread}
use Rattle.iamf_bits.specs.declared.unread.Unread.TheVariants as unread
use Rattle.iamf_obu.specs.declared.content.Content.{Content}
use Rattle.iamf_obu.specs.ContentView.{type_in, IsValidContent, HasTrims}
use Rattle.iamf_obu.specs.ContentReading.{IsRead, ReadsContent}
use Rattle.iamf_rules.specs.Coding.{IsCoded, KeepsRoom}
use Rattle.iamf_admission.specs.declared.kept.Kept.{Kept}
use Rattle.iamf_admission.specs.declared.parts.Parts.{Parts}
use Rattle.iamf_admission.specs.PartsView.{HasParts, role_with}
use Rattle.iamf_admission.specs.Taking.{IsNext, IsSaid}
use Rattle.iamf_admission.specs.Standing.{Stands, Steps}
use Rattle.iamf_admission.specs.Numbers.{number_between, number_after}
use Rattle.iamf_admission.proofs.ContentRoles.{IsMade, type_with, same_fault, same_role}
use Rattle.iamf_admission.proofs.UnitNumbers.{number_is}

-- ---- what is kept beside the planes

pub room_kept : (old new : Option Rows) (l : List Role) → KeepsRoom old new → IsCoded old l → IsCoded new l
room_kept old new l keeps coded = record { depth = coded.depth; channels = coded.channels; room = λ c is flac. keeps c.frame_length (coded.room c is flac) }

pub stands_with : (k : Kept) (new : Option Rows) (past : List Entry) → Stands k past → KeepsRoom k.planes new → Stands (record k { planes = new }) past
stands_with k new past st keeps = record {
  rules = st.rules;
  copies = st.copies;
  tally = st.tally;
  keeps = st.keeps;
  coded = room_kept k.planes new (roles past) keeps st.coded;
  last = st.last;
}

-- what the next payload is read by
pub context_kept : (l : List Role) (n : ℕ) (ds : List Definition) → n ≡ frame_length l → ds ≡ definitions l → record { frame_length = n; definitions = ds } ≡ context_of l
unfolding context_of
context_kept l n ds lengths same = ap (λ (m : ℕ). record { frame_length = m; definitions = ds }) lengths ∙ ap (λ (es : List Definition). record { frame_length = frame_length l; definitions = es }) same

-- ---- faults

-- it is no redundant copy, and had no fault before its payload was read
pub record IsTimely (past : List Entry) (view : ObuView) : Type 0 where
  pub copy : is_copy (head_of view.head) ≡ false
  pub before : fault_before (roles past) (obu_type_of view.head.kind) ≡ None

pub early : (past : List Entry) (view : ObuView) → IsTimely past view → early_fault past (head_of view.head) view.payload.now ≡ None
early past view is = early_plain past (head_of view.head) view.payload.now is.copy ∙ is.before

pub payload_fails : (k : Kept) (past : List Entry) (view : ObuView) (context : Context) (error : Unread Fault) → Stands k past → IsTimely past view → context ≡ context_after past
    → ReadsContent context view.head.kind (obu_type_of view.head.kind) view.payload.now (Err error) → Steps k (Err error) past view
payload_fails k past view context (unread.Fault f) st is same r =
    (OfPayload (early past view is) (subst (λ (x : Context). SaysNot x view.head.kind (obu_type_of view.head.kind) f view.payload.now) same r), st)
payload_fails k past view context (unread.Memory e) st is same r = tt

-- ---- what was read, and what was made of it

pub record IsRoled (past : List Entry) (view : ObuView) (content : Content) (p : Parts) : Type 0 where
  pub timely : IsTimely past view
  pub read : IsRead (context_after past) view.head.kind (obu_type_of view.head.kind) view.payload.now content
  pub valid : IsValidContent (context_after past) view.head.kind content
  pub obu_type : type_in content ≡ obu_type_of view.head.kind
  pub trims : HasTrims content view.head.trim
  pub bytes : AreBytes view.payload.now
  pub parts : HasParts (frame_length (roles past)) content p

abbrev pub entry : ObuView → said.Content → List ℕ → Entry
entry view c tail = record { value = record { head = head_of view.head; content = c; tail = tail }; payload = view.payload.now }

made : (k : Kept) (past : List Entry) (view : ObuView) (content : Content) (p : Parts) → Stands k past → (is : IsRoled past view content p) → IsMade (roles past) (head_of view.head) content p is.read.said_is is.read.tail
made k past view content p st is = record { last = st.last; parts = is.parts; holds = is.read.holds; obu_type = is.obu_type; trims = is.trims; plain = is.timely.copy }

pub late_fails : (k new : Kept) (past : List Entry) (view : ObuView) (content : Content) (p : Parts) (f : Fault) → Stands k past → Stands new past → IsRoled past view content p → Some f ≡ fault_after (roles past) (role_with content p)
    → Steps new (Err (unread.Fault f)) past view
late_fails k new past view content p f st after is late = (
  Late (early past view is.timely) is.read.said_is is.read.tail (record { says = is.read.says; bytes = is.bytes; tail_is = is.read.bytes })
      (sym (same_fault (roles past) (head_of view.head) content p is.read.said_is is.read.tail (made k past view content p st is)) ∙ sym late),
  after,
)

-- without a fault
pub record IsFaultless (past : List Entry) (view : ObuView) (content : Content) (p : Parts) (e : Entry) : Type 0 where
  pub next : IsNext past view e
  pub said : IsSaid content past e
  pub role_is : role_with content p ≡ role e.value

pub faultless : (k : Kept) (past : List Entry) (view : ObuView) (content : Content) (p : Parts) → Stands k past → (is : IsRoled past view content p) → None ≡ fault_after (roles past) (role_with content p)
    → IsFaultless past view content p (entry view is.read.said_is is.read.tail)
faultless k past view content p st is none = record {
  next = record {
    head = refl;
    payload = refl;
    payload_is = record { says = is.read.says; bytes = is.bytes; tail_is = is.read.bytes };
    admissible = record { early = early past view is.timely; late = late };
  };
  said = record { plain = is.timely.copy; holds = is.read.holds; valid = is.valid; obu_type = is.obu_type; trims = is.trims; faultless = record { early = types ∙ is.timely.before; late = late } };
  role_is = same;
}
  where
    makes : IsMade (roles past) (head_of view.head) content p is.read.said_is is.read.tail
    makes = made k past view content p st is

    late : fault_after (roles past) (role_in (head_of view.head) is.read.said_is is.read.tail) ≡ None
    late = sym (same_fault (roles past) (head_of view.head) content p is.read.said_is is.read.tail makes) ∙ sym none

    same : role_with content p ≡ role_in (head_of view.head) is.read.said_is is.read.tail
    same = same_role (roles past) (head_of view.head) content p is.read.said_is is.read.tail makes late

    types : fault_before (roles past) (type_of_role (role_in (head_of view.head) is.read.said_is is.read.tail)) ≡ fault_before (roles past) (obu_type_of view.head.kind)
    types = ap (λ (o : Role). fault_before (roles past) (type_of_role o)) (sym same) ∙ ap (fault_before (roles past)) (type_with content p ∙ is.obu_type)

-- the number of its unit
pub numbered : (past : List Entry) (view : ObuView) (content : Content) (p : Parts) (e : Entry) (obu_type : ObuType) (before after : ℕ) → IsFaultless past view content p e → obu_type ≡ obu_type_of view.head.kind → type_in content ≡ obu_type_of view.head.kind
    → before ≡ open_unit (roles past) → after ≡ open_unit (roles past ++ role e.value ∷ []) → number_between obu_type before after ≡ number_after (roles past) (role e.value)
numbered past view content p e obu_type before after is type typed first last =
    ap (λ (t : ObuType). number_between t before after) (type ∙ sym (ap type_of_role (sym is.role_is) ∙ type_with content p ∙ typed))
    ∙ number_is (roles past) (role e.value) before after is.next.admissible.late first last
