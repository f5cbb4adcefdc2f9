-- What contracts see of an admission, and what it stands for.
use Rattle.std.specs.Prelude.{◌≡◌, ℕ, List, [], ◌∷◌, ◌++◌, length, Option, Some, None, Result, Ok, Err}
use Rattle.spec_values.specs.declared.fault.Fault.{Fault}
use Rattle.spec_sequence.specs.Reading.{Entry, HasFault}
use Rattle.obu_header.specs.View.{head_of}
use Rattle.obu_header.specs.declared.view.ObuView.{ObuView}
use Rattle.iamf_bits.specs.declared.unread.Unread.{Unread}
use Rattle.iamf_bits.specs.declared.unread.Unread.TheVariants as unread
use Rattle.iamf_admission.specs.declared.kept.Kept.{Kept}
use Rattle.iamf_admission.specs.declared.admitted.Admitted.{Admitted}
use Rattle.iamf_admission.specs.Taking.{IsNext, IsTaken}
use Rattle.iamf_admission.specs.Standing.{Stands as KeptStands}

-- how many OBUs were admitted, and what is kept of them
pub record AdmissionValue : Type 0 where
  pub admitted : ℕ
  pub kept : Option Kept

abbrev pub KeepsAll : Option Kept → List Entry → Type 0
KeepsAll None past = ⊥
KeepsAll (Some k) past = KeptStands k past

-- It admitted the OBUs of the list, and goes on.
pub record Stands (a : AdmissionValue) (past : List Entry) : Type 0 where
  pub kept_are : KeepsAll a.kept past
  pub count : a.admitted ≡ length past

-- memory ran out
abbrev pub IsSpent : AdmissionValue → Type 0
IsSpent a = a.kept ≡ None

-- unless it is spent, it stands for some list
abbrev pub GoesOn : ℕ → Option Kept → Type 0
GoesOn admitted None = Unit {0}
GoesOn admitted (Some k) = (past : List Entry) × KeptStands k past × (admitted ≡ length past)

-- What an admission that stood for the list answers of the next OBU, with what it hands out, and what it stands for then.
abbrev pub Takes : AdmissionValue → Result Admitted (Unread Fault) → List Entry → ObuView → Type 0
Takes new (Ok obu) past view = (e : Entry) × IsTaken past view obu e × Stands new (past ++ e ∷ [])
Takes new (Err (unread.Fault f)) past view = HasFault past (head_of view.head) view.payload.now f × Stands new past
Takes new (Err (unread.Memory e)) past view = IsSpent new × (new.admitted ≡ length past)

-- the same without what is handed out
abbrev pub Admits : AdmissionValue → Result (Unit {0}) (Unread Fault) → List Entry → ObuView → Type 0
Admits new (Ok _) past view = (e : Entry) × IsNext past view e × Stands new (past ++ e ∷ [])
Admits new (Err (unread.Fault f)) past view = HasFault past (head_of view.head) view.payload.now f × Stands new past
Admits new (Err (unread.Memory e)) past view = IsSpent new × (new.admitted ≡ length past)
