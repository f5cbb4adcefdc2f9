-- What one more OBU of the bytes is to those that were read before it.
use Rattle.std.specs.Prelude.{◌≡◌, ◌-◌, ◌<◌, ◌≤◌, ℕ, List, [], ◌∷◌, ◌++◌, length, take, drop}
use Rattle.spec_bits.specs.Bits.{AreBytes}
use Rattle.spec_obu.specs.Header.{Header}
use Rattle.spec_rules.specs.Admitted.{IsAdmitted}
use Rattle.spec_sequence.specs.Reading.{Entry, roles}
use Rattle.obu_header.specs.declared.view.ObuView.{ObuView}
use Rattle.obu_header.specs.View.{head_of}
use Rattle.iamf_admission.specs.declared.admitted.Admitted.{Admitted as AdmittedObu}
use Rattle.iamf_admission.specs.AdmissionView.{AdmissionValue, Stands}
use Rattle.iamf_admission.specs.Taking.{IsTaken}
use Rattle.iamf_sequence.specs.SequenceValue.{IsRead}

-- the bytes of the OBU at the place
abbrev pub piece_of : List ℕ → ℕ → ObuView → List ℕ
piece_of bytes at view = take (view.end - at) (drop at bytes)

-- The bytes at the place are a spelling of the OBU, which is admitted after the list.
pub record IsAtPlace (bytes : List ℕ) (at : ℕ) (view : ObuView) (obu : AdmittedObu) (l : List Entry) (e : Entry) : Type 0 where
  pub place : view.at ≡ at
  pub onward : at < view.end
  pub within : view.end ≤ length bytes
  pub header : Header (head_of view.head) view.payload.now (piece_of bytes at view)
  pub taken : IsTaken l view obu e

-- After an admitted list there comes one more OBU, after which the admission stands.
pub record IsOneMore (bytes : List ℕ) (at : ℕ) (a : AdmissionValue) (view : ObuView) (obu : AdmittedObu) (l : List Entry) (e : Entry) : Type 0 where
  pub are : AreBytes bytes
  pub admitted : IsAdmitted (roles l)
  pub next : IsAtPlace bytes at view obu l e
  pub after : Stands a (l ++ e ∷ [])

-- The bytes are a sequence of these OBUs, for which the admission stands.
pub record HasWalked (bytes : List ℕ) (a : AdmissionValue) (l : List Entry) : Type 0 where
  pub read : IsRead bytes l
  pub stands : Stands a l
