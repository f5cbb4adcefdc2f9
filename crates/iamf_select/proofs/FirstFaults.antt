-- The first fault of a table, one row after the other.
use Rattle.std.proofs.Common.{◌≡◌, ℕ, zero, suc, refl, Bool, true, false, List, [], ◌∷◌, drop, Option, Some, None}
use Rattle.std.specs.Prelude.{slice_get}
use Rattle.spec_play.specs.declared.fault.PlayFault.{PlayFault}
use Rattle.spec_play.specs.Selection.{when, first_of}

pub row_passes : (fault : PlayFault) {test : Bool} → test ≡ false → Some (when test fault) ≡ Some None
row_passes fault e = rw e refl

pub row_refuses : (fault : PlayFault) {test : Bool} → test ≡ true → Some (when test fault) ≡ Some (Some fault)
row_refuses fault e = rw e refl

pub first_later : (rows : List (Option PlayFault)) (i : ℕ) → slice_get rows i ≡ Some None → first_of (drop i rows) ≡ first_of (drop (suc i) rows)
first_later [] i e = absurd (cc)
first_later (row ∷ rows) zero e = let none : row ≡ None = cc in rw none refl
first_later (row ∷ rows) (suc i) e = first_later rows i e

pub first_here : (rows : List (Option PlayFault)) (i : ℕ) (fault : PlayFault) → slice_get rows i ≡ Some (Some fault) → first_of (drop i rows) ≡ Some fault
first_here [] i fault e = absurd (cc)
first_here (row ∷ rows) zero fault e = let is : row ≡ Some fault = cc in rw is refl
first_here (row ∷ rows) (suc i) fault e = first_here rows i fault e
