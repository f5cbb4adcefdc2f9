-- The last of a list of units is changed in place.
use Rattle.std.proofs.Common.{◌≡◌, ℕ, zero, suc, ◌-◌, ◌<◌, List, [], ◌∷◌, ◌++◌, length, map, set, get_or, sym, ap, subst, ◌∙◌, arith}
use Rattle.std.specs.Prelude.{Result, OnOk}
use Rattle.std.specs.List.{All}
use Rattle.std.proofs.lemmas.Result.{on_ok_weaker}
use Rattle.std.proofs.lemmas.List.Elements.{All-push, All-set, All-get_or}
use Rattle.spec_sequence.specs.Parts.{UnitValue}
use Rattle.iamf_sequence.specs.declared.unit.Unit.{Unit as Temporal}
use Rattle.iamf_sequence.specs.UnitView.{view_unit, IsConsistent, change_last}

last_at : (change : UnitValue → UnitValue) (us : List Temporal) (i : ℕ) (new d : Temporal) → suc i ≡ length us → view_unit new ≡ change (view_unit (get_or us i d)) → map view_unit (set us i new) ≡ change_last change (map view_unit us)
last_at change [] i new d e is = absurd (omega arith)
last_at change (u ∷ []) zero new d e is = ap (λ (v : UnitValue). v ∷ []) is
last_at change (u ∷ []) (suc i) new d e is = absurd (omega arith)
last_at change (u ∷ w ∷ us) zero new d e is = absurd (omega arith)
last_at change (u ∷ w ∷ us) (suc i) new d e is = ap (λ (vs : List UnitValue). view_unit u ∷ vs) (last_at change (w ∷ us) i new d (omega arith) is)

-- `before` and `after` are the last unit, and then the units that `vs` stood for are these
pub change_at : {E : Type 0} (r : Result (Unit {0}) E) (change : UnitValue → UnitValue) (us : List Temporal) (n : ℕ) (before after : Temporal) (vs : List UnitValue)
    → n ≡ length us → 0 < length us → before ≡ get_or us (n - 1) before → map view_unit us ≡ vs → OnOk r (view_unit after ≡ change (view_unit before))
    → OnOk r (map view_unit (set us (n - 1) after) ≡ change_last change vs)
change_at r change us n before after vs count some at are changed =
    on_ok_weaker r
    (λ (is : view_unit after ≡ change (view_unit before)). last_at change us (n - 1) after before (omega arith) (is ∙ ap (λ (u : Temporal). change (view_unit u)) at) ∙ ap (change_last change) are)
    changed

-- where this holds, consistent units stay so
pub consistent_at : (A : Type 0) → {E : Type 0} (r : Result (Unit {0}) E) (us old : List Temporal) (n : ℕ) (before after : Temporal)
    → n ≡ length us → 0 < length us → before ≡ get_or us (n - 1) before → (All IsConsistent old → All IsConsistent us) → OnOk r (A → IsConsistent before → IsConsistent after)
    → OnOk r (A → All IsConsistent old → All IsConsistent (set us (n - 1) after))
consistent_at A r us old n before after count some at keep kept =
    on_ok_weaker r
    (λ (more : A → IsConsistent before → IsConsistent after) (given : A) (all : All IsConsistent old).
    All-set IsConsistent us (n - 1) after (more given (subst IsConsistent (sym at) (All-get_or IsConsistent us (n - 1) before (omega arith) (keep all)))) (keep all))
    kept

pub consistent_always : {E : Type 0} (r : Result (Unit {0}) E) (us old : List Temporal) (n : ℕ) (before after : Temporal)
    → n ≡ length us → 0 < length us → before ≡ get_or us (n - 1) before → (All IsConsistent old → All IsConsistent us) → OnOk r (IsConsistent before → IsConsistent after)
    → OnOk r (All IsConsistent old → All IsConsistent (set us (n - 1) after))
consistent_always r us old n before after count some at keep kept =
    on_ok_weaker r (λ (f : Unit {0} → All IsConsistent old → All IsConsistent (set us (n - 1) after)). f tt)
    (consistent_at (Unit {0}) r us old n before after count some at keep (on_ok_weaker r (λ (f : IsConsistent before → IsConsistent after) (x : Unit {0}). f) kept))

-- a unit of nothing is put last
pub consistent_more : (us old : List Temporal) (u : Temporal) → us ≡ old ++ u ∷ [] → IsConsistent u → All IsConsistent old → All IsConsistent us
consistent_more us old u more is all = subst (All IsConsistent) (sym more) (All-push IsConsistent old u all is)
