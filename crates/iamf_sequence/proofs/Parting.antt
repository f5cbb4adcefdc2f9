-- What one more OBU at the end changes in the units of a sequence.
use Rattle.std.proofs.Common.{◌≡◌, ◌⊎◌, ℕ, zero, suc, ◌+◌, ◌≤◌, ◌<◌, Bool, true, false, ◌&&◌, cond, ltb, List, [], ◌∷◌, ◌++◌, map, refl, sym, ap, subst, ◌∙◌, inl, inr, append_assoc, append-nil, add-one, eq-eqb, ne_eqb, le-ltb, arith}
use Rattle.std.specs.Prelude.{if◌then◌else◌, ◌==◌}
use Rattle.std.specs.List.{flat_map}
use Rattle.std.proofs.lemmas.Bool.{cases_lt}
use Rattle.std.proofs.lemmas.Bool.Decides.{nat_tests}
use Rattle.std.proofs.lemmas.Grind.{flat_map-append}
use Rattle.spec_values.specs.Value.{ObuValue}
use Rattle.spec_rules.specs.Role.{Role}
use Rattle.spec_sequence.specs.ValueRole.{role}
use Rattle.spec_rules.specs.Units.{is_data, unit_after, unit_count}
use Rattle.spec_rules.specs.Admitted.{IsAdmitted, HasNoFault}
use Rattle.spec_sequence.specs.Reading.{Entry, values_of, roles}
use Rattle.spec_sequence.specs.Parts.{roles_of, frame_of, block_of, numbered_after, if_of_unit, obus_of, UnitValue, unit_value, units_up_to, temporal_units}
use Rattle.spec_rules.proofs.Placing.{unit_count-push}
use Rattle.spec_sequence.proofs.Roles.{roles_of_more, roles_of_values}
use Rattle.spec_sequence.proofs.FramesOfUnits.{length-units_up_to}
use Rattle.iamf_sequence.specs.UnitView.{opened, change_last}
use Rattle.iamf_sequence.specs.ContentsView.{HasNoLater, AddsTo}
use Rattle.iamf_sequence.proofs.UnitBounds.{last_or_next}

-- ---- the OBUs of a unit

abbrev numbered_last : List Role → ObuValue → List (ℕ × ObuValue)
numbered_last l o = if is_data (role o) then (unit_after l (role o), o) ∷ [] else []

numbered_after-push : (l : List Role) (os : List ObuValue) (o : ObuValue) → numbered_after l (os ++ o ∷ []) ≡ numbered_after l os ++ numbered_last (l ++ map role os) o
numbered_after-push l [] o = rw (append-nil, append-nil) refl
numbered_after-push l (x ∷ xs) o =
    rw (numbered_after-push (l ++ role x ∷ []) xs o, append_assoc l (role x ∷ []) (map role xs)) (sym (append_assoc (numbered_last l x) _ _))

abbrev pub last_of : ℕ → List Role → ObuValue → List ObuValue
last_of u l o = if is_data (role o) && (unit_after l (role o) == u) then o ∷ [] else []

pub obus_of-push : (u : ℕ) (s : List ObuValue) (o : ObuValue) → obus_of u (s ++ o ∷ []) ≡ obus_of u s ++ last_of u (roles_of s) o
unfolding obus_of
obus_of-push u s o =
    ap (flat_map (if_of_unit u)) (numbered_after-push [] s o) ∙ flat_map-append (if_of_unit u) (numbered_after [] s) (numbered_last (roles_of s) o)
    ∙ ap (λ rest. obus_of u s ++ rest) (one (is_data (role o)) (unit_after (roles_of s) (role o)))
  where
    one : (d : Bool) (n : ℕ) → flat_map (if_of_unit u) (if d then (n, o) ∷ [] else []) ≡ (if d && (n == u) then o ∷ [] else [])
    one true n = append-nil _
    one false n = refl

-- it is of no unit
pub obus_of-quiet : (u : ℕ) (s : List ObuValue) (o : ObuValue) → is_data (role o) ≡ false → obus_of u (s ++ o ∷ []) ≡ obus_of u s
obus_of-quiet u s o quiet = obus_of-push u s o ∙ rw quiet (append-nil (obus_of u s))

-- it is of another unit
pub obus_of-other : (u v : ℕ) (s : List ObuValue) (o : ObuValue) → u ≡ unit_after (roles_of s) (role o) → (u ≡ v → ⊥) → obus_of v (s ++ o ∷ []) ≡ obus_of v s
obus_of-other u v s o number other = obus_of-push v s o ∙ rw (sym number, ne_eqb u v other) (one (is_data (role o)))
  where
    one : (d : Bool) → obus_of v s ++ (if d && false then o ∷ [] else []) ≡ obus_of v s
    one true = append-nil (obus_of v s)
    one false = append-nil (obus_of v s)

pub obus_of-here : (u : ℕ) (s : List ObuValue) (o : ObuValue) → is_data (role o) ≡ true → u ≡ unit_after (roles_of s) (role o) → obus_of u (s ++ o ∷ []) ≡ obus_of u s ++ o ∷ []
obus_of-here u s o data_obu number = obus_of-push u s o ∙ rw (sym number, data_obu, eq-eqb u u refl) refl

-- ---- how many units are begun

pub count-quiet : (s : List ObuValue) (o : ObuValue) → is_data (role o) ≡ false → unit_count (roles_of (s ++ o ∷ [])) ≡ unit_count (roles_of s)
count-quiet s o quiet = ap unit_count (roles_of_more s o) ∙ unit_count-push (roles_of s) (role o) ∙ ap (λ b. cond b (unit_after (roles_of s) (role o) + 1) (unit_count (roles_of s))) quiet

pub count-here : (u : ℕ) (s : List ObuValue) (o : ObuValue) → is_data (role o) ≡ true → u ≡ unit_after (roles_of s) (role o) → unit_count (roles_of (s ++ o ∷ [])) ≡ u + 1
count-here u s o data_obu number =
    ap unit_count (roles_of_more s o) ∙ unit_count-push (roles_of s) (role o) ∙ ap (λ b. cond b (unit_after (roles_of s) (role o) + 1) (unit_count (roles_of s))) data_obu
    ∙ ap (λ n. n + 1) (sym number)

-- ---- the units

unfoldable pub value_of : List ObuValue → UnitValue
value_of os = record { frames = flat_map frame_of os; blocks = flat_map block_of os }

pub units_up_to-same : (n : ℕ) (s t : List ObuValue) → ((u : ℕ) → u < n → obus_of u t ≡ obus_of u s) → units_up_to n t ≡ units_up_to n s
unfolding value_of
units_up_to-same zero s t same = refl
units_up_to-same (suc n) s t same =
    ap (λ (vs : List UnitValue). vs ++ unit_value n t ∷ []) (units_up_to-same n s t (λ u below. same u (omega arith)))
    ∙ ap (λ (os : List ObuValue). units_up_to n s ++ value_of os ∷ []) (same n (omega arith))

pub units-quiet : (s : List ObuValue) (o : ObuValue) → is_data (role o) ≡ false → temporal_units (s ++ o ∷ []) ≡ temporal_units s
unfolding temporal_units
units-quiet s o quiet =
    ap (λ n. units_up_to n (s ++ o ∷ [])) (count-quiet s o quiet)
    ∙ units_up_to-same (unit_count (roles_of s)) s (s ++ o ∷ []) (λ u below. obus_of-quiet u s o quiet)

unfoldable pub with_obu : ObuValue → UnitValue → UnitValue
with_obu o v = record { frames = v.frames ++ frame_of o; blocks = v.blocks ++ block_of o }

value_of-push : (os : List ObuValue) (o : ObuValue) → value_of (os ++ o ∷ []) ≡ with_obu o (value_of os)
unfolding value_of with_obu
value_of-push os o = rw (flat_map-append frame_of os (o ∷ []), flat_map-append block_of os (o ∷ []), append-nil (frame_of o), append-nil (block_of o)) refl

pub change_last-push : (change : UnitValue → UnitValue) (vs : List UnitValue) (v : UnitValue) → change_last change (vs ++ v ∷ []) ≡ vs ++ change v ∷ []
change_last-push change [] v = refl
change_last-push change (x ∷ []) v = refl
change_last-push change (x ∷ y ∷ vs) v = ap (λ (ws : List UnitValue). x ∷ ws) (change_last-push change (y ∷ vs) v)

next_or_same : (u n : ℕ) → u ≤ n → n ≤ u + 1 → (n ≡ u) ⊎ (n ≡ suc u)
next_or_same u n low high = elim (cases_lt u n) [ inl below ↦ inr (omega arith) | inr above ↦ inl (omega arith) ]

-- the units up to that of the number
opened_is : (u n : ℕ) (s : List ObuValue) → u ≤ n → n ≤ u + 1 → ((v : ℕ) → n ≤ v → obus_of v s ≡ []) → opened u (units_up_to n s) ≡ units_up_to u s ++ unit_value u s ∷ []
unfolding value_of
opened_is u n s low high later = elim (next_or_same u n low high) [
  | inl same ↦
      rw (length-units_up_to n s, same, le-ltb u u (omega arith))
      (ap (λ (os : List ObuValue). units_up_to u s ++ value_of os ∷ []) (sym (later u (omega arith))))
  | inr next ↦ rw (length-units_up_to n s, next) (here (grind (arith, nat_tests)))
] where
  here : ltb u (suc u) ≡ true → (if ltb u (suc u) then units_up_to (suc u) s else units_up_to (suc u) s ++ record { frames = []; blocks = [] } ∷ []) ≡ units_up_to u s ++ unit_value u s ∷ []
  here e = rw e refl

pub units-here : (u : ℕ) (s : List ObuValue) (o : ObuValue) → is_data (role o) ≡ true → u ≡ unit_after (roles_of s) (role o) → u ≤ unit_count (roles_of s) → unit_count (roles_of s) ≤ u + 1 → HasNoLater s
    → temporal_units (s ++ o ∷ []) ≡ change_last (with_obu o) (opened u (temporal_units s))
unfolding temporal_units value_of
units-here u s o data_obu number low high later =
    ap (λ n. units_up_to n (s ++ o ∷ [])) (count-here u s o data_obu number ∙ add-one u)
    ∙ ap (λ (vs : List UnitValue). vs ++ unit_value u (s ++ o ∷ []) ∷ []) (units_up_to-same u s (s ++ o ∷ []) (λ v below. obus_of-other u v s o number (λ e. omega arith)))
    ∙ ap (λ (os : List ObuValue). units_up_to u s ++ value_of os ∷ []) (obus_of-here u s o data_obu number)
    ∙ ap (λ (v : UnitValue). units_up_to u s ++ v ∷ []) (value_of-push (obus_of u s) o)
    ∙ sym (ap (change_last (with_obu o)) (opened_is u (unit_count (roles_of s)) s low high later) ∙ change_last-push (with_obu o) (units_up_to u s) (unit_value u s))

-- ---- no OBU is of a later unit

pub later-none : HasNoLater []
unfolding obus_of
later-none u above = refl

pub later-quiet : (s : List ObuValue) (o : ObuValue) → is_data (role o) ≡ false → HasNoLater s → HasNoLater (s ++ o ∷ [])
later-quiet s o quiet later u above = obus_of-quiet u s o quiet ∙ later u (let e = count-quiet s o quiet in omega arith)

pub later-here : (u : ℕ) (s : List ObuValue) (o : ObuValue) → is_data (role o) ≡ true → u ≡ unit_after (roles_of s) (role o) → unit_count (roles_of s) ≤ u + 1 → HasNoLater s → HasNoLater (s ++ o ∷ [])
later-here u s o data_obu number high later v above = obus_of-other u v s o number (λ e. apart e) ∙ later v (omega (arith, next))
  where
    next : unit_count (roles_of (s ++ o ∷ [])) ≡ u + 1
    next = count-here u s o data_obu number

    apart : u ≡ v → ⊥
    apart e = omega (arith, next)

-- ---- a data OBU that comes after an admitted list, in the unit of this number

pub record IsPutInto (unit : ℕ) (s : List ObuValue) (o : ObuValue) : Type 0 where
  pub units : temporal_units (s ++ o ∷ []) ≡ change_last (with_obu o) (opened unit (temporal_units s))
  pub later : HasNoLater (s ++ o ∷ [])

pub put_into : (past : List Entry) (o : ObuValue) (unit : ℕ) → is_data (role o) ≡ true → IsAdmitted (roles past) → HasNoFault (roles past) (role o) → AddsTo unit (roles past) (role o) → HasNoLater (values_of past)
    → IsPutInto unit (values_of past) o
put_into past o unit data_obu admitted none adds later =
    let s = values_of past in
    let l = roles past in
    let same : roles_of s ≡ l = roles_of_values past in
    let bounds = last_or_next l (role o) admitted none.late in
    let number : unit ≡ unit_after (roles_of s) (role o) = adds data_obu ∙ ap (λ (r : List Role). unit_after r (role o)) (sym same) in
    let low : unit ≤ unit_count (roles_of s) = subst (λ (r : List Role). unit ≤ unit_count r) (sym same) (subst (λ n. n ≤ unit_count l) (sym (adds data_obu)) bounds.low) in
    let high : unit_count (roles_of s) ≤ unit + 1 = subst (λ (r : List Role). unit_count r ≤ unit + 1) (sym same) (subst (λ n. unit_count l ≤ n + 1) (sym (adds data_obu)) bounds.high) in
    record { units = units-here unit s o data_obu number low high later; later = later-here unit s o data_obu number high later }
