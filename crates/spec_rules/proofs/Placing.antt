-- What one more OBU at the end changes in the units.
use Rattle.std.proofs.Common.{◌≡◌, ℕ, ◌+◌, Bool, true, false, ◌&&◌, ◌||◌, cond, List, [], ◌∷◌, ◌++◌, refl, sym, ap, ◌∙◌, inl, inr, append_assoc, append-nil, add-zero, arith}
use Rattle.std.specs.Prelude.{Option, Some, find, fold, if◌then◌else◌, None}
use Rattle.std.specs.List.{flat_map, list_any}
use Rattle.std.specs.Option.{option_map_or}
use Rattle.std.proofs.lemmas.Grind.{flat_map-append, fold-append}
use Rattle.std.proofs.lemmas.List.Sums.{sum_by-append}
use Rattle.std.proofs.lemmas.Bool.{cases_Bool, or_parts}
use Rattle.spec_rules.specs.Role.{Role, Delimiter, ParameterBlock, AudioFrame}
use Rattle.spec_rules.specs.Units.{is_data, is_delimiter, is_frame_of, frames_of, delimiters, is_delimited, open_unit, unit_after, placed_after, placed, if_unit, in_units, unit_count}

-- the last OBU with its unit, if it is a data OBU
abbrev pub placed_last : List Role → Role → List (ℕ × Role)
placed_last l o = if is_data o then (unit_after l o, o) ∷ [] else []

-- what of the last OBU is in the units that pass
abbrev pub last_in : (ℕ → Bool) → List Role → Role → List Role
last_in test l o = if is_data o && test (unit_after l o) then o ∷ [] else []

placed_after-push : (l os : List Role) (o : Role) → placed_after l (os ++ o ∷ []) ≡ placed_after l os ++ placed_last (l ++ os) o
placed_after-push l [] o = rw (append-nil, append-nil) refl
placed_after-push l (x ∷ xs) o =
    rw (placed_after-push (l ++ x ∷ []) xs o, append_assoc l (x ∷ []) xs) (sym (append_assoc (placed_last l x) _ _))

pub placed-push : (l : List Role) (o : Role) → placed (l ++ o ∷ []) ≡ placed l ++ placed_last l o
unfolding placed
placed-push l o = placed_after-push [] l o

last_in_is : (test : ℕ → Bool) (u : ℕ) (o : Role) (d : Bool) → flat_map (if_unit test) (if d then (u, o) ∷ [] else []) ≡ (if d && test u then o ∷ [] else [])
last_in_is test u o true = append-nil _
last_in_is test u o false = refl

pub in_units-push : (test : ℕ → Bool) (l : List Role) (o : Role) → in_units test (l ++ o ∷ []) ≡ in_units test l ++ last_in test l o
unfolding in_units
in_units-push test l o = rw (placed-push l o, flat_map-append) (ap (λ rest. in_units test l ++ rest) (last_in_is test (unit_after l o) o (is_data o)))

-- ---- how many units are begun

abbrev after_last : ℕ → ℕ × Role → ℕ
after_last n p = p.0 + 1

pub unit_count-push : (l : List Role) (o : Role) → unit_count (l ++ o ∷ []) ≡ cond (is_data o) (unit_after l o + 1) (unit_count l)
unfolding unit_count
unit_count-push l o = ap (λ (ps : List (ℕ × Role)). fold after_last 0 ps) (placed-push l o) ∙ fold-append after_last 0 (placed l) (placed_last l o) ∙ one (is_data o) where
  one : (b : Bool) → fold after_last (fold after_last 0 (placed l)) (cond b ((unit_after l o, o) ∷ []) []) ≡ cond b (unit_after l o + 1) (fold after_last 0 (placed l))
  one true = refl
  one false = refl

-- a list without a data OBU
pub no_placed : (l os : List Role) → list_any is_data os ≡ false → placed_after l os ≡ []
no_placed l [] none = refl
no_placed l (x ∷ xs) none = let parts : (is_data x ≡ false) × (list_any is_data xs ≡ false) = or_parts (is_data x) (list_any is_data xs) none in
    rw (parts.0, no_placed (l ++ x ∷ []) xs parts.1) refl

pub unit_count-none : (l : List Role) → list_any is_data l ≡ false → unit_count l ≡ 0
unfolding unit_count placed
unit_count-none l none = ap (λ (ps : List (ℕ × Role)). fold after_last 0 ps) (no_placed [] l none)

-- ---- delimiters and frames

-- The first data OBU stays the first.
find_step : (x : Role) (l os : List Role) → (b : Bool) → (list_any is_data l ≡ true → find is_data (l ++ os) ≡ find is_data l) → (b || list_any is_data l) ≡ true → cond b (Some x) (find is_data (l ++ os)) ≡ cond b (Some x) (find is_data l)
find_step x l os true more h = refl
find_step x l os false more h = more h

pub find-kept : (l os : List Role) → list_any is_data l ≡ true → find is_data (l ++ os) ≡ find is_data l
find-kept [] os h = absurd (grind arith)
find-kept (x ∷ xs) os h = find_step x xs os (is_data x) (find-kept xs os) h

find_none_step : (x : Role) (l os : List Role) → (b : Bool) → (list_any is_data l ≡ false → find is_data (l ++ os) ≡ find is_data os) → (b || list_any is_data l) ≡ false → cond b (Some x) (find is_data (l ++ os)) ≡ find is_data os
find_none_step x l os true more h = absurd (grind arith)
find_none_step x l os false more h = more h

pub find-none : (l os : List Role) → list_any is_data l ≡ false → find is_data (l ++ os) ≡ find is_data os
find-none [] os h = refl
find-none (x ∷ xs) os h = find_none_step x xs os (is_data x) (find-none xs os) h

pub found-none : (l : List Role) → list_any is_data l ≡ false → find is_data l ≡ None
found-none l none = ap (find is_data) (sym (append-nil l)) ∙ find-none l [] none

pub found-quiet : (l : List Role) (o : Role) → is_data o ≡ false → find is_data (l ++ o ∷ []) ≡ find is_data l
found-quiet l o quiet = elim (cases_Bool (list_any is_data l)) [
  | inl has ↦ find-kept l (o ∷ []) has
  | inr none ↦ rw (find-none l (o ∷ []) none, quiet, found-none l none) refl
]

pub is_delimited-kept : (l os : List Role) → list_any is_data l ≡ true → is_delimited (l ++ os) ≡ is_delimited l
unfolding is_delimited
is_delimited-kept l os h = ap (λ (f : Option Role). option_map_or is_delimiter f false) (find-kept l os h)

first_is : (o : Role) → option_map_or is_delimiter (find is_data (o ∷ [])) false ≡ is_delimiter o
first_is Delimiter = refl
first_is (ParameterBlock b) = refl
first_is (AudioFrame f) = refl
first_is _ = refl

pub is_delimited-first : (l : List Role) (o : Role) → list_any is_data l ≡ false → is_delimited (l ++ o ∷ []) ≡ is_delimiter o
unfolding is_delimited
is_delimited-first l o h = ap (λ (f : Option Role). option_map_or is_delimiter f false) (find-none l (o ∷ []) h) ∙ first_is o

pub is_delimited-none : (l : List Role) → list_any is_data l ≡ false → is_delimited l ≡ false
unfolding is_delimited
is_delimited-none l h = ap (λ (f : Option Role). option_map_or is_delimiter f false) (ap (find is_data) (sym (append-nil l)) ∙ find-none l [] h)

-- the delimiters, with one more OBU
pub delimiters-push : (l : List Role) (o : Role) → delimiters (l ++ o ∷ []) ≡ delimiters l + (if is_delimiter o then 1 else 0)
unfolding delimiters
delimiters-push l o = rw (sum_by-append) (omega arith)

pub frames_of-push : (l : List Role) (o : Role) (s : ℕ) → frames_of (l ++ o ∷ []) s ≡ frames_of l s + (if is_frame_of s o then 1 else 0)
unfolding frames_of
frames_of-push l o s = rw (sum_by-append) (omega arith)

pub unit_after-other : (l : List Role) (o : Role) → is_delimiter o ≡ false → unit_after l o ≡ open_unit l
unfolding unit_after open_unit
unit_after-other l o other = elim (cases_Bool (list_any is_data l)) [
  | inl has ↦ rw (is_delimited-kept l (o ∷ []) has, delimiters-push l o, other, add-zero) refl
  | inr none ↦ rw (is_delimited-first l o none, other, is_delimited-none l none) refl
]

pub unit_after-delimiter : (l : List Role) → is_delimited (l ++ Delimiter ∷ []) ≡ true → unit_after l Delimiter ≡ delimiters l
unfolding unit_after
unit_after-delimiter l h = rw (h, delimiters-push l Delimiter) (omega arith)
