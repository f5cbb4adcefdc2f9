-- The roles of a sequence, and of the one that is rebuilt of it, where each unit is begun by a delimiter.
use Rattle.std.proofs.Common.{◌≡◌, ℕ, ◌+◌, ◌-◌, ◌<◌, ◌⊎◌, Bool, true, false, not, ◌&&◌, ◌||◌, cond, ltb, List, [], ◌∷◌, ◌++◌, refl, sym, ap, ap₂, ◌∙◌, inl, inr, append-nil, add-zero, true≢false, arith, subst}
use Rattle.std.specs.Prelude.{Option, None, if◌then◌else◌}
use Rattle.std.specs.List.{flat_map, list_any}
use Rattle.std.proofs.lemmas.Bool.{cases_Bool, or_parts, not-false}
use Rattle.std.proofs.lemmas.Grind.{flat_map-append}
use Rattle.spec_values.specs.declared.fault.Fault.{Fault}
use Rattle.spec_values.specs.declared.fault.Fault.TheVariants.{Incomplete, NoMixFits, UnitShort}
use Rattle.spec_rules.specs.Role.{Role, Ignored, SequenceHeader, CodecConfig, AudioElement, MixPresentation, Delimiter, ParameterBlock, AudioFrame}
use Rattle.spec_rules.specs.Descriptors.{rank}
use Rattle.spec_rules.specs.Profile.{has_fit}
use Rattle.spec_rules.specs.Units.{is_none_of, is_data, is_delimiter, is_delimited, delimiters, open_unit, unit_after, unit_count, placed, if_unit, in_units, in_unit, is_complete}
use Rattle.spec_rules.specs.Rules.{when, first_of, is_out_of_order, lacks_descriptors, start_tests, fault_before, fault_after, has_short_unit, end_fault}
use Rattle.spec_rules.specs.Admitted.{type_of_role, HasNoFault}
use Rattle.spec_rules.proofs.Basics.{any-push, any-push_none, flat_map-push, none_of}
use Rattle.spec_rules.proofs.NoFault.{last_none as last_row, header_before, codec_before, element_before, mix_before, delimiter_none}
use Rattle.spec_rules.proofs.Ranks.{order_parts, no_data-order}
use Rattle.spec_rules.proofs.Placing.{placed_last, last_in, placed-push, in_units-push, unit_count-push, unit_count-none, is_delimited-kept, is_delimited-first, delimiters-push, unit_after-other, unit_after-delimiter}
use Rattle.spec_rules.proofs.OpenUnits.{open_unit-with, is_delimited-quiet, delimiters-some, delimiters-none, open_unit-ended}
use Rattle.spec_bodies.proofs.Filtered.{if_passes, filtered}
use Rattle.spec_bodies.proofs.Alike.{counts, counts_in, IsAlike, profiles_same, lacks_same, fit_same, complete_same, block_fault_same, frame_fault_same, descriptor_fault_same}
use Rattle.spec_rules.proofs.Lawful.{Lawful, no_data-header}
use Rattle.spec_rules.proofs.Delimiters.{some_delimiter, ended_is}

-- ---- lists

nothing_in : {A : Type 0} (xs ys : List A) → xs ++ ys ≡ [] → (xs ≡ []) × (ys ≡ [])
nothing_in [] ys e = (refl, e)
nothing_in (x ∷ xs) ys e = absurd cc

any_none : {A : Type 0} (p q : A → Bool) → ((x : A) → p x ≡ false → q x ≡ false) → (xs : List A) → list_any p xs ≡ false → list_any q xs ≡ false
any_none p q weaker [] h = refl
any_none p q weaker (x ∷ xs) h =
    let parts = or_parts (p x) (list_any p xs) h in
    rw (weaker x parts.0) (any_none p q weaker xs parts.1)

any_filtered : {A : Type 0} (passes p : A → Bool) (xs : List A) → list_any p xs ≡ false → list_any p (filtered passes xs) ≡ false
any_filtered passes p [] h = refl
any_filtered {A} passes p (x ∷ xs) h = one (passes x) (or_parts (p x) (list_any p xs) h) (any_filtered passes p xs (or_parts (p x) (list_any p xs) h).1) where
  one : (b : Bool) → (p x ≡ false) × (list_any p xs ≡ false) → list_any p (filtered passes xs) ≡ false → list_any p (cond b (x ∷ []) [] ++ filtered passes xs) ≡ false
  one true parts rest = rw (parts.0) rest
  one false parts rest = rest

-- ---- roles

quiet_delimiter : (o : Role) → is_data o ≡ false → is_delimiter o ≡ false
quiet_delimiter Delimiter h = absurd cc
quiet_delimiter _ h = refl

pub carried_delimiter : (o : Role) → counts o ≡ true → is_delimiter o ≡ false
carried_delimiter Delimiter h = absurd cc
carried_delimiter _ h = refl

-- ---- what one more changes of what counts

uncounted : (l : List Role) (o : Role) → counts o ≡ false → filtered counts (l ++ o ∷ []) ≡ filtered counts l
uncounted l o none = flat_map-push (if_passes counts) l o ∙ ap (λ b. filtered counts l ++ cond b (o ∷ []) []) none ∙ append-nil (filtered counts l)

counted : (l : List Role) (o : Role) → counts o ≡ true → filtered counts (l ++ o ∷ []) ≡ filtered counts l ++ o ∷ []
counted l o some = flat_map-push (if_passes counts) l o ∙ ap (λ b. filtered counts l ++ cond b (o ∷ []) []) some

placed_more : (l : List Role) (o : Role) → filtered counts_in (placed (l ++ o ∷ [])) ≡ filtered counts_in (placed l) ++ filtered counts_in (placed_last l o)
placed_more l o = ap (filtered counts_in) (placed-push l o) ∙ flat_map-append (if_passes counts_in) (placed l) (placed_last l o)

last_uncounted : (l : List Role) (o : Role) → counts o ≡ false → filtered counts_in (placed_last l o) ≡ []
last_uncounted l o none = one (is_data o) where
  one : (b : Bool) → filtered counts_in (if b then (unit_after l o, o) ∷ [] else []) ≡ []
  one true = rw none refl
  one false = refl

placed_uncounted : (l : List Role) (o : Role) → counts o ≡ false → filtered counts_in (placed (l ++ o ∷ [])) ≡ filtered counts_in (placed l)
placed_uncounted l o none = placed_more l o ∙ ap (λ (ps : List (ℕ × Role)). filtered counts_in (placed l) ++ ps) (last_uncounted l o none) ∙ append-nil (filtered counts_in (placed l))

last_same : (l m : List Role) (o : Role) → (is_data o ≡ true → unit_after m o ≡ unit_after l o) → placed_last m o ≡ placed_last l o
last_same l m o units = one (is_data o) units where
  last : Bool → ℕ → List (ℕ × Role)
  last b u = if b then (u, o) ∷ [] else []

  one : (b : Bool) → (b ≡ true → unit_after m o ≡ unit_after l o) → last b (unit_after m o) ≡ last b (unit_after l o)
  one true same = rw (same refl) refl
  one false same = refl

alike_left : (l m : List Role) (o : Role) → counts o ≡ false → IsAlike l m → IsAlike (l ++ o ∷ []) m
alike_left l m o none a = record { same = a.same ∙ sym (uncounted l o none); placed_same = a.placed_same ∙ sym (placed_uncounted l o none) }

pub alike_right : (l m : List Role) (o : Role) → counts o ≡ false → IsAlike l m → IsAlike l (m ++ o ∷ [])
alike_right l m o none a = record { same = uncounted m o none ∙ a.same; placed_same = placed_uncounted m o none ∙ a.placed_same }

alike_both : (l m : List Role) (o : Role) → counts o ≡ true → (is_data o ≡ true → unit_after m o ≡ unit_after l o) → IsAlike l m → IsAlike (l ++ o ∷ []) (m ++ o ∷ [])
alike_both l m o some units a = record {
  same = counted m o some ∙ ap (λ (xs : List Role). xs ++ o ∷ []) a.same ∙ sym (counted l o some);
  placed_same = placed_more m o ∙ ap₂ (λ (xs ys : List (ℕ × Role)). xs ++ filtered counts_in ys) a.placed_same (last_same l m o units) ∙ sym (placed_more l o);
}

-- ---- the list that is rebuilt

pub record IsRebuilt (l m : List Role) : Type 0 where
  pub alike : IsAlike l m
  pub data_same : list_any is_data m ≡ list_any is_data l
  pub delimited : list_any is_data m ≡ true → is_delimited m ≡ true
  pub count : delimiters m ≡ unit_count l
  pub units : unit_count m ≡ unit_count l
  pub quiet : list_any is_data l ≡ false → m ≡ filtered counts l
  pub empty : (test : ℕ → Bool) → in_units test l ≡ [] → in_units test m ≡ []

pub with_delimiter : (l m : List Role) → IsRebuilt l m → is_delimited (m ++ Delimiter ∷ []) ≡ true
with_delimiter l m r = elim (cases_Bool (list_any is_data m)) [
  | inl has ↦ is_delimited-kept m (Delimiter ∷ []) has ∙ r.delimited has
  | inr none ↦ is_delimited-first m Delimiter none
]

some_data : (l : List Role) → 0 < unit_count l → list_any is_data l ≡ true
some_data l some = elim (cases_Bool (list_any is_data l)) [
  | inl has ↦ has
  | inr none ↦ absurd (omega (arith, unit_count-none l none))
]

-- the unit of a frame or a block, in the rebuilt list
pub unit_same : (l m : List Role) (o : Role) → IsRebuilt l m → counts o ≡ true → unit_after l o + 1 ≡ unit_count l → unit_after m o ≡ unit_after l o
unit_same l m o r some is =
    unit_after-other m o (carried_delimiter o some) ∙ open_unit-with m (r.delimited (r.data_same ∙ some_data l (omega arith))) ∙ omega (arith, r.count, is)

pub unit_new : (l m : List Role) (o : Role) → IsRebuilt l m → counts o ≡ true → unit_after l o ≡ unit_count l → unit_after (m ++ Delimiter ∷ []) o ≡ unit_after l o
unit_new l m o r some is =
    unit_after-other (m ++ Delimiter ∷ []) o (carried_delimiter o some) ∙ open_unit-with (m ++ Delimiter ∷ []) (with_delimiter l m r) ∙ omega (arith, delimiters-push m Delimiter, r.count, is)

-- the OBUs of units of which none is there
last_none : (test : ℕ → Bool) (l m : List Role) (o x : Role) → is_data o ≡ true → unit_after m x ≡ unit_after l o → last_in test l o ≡ [] → last_in test m x ≡ []
last_none test l m o x some same none = rw same (one (test (unit_after l o)) (is_data x) (ap (λ b. cond (b && test (unit_after l o)) (o ∷ []) []) (sym some) ∙ none)) where
  one : (t b : Bool) → cond t (o ∷ []) [] ≡ [] → cond (b && t) (x ∷ []) [] ≡ []
  one true b e = absurd cc
  one false true e = refl
  one false false e = refl

has_data : (l : List Role) (o : Role) → is_data o ≡ true → list_any is_data (l ++ o ∷ []) ≡ true
has_data l o some = any-push is_data l o ∙ rw some (one (list_any is_data l)) where
  one : (b : Bool) → (b || true) ≡ true
  one true = refl
  one false = refl

-- ---- one more

pub rebuilt_none : IsRebuilt [] []
unfolding placed delimiters unit_count in_units
rebuilt_none = record {
  alike = record { same = refl; placed_same = refl };
  data_same = refl;
  delimited = λ h. absurd cc;
  count = refl;
  units = refl;
  quiet = λ h. refl;
  empty = λ test h. refl;
}

-- a reserved OBU or a redundant copy is left out
pub rebuilt_ignored : (l m : List Role) → IsRebuilt l m → IsRebuilt (l ++ Ignored ∷ []) m
rebuilt_ignored l m r = record {
  alike = alike_left l m Ignored refl r.alike;
  data_same = r.data_same ∙ sym (any-push_none is_data l Ignored refl);
  delimited = r.delimited;
  count = r.count ∙ sym (unit_count-push l Ignored);
  units = r.units ∙ sym (unit_count-push l Ignored);
  quiet = λ h. r.quiet (sym (any-push_none is_data l Ignored refl) ∙ h) ∙ sym (uncounted l Ignored refl);
  empty = λ test h. r.empty test (nothing_in (in_units test l) [] (sym (in_units-push test l Ignored) ∙ h)).0;
}

-- descriptors stand before all data
pub rebuilt_descriptor : (l m : List Role) (o : Role) → is_data o ≡ false → counts o ≡ true → list_any is_data l ≡ false → IsRebuilt l m → IsRebuilt (l ++ o ∷ []) (m ++ o ∷ [])
rebuilt_descriptor l m o quiet some none r = record {
  alike = alike_both l m o some (λ h. absurd (true≢false (sym h ∙ quiet))) r.alike;
  data_same = any-push_none is_data m o quiet ∙ r.data_same ∙ sym (any-push_none is_data l o quiet);
  delimited = λ h. absurd (true≢false (sym h ∙ any-push_none is_data m o quiet ∙ r.data_same ∙ none));
  count = delimiters-push m o ∙ ap (λ b. delimiters m + cond b 1 0) (quiet_delimiter o quiet) ∙ add-zero (delimiters m) ∙ r.count ∙ sym (units_still l);
  units = units_still m ∙ r.units ∙ sym (units_still l);
  quiet = λ h. ap (λ (xs : List Role). xs ++ o ∷ []) (r.quiet none) ∙ sym (counted l o some);
  empty = λ test h. still test m ∙ r.empty test (sym (still test l) ∙ h);
} where
  units_still : (k : List Role) → unit_count (k ++ o ∷ []) ≡ unit_count k
  units_still k = unit_count-push k o ∙ rw quiet refl

  still : (test : ℕ → Bool) (k : List Role) → in_units test (k ++ o ∷ []) ≡ in_units test k
  still test k = in_units-push test k o ∙ ap (λ b. in_units test k ++ cond (b && test (unit_after k o)) (o ∷ []) []) quiet ∙ append-nil (in_units test k)

-- a delimiter stays
pub rebuilt_delimiter : (l m : List Role) → unit_after l Delimiter ≡ unit_count l → IsRebuilt l m → IsRebuilt (l ++ Delimiter ∷ []) (m ++ Delimiter ∷ [])
rebuilt_delimiter l m next r = record {
  alike = alike_left l (m ++ Delimiter ∷ []) Delimiter refl (alike_right l m Delimiter refl r.alike);
  data_same = has_data m Delimiter refl ∙ sym (has_data l Delimiter refl);
  delimited = λ h. with_delimiter l m r;
  count = delimiters-push m Delimiter ∙ ap (λ n. n + 1) (r.count ∙ sym next) ∙ sym (unit_count-push l Delimiter);
  units = unit_count-push m Delimiter ∙ ap (λ n. n + 1) here ∙ sym (unit_count-push l Delimiter);
  quiet = λ h. absurd (true≢false (sym (has_data l Delimiter refl) ∙ h));
  empty = λ test h.
      let parts = nothing_in (in_units test l) (last_in test l Delimiter) (sym (in_units-push test l Delimiter) ∙ h) in
      in_units-push test m Delimiter ∙ ap₂ (λ (xs ys : List Role). xs ++ ys) (r.empty test parts.0) (last_none test l m Delimiter Delimiter refl here parts.1);
} where
  here : unit_after m Delimiter ≡ unit_after l Delimiter
  here = unit_after-delimiter m (with_delimiter l m r) ∙ r.count ∙ sym next

-- a frame or a block of the last unit
pub rebuilt_same : (l m : List Role) (o : Role) → is_data o ≡ true → counts o ≡ true → unit_after l o + 1 ≡ unit_count l → IsRebuilt l m → IsRebuilt (l ++ o ∷ []) (m ++ o ∷ [])
rebuilt_same l m o some counted_in is r = record {
  alike = alike_both l m o counted_in (λ h. here) r.alike;
  data_same = has_data m o some ∙ sym (has_data l o some);
  delimited = λ h. is_delimited-kept m (o ∷ []) has ∙ r.delimited has;
  count = delimiters-push m o ∙ ap (λ b. delimiters m + cond b 1 0) (carried_delimiter o counted_in) ∙ add-zero (delimiters m) ∙ r.count ∙ sym still;
  units = unit_count-push m o ∙ rw some (ap (λ n. n + 1) here) ∙ is ∙ sym still;
  quiet = λ h. absurd (true≢false (sym (has_data l o some) ∙ h));
  empty = λ test h.
      let parts = nothing_in (in_units test l) (last_in test l o) (sym (in_units-push test l o) ∙ h) in
      in_units-push test m o ∙ ap₂ (λ (xs ys : List Role). xs ++ ys) (r.empty test parts.0) (last_none test l m o o some here parts.1);
} where
  has : list_any is_data m ≡ true
  has = r.data_same ∙ some_data l (omega arith)

  here : unit_after m o ≡ unit_after l o
  here = unit_same l m o r counted_in is

  still : unit_count (l ++ o ∷ []) ≡ unit_count l
  still = unit_count-push l o ∙ rw some is

-- a frame or a block that begins a unit comes after a delimiter
pub rebuilt_new : (l m : List Role) (o : Role) → is_data o ≡ true → counts o ≡ true → unit_after l o ≡ unit_count l → IsRebuilt l m → IsRebuilt (l ++ o ∷ []) ((m ++ Delimiter ∷ []) ++ o ∷ [])
rebuilt_new l m o some counted_in is r = record {
  alike = alike_both l (m ++ Delimiter ∷ []) o counted_in (λ h. here) (alike_right l m Delimiter refl r.alike);
  data_same = has_data (m ++ Delimiter ∷ []) o some ∙ sym (has_data l o some);
  delimited = λ h. is_delimited-kept (m ++ Delimiter ∷ []) (o ∷ []) (has_data m Delimiter refl) ∙ with_delimiter l m r;
  count = delimiters-push (m ++ Delimiter ∷ []) o ∙ ap (λ b. delimiters (m ++ Delimiter ∷ []) + cond b 1 0) (carried_delimiter o counted_in) ∙ add-zero (delimiters (m ++ Delimiter ∷ []))
      ∙ delimiters-push m Delimiter ∙ ap (λ n. n + 1) (r.count ∙ sym is) ∙ sym next;
  units = unit_count-push (m ++ Delimiter ∷ []) o ∙ rw some (ap (λ n. n + 1) here) ∙ sym next;
  quiet = λ h. absurd (true≢false (sym (has_data l o some) ∙ h));
  empty = λ test h.
      let parts = nothing_in (in_units test l) (last_in test l o) (sym (in_units-push test l o) ∙ h) in
      in_units-push test (m ++ Delimiter ∷ []) o
      ∙ ap₂ (λ (xs ys : List Role). xs ++ ys)
      (in_units-push test m Delimiter ∙ ap₂ (λ (xs ys : List Role). xs ++ ys) (r.empty test parts.0) (last_none test l m o Delimiter some marked parts.1))
      (last_none test l (m ++ Delimiter ∷ []) o o some here parts.1);
} where
  here : unit_after (m ++ Delimiter ∷ []) o ≡ unit_after l o
  here = unit_new l m o r counted_in is

  marked : unit_after m Delimiter ≡ unit_after l o
  marked = unit_after-delimiter m (with_delimiter l m r) ∙ r.count ∙ sym is

  next : unit_count (l ++ o ∷ []) ≡ unit_after l o + 1
  next = unit_count-push l o ∙ rw some refl

-- ---- no fault comes

-- before the payload of a frame, a block or a delimiter
data_before : (l m : List Role) (o : Role) → IsRebuilt l m → is_data o ≡ true → fault_before m (type_of_role o) ≡ fault_before l (type_of_role o)
unfolding fault_before
data_before l m (ParameterBlock b) r some = rw (r.data_same, lacks_same l m r.alike, fit_same l m r.alike) refl
data_before l m (AudioFrame f) r some = rw (r.data_same, lacks_same l m r.alike, fit_same l m r.alike) refl
data_before l m Delimiter r some = rw (r.data_same, lacks_same l m r.alike, fit_same l m r.alike) refl
data_before l m _ r some = absurd cc

-- once there is a data OBU nothing is tested of the start
started : (m : List Role) (o : Role) → is_data o ≡ true → list_any is_data m ≡ true → fault_before m (type_of_role o) ≡ None
unfolding fault_before
started m (ParameterBlock b) some has = rw has refl
started m (AudioFrame f) some has = rw has refl
started m Delimiter some has = rw has refl
started m _ some has = absurd cc

-- each type of data is tested alike
before_delimiter : (l : List Role) (o : Role) → is_data o ≡ true → fault_before l (type_of_role Delimiter) ≡ fault_before l (type_of_role o)
unfolding fault_before
before_delimiter l (ParameterBlock b) some = refl
before_delimiter l (AudioFrame f) some = refl
before_delimiter l Delimiter some = refl
before_delimiter l _ some = absurd cc

carried_late : (l m : List Role) (o : Role) → IsAlike l m → is_data o ≡ true → counts o ≡ true → unit_after m o ≡ unit_after l o → fault_after m o ≡ fault_after l o
carried_late l m (ParameterBlock b) a some counted_in unit = block_fault_same l m b a unit
carried_late l m (AudioFrame f) a some counted_in unit = frame_fault_same l m f a unit
carried_late l m Delimiter a some counted_in unit = absurd cc
carried_late l m _ a some counted_in unit = absurd cc

pub same_passes : (l m : List Role) (o : Role) → is_data o ≡ true → counts o ≡ true → unit_after l o + 1 ≡ unit_count l → IsRebuilt l m → HasNoFault l o → HasNoFault m o
same_passes l m o some counted_in is r h = record {
  early = data_before l m o r some ∙ h.early;
  late = carried_late l m o r.alike some counted_in (unit_same l m o r counted_in is) ∙ h.late;
}

pub new_passes : (l m : List Role) (o : Role) → is_data o ≡ true → counts o ≡ true → unit_after l o ≡ unit_count l → IsRebuilt l m → HasNoFault l o → HasNoFault (m ++ Delimiter ∷ []) o
new_passes l m o some counted_in is r h = record {
  early = started (m ++ Delimiter ∷ []) o some (has_data m Delimiter refl);
  late = carried_late l (m ++ Delimiter ∷ []) o (alike_right l m Delimiter refl r.alike) some counted_in (unit_new l m o r counted_in is) ∙ h.late;
}

-- the unit before a delimiter is complete, where there is one
delimiter_late : (m : List Role) → is_delimited (m ++ Delimiter ∷ []) ≡ true → (list_any is_delimiter m ≡ true → is_complete (unit_after m Delimiter - 1) m ≡ true) → fault_after m Delimiter ≡ None
unfolding fault_after
delimiter_late m with complete = rw with (one (list_any is_delimiter m) (is_complete (unit_after m Delimiter - 1) m) complete)
  where
    one : (some complete : Bool) → (some ≡ true → complete ≡ true) → first_of (when (some && not complete) UnitShort ∷ []) ≡ None
    one true complete has = rw (has refl) refl
    one false complete has = refl

pub delimiter_passes : (l m : List Role) (o : Role) → is_data o ≡ true → fault_before l (type_of_role o) ≡ None → (0 < unit_count l → is_complete (unit_count l - 1) l ≡ true) → IsRebuilt l m → HasNoFault m Delimiter
delimiter_passes l m o some early complete r = record {
  early = data_before l m Delimiter r refl ∙ before_delimiter l o some ∙ early;
  late = delimiter_late m (with_delimiter l m r) (λ any. ended any);
} where
  ended : list_any is_delimiter m ≡ true → is_complete (unit_after m Delimiter - 1) m ≡ true
  ended any =
      let unit : unit_after m Delimiter ≡ unit_count l = unit_after-delimiter m (with_delimiter l m r) ∙ r.count in
      let begun : 0 < unit_count l = elim (cases_Bool (list_any is_data m)) [
        | inl has ↦ omega (arith, delimiters-some m (r.delimited has), r.count)
        | inr none ↦ absurd (true≢false (sym any ∙ any_none is_data is_delimiter quiet_delimiter m none))
      ] in
      ap (λ u. is_complete (u - 1) m) unit ∙ complete_same l m (unit_count l - 1) r.alike ∙ complete begun

-- the order of descriptors
order_kept : (l m : List Role) (r : ℕ) → IsRebuilt l m → list_any is_data l ≡ false → is_out_of_order l r ≡ false → is_out_of_order m r ≡ false
unfolding is_out_of_order
order_kept l m r is none h =
    let parts = order_parts l r h in
    ap₂ (λ a b. a || b) (ap (λ (ps : List ℕ). is_none_of ps) (profiles_same l m is.alike) ∙ parts.0)
    (ap (list_any (λ e. ltb r (rank e))) (is.quiet none) ∙ any_filtered counts (λ e. ltb r (rank e)) l parts.1)

descriptor_early : (l m : List Role) (o : Role) → is_data o ≡ false → list_any is_data l ≡ false → IsRebuilt l m → fault_before l (type_of_role o) ≡ None → fault_before m (type_of_role o) ≡ None
unfolding fault_before
descriptor_early l m (SequenceHeader p) quiet none r h = rw (profiles_same l m r.alike) h
descriptor_early l m (CodecConfig c) quiet none r h = rw (order_kept l m 2 r none (codec_before l h)) refl
descriptor_early l m (AudioElement e) quiet none r h = rw (order_kept l m 3 r none (element_before l h)) refl
descriptor_early l m (MixPresentation x) quiet none r h = rw (order_kept l m 4 r none (mix_before l h)) refl
descriptor_early l m Ignored quiet none r h = h
descriptor_early l m _ quiet none r h = absurd cc

pub descriptor_passes : (l m : List Role) (o : Role) → is_data o ≡ false → list_any is_data l ≡ false → IsRebuilt l m → HasNoFault l o → HasNoFault m o
descriptor_passes l m o quiet none r h = record { early = descriptor_early l m o quiet none r h.early; late = descriptor_fault_same l m o r.alike quiet ∙ h.late }

-- ---- the units of a list that is admitted

pub descriptor_quiet : (l : List Role) (o : Role) → Lawful l → is_data o ≡ false → counts o ≡ true → HasNoFault l o → list_any is_data l ≡ false
descriptor_quiet l (SequenceHeader p) law quiet some h = no_data-header l law.balanced (header_before l h.early)
descriptor_quiet l (CodecConfig c) law quiet some h = no_data-order l 2 (omega arith) (codec_before l h.early)
descriptor_quiet l (AudioElement e) law quiet some h = no_data-order l 3 (omega arith) (element_before l h.early)
descriptor_quiet l (MixPresentation x) law quiet some h = no_data-order l 4 (omega arith) (mix_before l h.early)
descriptor_quiet l _ law quiet some h = absurd cc

-- a frame or a block stands in the last unit that is begun, or begins the next
pub next_unit : (l : List Role) (o : Role) → Lawful l → counts o ≡ true → (unit_after l o + 1 ≡ unit_count l) ⊎ (unit_after l o ≡ unit_count l)
next_unit l o law some = one (is_none_of (in_unit (open_unit l) l)) law.counted (unit_after-other l o (carried_delimiter o some)) where
  one : (b : Bool) → unit_count l ≡ open_unit l + cond b 0 1 → unit_after l o ≡ open_unit l → (unit_after l o + 1 ≡ unit_count l) ⊎ (unit_after l o ≡ unit_count l)
  one true count here = inr (omega (arith, count, here))
  one false count here = inl (omega (arith, count, here))

-- the one before is complete then
pub complete_last : (l : List Role) (o : Role) → Lawful l → counts o ≡ true → unit_after l o ≡ unit_count l → 0 < unit_count l → is_complete (unit_count l - 1) l ≡ true
complete_last l o law some next begun = law.balanced.closed (unit_count l - 1) (omega (arith, next, unit_after-other l o (carried_delimiter o some)))

-- with delimiters there are as many units
abbrev pub IsMarked : List Role → Type 0
IsMarked l = is_delimited l ≡ true → unit_count l ≡ delimiters l

pub marked-quiet : (l : List Role) (o : Role) → is_data o ≡ false → IsMarked l → IsMarked (l ++ o ∷ [])
marked-quiet l o quiet marked h =
    let still : unit_count (l ++ o ∷ []) ≡ unit_count l = unit_count-push l o ∙ ap (λ b. cond b (unit_after l o + 1) (unit_count l)) quiet in
    let no_more : delimiters (l ++ o ∷ []) ≡ delimiters l = delimiters-push l o ∙ ap (λ b. delimiters l + cond b 1 0) (quiet_delimiter o quiet) ∙ add-zero (delimiters l) in
    still ∙ marked (sym (is_delimited-quiet l o (quiet_delimiter o quiet)) ∙ h) ∙ sym no_more

pub marked-delimiter : (l : List Role) → IsMarked (l ++ Delimiter ∷ [])
marked-delimiter l h = unit_count-push l Delimiter ∙ ap (λ n. n + 1) (unit_after-delimiter l h) ∙ sym (delimiters-push l Delimiter)

pub marked-carried : (l : List Role) (o : Role) → is_data o ≡ true → counts o ≡ true → IsMarked (l ++ o ∷ [])
marked-carried l o some counted_in h =
    let before : is_delimited l ≡ true = sym (is_delimited-quiet l o (carried_delimiter o counted_in)) ∙ h in
    let next : unit_count (l ++ o ∷ []) ≡ unit_after l o + 1 = unit_count-push l o ∙ ap (λ b. cond b (unit_after l o + 1) (unit_count l)) some in
    let no_more : delimiters (l ++ o ∷ []) ≡ delimiters l = delimiters-push l o ∙ ap (λ b. delimiters l + cond b 1 0) (carried_delimiter o counted_in) ∙ add-zero (delimiters l) in
    omega (arith, next, no_more, unit_after-other l o (carried_delimiter o counted_in), open_unit-with l before, delimiters-some l before)

pub delimiter_next : (l : List Role) → IsMarked l → fault_after l Delimiter ≡ None → unit_after l Delimiter ≡ unit_count l
delimiter_next l marked late =
    let with : is_delimited (l ++ Delimiter ∷ []) ≡ true = (delimiter_none l late).0 in
    unit_after-delimiter l with ∙ elim (cases_Bool (list_any is_data l)) [
      | inl has ↦ sym (marked (sym (is_delimited-kept l (Delimiter ∷ []) has) ∙ with))
      | inr none ↦ delimiters-none l none ∙ sym (unit_count-none l none)
    ]

complete_before : (l : List Role) → fault_after l Delimiter ≡ None → list_any is_data l ≡ true → is_complete (open_unit l) l ≡ true
complete_before l h has =
    let none = delimiter_none l h in
    let before : is_delimited l ≡ true = sym (is_delimited-kept l (Delimiter ∷ []) has) ∙ none.0 in
    subst (λ (u : ℕ). is_complete u l ≡ true) (ended_is l before has) (not-false (is_complete (unit_after l Delimiter - 1) l) (sym (ap (λ b. b && not (is_complete (unit_after l Delimiter - 1) l)) (some_delimiter l before)) ∙ none.1))

pub delimiter_complete : (l : List Role) → IsMarked l → fault_after l Delimiter ≡ None → 0 < unit_count l → is_complete (unit_count l - 1) l ≡ true
delimiter_complete l marked late begun =
    let has = some_data l begun in
    let before : is_delimited l ≡ true = sym (is_delimited-kept l (Delimiter ∷ []) has) ∙ (delimiter_none l late).0 in
    let last : unit_count l - 1 ≡ open_unit l = omega (arith, marked before, open_unit-ended l before) in
    ap (λ u. is_complete u l) last ∙ complete_before l late has

-- ---- the end

same_units : (test other : ℕ → Bool) → ((u : ℕ) → test u ≡ other u) → (ps : List (ℕ × Role)) → flat_map (if_unit test) ps ≡ flat_map (if_unit other) ps
same_units test other same [] = refl
same_units test other same (p ∷ ps) = ap₂ (λ (xs ys : List Role). xs ++ ys) (ap (λ b. cond b (p.1 ∷ []) []) (same p.0)) (same_units test other same ps)

short_kept : (l m : List Role) → IsRebuilt l m → has_short_unit l ≡ false → has_short_unit m ≡ false
unfolding in_units
short_kept l m r h =
    let lacks : ℕ → Bool = λ u. not (is_complete u l) in
    let none : in_units lacks m ≡ [] = r.empty lacks (none_of (in_units lacks l) (not-false (is_none_of (in_units lacks l)) h)) in
    ap (λ (os : List Role). not (is_none_of os)) (same_units (λ u. not (is_complete u m)) lacks (λ u. ap not (complete_same l m u r.alike)) (placed m) ∙ none)

abbrev end_of : (has lacks fit short : Bool) → Option Fault
end_of has lacks fit short = first_of (when (not has && lacks) Incomplete ∷ when (not has && not fit) NoMixFits ∷ when short UnitShort ∷ [])

end_is : (l : List Role) → end_fault l ≡ end_of (list_any is_data l) (lacks_descriptors l) (has_fit l) (has_short_unit l)
unfolding end_fault
end_is l = refl

unfolded : (l : List Role) → end_fault l ≡ None → first_of (start_tests l ++ when (has_short_unit l) UnitShort ∷ []) ≡ None
unfolding end_fault
unfolded l h = h

pub ends : (l m : List Role) → IsRebuilt l m → end_fault l ≡ None → end_fault m ≡ None
ends l m r h =
    let was : has_short_unit l ≡ false = last_row (start_tests l) (has_short_unit l) UnitShort (unfolded l h) in
    end_is m
    ∙ ap (λ b. end_of b (lacks_descriptors m) (has_fit m) (has_short_unit m)) r.data_same
    ∙ ap (λ b. end_of (list_any is_data l) b (has_fit m) (has_short_unit m)) (lacks_same l m r.alike)
    ∙ ap (λ b. end_of (list_any is_data l) (lacks_descriptors l) b (has_short_unit m)) (fit_same l m r.alike)
    ∙ ap (λ b. end_of (list_any is_data l) (lacks_descriptors l) (has_fit l) b) (short_kept l m r was ∙ sym was)
    ∙ sym (end_is l)
    ∙ h
