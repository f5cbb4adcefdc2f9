-- What is rebuilt of the body of a sequence, as the sequence's OBUs come.
use Rattle.std.proofs.Common.{◌≡◌, ℕ, ◌+◌, ◌*◌, ◌≤◌, Bool, true, false, cond, List, [], ◌∷◌, ◌++◌, length, refl, sym, ap, ap₂, ◌∙◌, inl, inr, subst, append_assoc, append-nil, true≢false, length-append, arith}
use Rattle.std.specs.Prelude.{None}
use Rattle.std.specs.List.{list_any}
use Rattle.spec_bits.specs.Leb.{EndsAtLast}
use Rattle.spec_values.specs.Content.{Context, Nothing}
use Rattle.spec_values.specs.Value.{Spells}
use Rattle.spec_rules.specs.Role.{Role, Ignored, SequenceHeader, CodecConfig, AudioElement, MixPresentation, Delimiter, ParameterBlock, AudioFrame}
use Rattle.spec_rules.specs.Descriptors.{context_of}
use Rattle.spec_rules.specs.Units.{is_data, unit_after, unit_count}
use Rattle.spec_rules.specs.Rules.{fault_before, fault_after}
use Rattle.spec_rules.specs.Admitted.{type_of_role, HasNoFault, IsAdmitted}
use Rattle.spec_rules.proofs.Placing.{unit_count-push, unit_count-none, is_delimited-none}
use Rattle.spec_sequence.specs.ValueRole.{plain_role}
use Rattle.spec_sequence.specs.Reading.{context_after, IsAdmissible}
use Rattle.spec_sequence.proofs.Roles.{redundant_role}
use Rattle.spec_files.specs.Body.{is_descriptor, rebuilt}
use Rattle.spec_files.specs.Body as body
use Rattle.spec_files.proofs.Delimiter.{delimiter, delimiter_is}
use Rattle.spec_bodies.specs.Spelled.{Spelled, entry_of, obu_of, role_of, entries_of, roles_of, bytes_of, AdmittedAfter}
use Rattle.spec_bodies.specs.SequenceBody.{placed_after, unit_bytes, units, descriptors}
use Rattle.spec_bodies.proofs.Alike.{counts, IsAlike, frame_length_same, definitions_same}
use Rattle.spec_rules.proofs.Lawful.{Lawful, lawful, admitted-push}
use Rattle.spec_bodies.proofs.SpelledRoles.{describes, carries, descriptor_is, data_is, roles_are, roles_push, early_is, no_fault}
use Rattle.spec_bodies.proofs.Rebuilt.{IsRebuilt, alike_right, unit_same, unit_new, rebuilt_none, rebuilt_ignored, rebuilt_descriptor, rebuilt_delimiter, rebuilt_same, rebuilt_new, same_passes, new_passes, delimiter_passes, descriptor_passes, descriptor_quiet, next_unit, complete_last, IsMarked, marked-quiet, marked-delimiter, marked-carried, delimiter_next, delimiter_complete}
use Rattle.spec_bodies.proofs.OneMore.{bytes-push, descriptors-none, units-none, rebuilt-none, descriptors-more, descriptors-same, placed-none, placed-some, unit-other, unit-apart, units-quiet, units-mark, units-new, GrowsLast, units-grow, rebuilt-unit, rebuilt-grow, rebuilt-describe, size, size-push}

-- ---- one OBU in the rebuilt list

-- the delimiter that begins a unit
pub mark : Spelled
mark = record { value = record { head = delimiter; content = Nothing; tail = [] }; payload = []; bytes = 0x20 ∷ 0 ∷ [] }

mark_role : role_of mark ≡ Delimiter
unfolding mark delimiter
mark_role = refl

mark_descriptor : is_descriptor (obu_of mark) ≡ false
unfolding mark delimiter
mark_descriptor = refl

mark_data : body.is_data (obu_of mark) ≡ false
unfolding mark delimiter
mark_data = refl

mark_bytes : mark.bytes ≡ 0x20 ∷ 0 ∷ []
unfolding mark
mark_bytes = refl

mark_plain : mark.value.head.redundant ≡ false
unfolding mark delimiter
mark_plain = refl

mark_spells : (context : Context) → Spells context mark.value mark.payload mark.bytes
unfolding mark delimiter
mark_spells context = record { header = delimiter_is; payload_is = record { says = refl; bytes = tt; tail_is = tt } }

context_same : (l m : List Role) → IsAlike l m → context_of m ≡ context_of l
unfolding context_of
context_same l m a = rw (frame_length_same l m a, definitions_same l m a) refl

spells_again : (os ps : List Spelled) (o : Spelled) → IsAlike (roles_of os) (roles_of ps) → Spells (context_after (entries_of os)) o.value o.payload o.bytes → Spells (context_after (entries_of ps)) o.value o.payload o.bytes
spells_again os ps o a s =
    subst (λ (c : Context). Spells c o.value o.payload o.bytes)
    (ap context_of (roles_are os) ∙ sym (context_same (roles_of os) (roles_of ps) a) ∙ ap context_of (sym (roles_are ps))) s

plain_is : (o : Spelled) → o.value.head.redundant ≡ false → role_of o ≡ plain_role o.value.head o.value.content o.value.tail
plain_is o plain = rw plain refl

passes : (ps : List Spelled) (o : Spelled) → Spells (context_after (entries_of ps)) o.value o.payload o.bytes → o.value.head.redundant ≡ false → HasNoFault (roles_of ps) (role_of o) → IsAdmissible (entries_of ps) (entry_of o)
passes ps o s plain h = record {
  early = early_is ps (context_after (entries_of ps)) o s plain ∙ ap (λ (r : Role). fault_before (roles_of ps) (type_of_role r)) (sym (plain_is o plain)) ∙ h.early;
  late = subst (λ (l : List Role). fault_after l (role_of o) ≡ None) (sym (roles_are ps)) h.late;
}

pub admitted_more : (past os : List Spelled) (o : Spelled) → AdmittedAfter past os → Spells (context_after (entries_of (past ++ os))) o.value o.payload o.bytes → IsAdmissible (entries_of (past ++ os)) (entry_of o) → AdmittedAfter past (os ++ o ∷ [])
admitted_more past [] o h s a = (subst (λ (p : List Spelled). Spells (context_after (entries_of p)) o.value o.payload o.bytes) (append-nil past) s, subst (λ (p : List Spelled). IsAdmissible (entries_of p) (entry_of o)) (append-nil past) a, tt)
admitted_more past (x ∷ xs) o h s a = (
  h.0,
  h.1,
  admitted_more (past ++ x ∷ []) xs o h.2
      (subst (λ (p : List Spelled). Spells (context_after (entries_of p)) o.value o.payload o.bytes) (sym (append_assoc past (x ∷ []) xs)) s)
      (subst (λ (p : List Spelled). IsAdmissible (entries_of p) (entry_of o)) (sym (append_assoc past (x ∷ []) xs)) a),
)

admit : (os ps : List Spelled) (o : Spelled) → AdmittedAfter [] ps → IsAlike (roles_of os) (roles_of ps) → Spells (context_after (entries_of os)) o.value o.payload o.bytes → o.value.head.redundant ≡ false → HasNoFault (roles_of ps) (role_of o) → AdmittedAfter [] (ps ++ o ∷ [])
admit os ps o h a s plain none = let again = spells_again os ps o a s in admitted_more [] ps o h again (passes ps o again plain none)

admit_mark : (ps : List Spelled) → AdmittedAfter [] ps → HasNoFault (roles_of ps) Delimiter → AdmittedAfter [] (ps ++ mark ∷ [])
admit_mark ps h none = admitted_more [] ps mark h (mark_spells (context_after (entries_of ps))) (passes ps mark (mark_spells (context_after (entries_of ps))) mark_plain (subst (HasNoFault (roles_of ps)) (sym mark_role) none))

-- ---- what is known of the OBUs so far, and of what is rebuilt of them

pub record Rebuilds (os ps : List Spelled) : Type 0 where
  pub law : IsAdmitted (roles_of os)
  pub marked : IsMarked (roles_of os)
  pub roles : IsRebuilt (roles_of os) (roles_of ps)
  pub admitted : AdmittedAfter [] ps
  pub descriptors_same : descriptors ps ≡ descriptors os
  pub placed_same : placed_after [] ps ≡ placed_after [] os
  pub bytes : bytes_of ps ≡ rebuilt (descriptors os) (units os)
  pub later : (v : ℕ) → unit_count (roles_of os) ≤ v → unit_bytes os v ≡ []
  pub small : length (descriptors os) + size (units os) ≤ length (bytes_of os)
  pub few : 2 * unit_count (roles_of os) ≤ length (bytes_of os)

none_begun : unit_count [] ≡ 0
none_begun = unit_count-none [] refl

pub rebuilds_none : Rebuilds [] []
unfolding unit_bytes IsAdmitted
rebuilds_none = record {
  law = tt;
  marked = λ h. absurd (true≢false (sym h ∙ is_delimited-none [] refl));
  roles = rebuilt_none;
  admitted = tt;
  descriptors_same = refl;
  placed_same = refl;
  bytes = sym (ap₂ rebuilt descriptors-none (units-none [] none_begun) ∙ rebuilt-none);
  later = λ v h. refl;
  small = omega (arith, ap length descriptors-none, ap size (units-none [] none_begun));
  few = omega (arith, none_begun);
}

-- ---- one more

-- the OBU spells its value after those before it
abbrev pub IsSpelled : List Spelled → Spelled → Type 0
IsSpelled os o = Spells (context_after (entries_of os)) o.value o.payload o.bytes

pub plain_of : (o : Spelled) → counts (role_of o) ≡ true → o.value.head.redundant ≡ false
plain_of o some = one o.value.head.redundant refl where
  one : (b : Bool) → o.value.head.redundant ≡ b → b ≡ false
  one true e = absurd (true≢false (sym some ∙ ap counts (redundant_role o.value e)))
  one false e = refl

some_size : (b : List ℕ) → EndsAtLast b → 1 ≤ length b
some_size [] e = absurd e
some_size (x ∷ xs) e = omega arith

two_bytes : (os : List Spelled) (o : Spelled) → IsSpelled os o → 2 ≤ length o.bytes
two_bytes os o s = omega (arith, ap length s.header.bytes, length-append s.header.size (s.header.trim ++ (s.header.extension ++ o.payload)), some_size s.header.size s.header.size_is.ends)

longer : (os : List Spelled) (o : Spelled) → length (bytes_of (os ++ o ∷ [])) ≡ length (bytes_of os) + length o.bytes
longer os o = ap length (bytes-push os o) ∙ length-append (bytes_of os) o.bytes

law_more : (os : List Spelled) (o : Spelled) → IsAdmitted (roles_of os) → HasNoFault (roles_of os) (role_of o) → IsAdmitted (roles_of (os ++ o ∷ []))
law_more os o law none = subst IsAdmitted (sym (roles_push os o)) (admitted-push (roles_of os) (role_of o) law none)

roles_more : (os : List Spelled) (o : Spelled) (m : List Role) → IsRebuilt (roles_of os ++ role_of o ∷ []) m → IsRebuilt (roles_of (os ++ o ∷ [])) m
roles_more os o m r = subst (λ (l : List Role). IsRebuilt l m) (sym (roles_push os o)) r

with_more : (l : List Role) (ps : List Spelled) (o : Spelled) → IsRebuilt l (roles_of ps ++ role_of o ∷ []) → IsRebuilt l (roles_of (ps ++ o ∷ []))
with_more l ps o r = subst (λ (m : List Role). IsRebuilt l m) (sym (roles_push ps o)) r

with_mark : (ps : List Spelled) → roles_of (ps ++ mark ∷ []) ≡ roles_of ps ++ Delimiter ∷ []
with_mark ps = roles_push ps mark ∙ ap (λ (r : Role). roles_of ps ++ r ∷ []) mark_role

pub units_more : (os : List Spelled) (o : Spelled) → unit_count (roles_of (os ++ o ∷ [])) ≡ cond (is_data (role_of o)) (unit_after (roles_of os) (role_of o) + 1) (unit_count (roles_of os))
units_more os o = ap unit_count (roles_push os o) ∙ unit_count-push (roles_of os) (role_of o)

-- a reserved OBU or a redundant copy
pub rebuilds_ignored : (os ps : List Spelled) (o : Spelled) → role_of o ≡ Ignored → IsSpelled os o → HasNoFault (roles_of os) (role_of o) → Rebuilds os ps → Rebuilds (os ++ o ∷ []) ps
rebuilds_ignored os ps o is s none r = record {
  law = law_more os o r.law none;
  marked = subst IsMarked (sym (roles_push os o)) (marked-quiet (roles_of os) (role_of o) (ap is_data is) r.marked);
  roles = roles_more os o (roles_of ps) (subst (λ (x : Role). IsRebuilt (roles_of os ++ x ∷ []) (roles_of ps)) (sym is) (rebuilt_ignored (roles_of os) (roles_of ps) r.roles));
  admitted = r.admitted;
  descriptors_same = r.descriptors_same ∙ sym described;
  placed_same = r.placed_same ∙ sym (placed-none os o no_data);
  bytes = r.bytes ∙ sym (ap₂ rebuilt described carried);
  later = λ v above. unit-other os o v no_data ∙ r.later v (omega (arith, still, above));
  small = omega (arith, r.small, ap length described, ap size carried, longer os o);
  few = omega (arith, r.few, still, longer os o);
} where
  no_data : body.is_data (obu_of o) ≡ false
  no_data = data_is (context_after (entries_of os)) o s ∙ ap carries is

  described : descriptors (os ++ o ∷ []) ≡ descriptors os
  described = descriptors-same os o (descriptor_is (context_after (entries_of os)) o s ∙ ap describes is)

  still : unit_count (roles_of (os ++ o ∷ [])) ≡ unit_count (roles_of os)
  still = units_more os o ∙ ap (λ (x : Role). cond (is_data x) (unit_after (roles_of os) (role_of o) + 1) (unit_count (roles_of os))) is

  carried : units (os ++ o ∷ []) ≡ units os
  carried = units-quiet os o no_data still

-- a descriptor
pub rebuilds_descriptor : (os ps : List Spelled) (o : Spelled) → is_data (role_of o) ≡ false → counts (role_of o) ≡ true → describes (role_of o) ≡ true → carries (role_of o) ≡ false
    → IsSpelled os o → HasNoFault (roles_of os) (role_of o) → Rebuilds os ps → Rebuilds (os ++ o ∷ []) (ps ++ o ∷ [])
rebuilds_descriptor os ps o quiet some is no_carrier s none r = record {
  law = law_more os o r.law none;
  marked = subst IsMarked (sym (roles_push os o)) (marked-quiet (roles_of os) (role_of o) quiet r.marked);
  roles = roles_more os o (roles_of (ps ++ o ∷ [])) (with_more (roles_of os ++ role_of o ∷ []) ps o (rebuilt_descriptor (roles_of os) (roles_of ps) (role_of o) quiet some first r.roles));
  admitted = admit os ps o r.admitted r.roles.alike s (plain_of o some) (descriptor_passes (roles_of os) (roles_of ps) (role_of o) quiet first r.roles none);
  descriptors_same = descriptors-more ps o described ∙ ap (λ (b : List ℕ). b ++ o.bytes) r.descriptors_same ∙ sym (descriptors-more os o described);
  placed_same = placed-none ps o no_data ∙ r.placed_same ∙ sym (placed-none os o no_data);
  bytes = bytes-push ps o ∙ ap (λ (b : List ℕ). b ++ o.bytes) (r.bytes ∙ ap (rebuilt (descriptors os)) (units-none os no_unit))
      ∙ sym (rebuilt-describe (descriptors os) o.bytes) ∙ sym (ap₂ rebuilt (descriptors-more os o described) (units-none (os ++ o ∷ []) (still ∙ no_unit)));
  later = λ v above. unit-other os o v no_data ∙ r.later v (omega (arith, still, above));
  small = omega (arith, r.small, ap length (descriptors-more os o described), length-append (descriptors os) o.bytes, ap size (units-quiet os o no_data still), longer os o);
  few = omega (arith, r.few, still, longer os o);
} where
  first : list_any is_data (roles_of os) ≡ false
  first = descriptor_quiet (roles_of os) (role_of o) (lawful (roles_of os) r.law) quiet some none

  no_data : body.is_data (obu_of o) ≡ false
  no_data = data_is (context_after (entries_of os)) o s ∙ no_carrier

  described : is_descriptor (obu_of o) ≡ true
  described = descriptor_is (context_after (entries_of os)) o s ∙ is

  still : unit_count (roles_of (os ++ o ∷ [])) ≡ unit_count (roles_of os)
  still = units_more os o ∙ ap (λ b. cond b (unit_after (roles_of os) (role_of o) + 1) (unit_count (roles_of os))) quiet

  no_unit : unit_count (roles_of os) ≡ 0
  no_unit = unit_count-none (roles_of os) first

-- a delimiter begins the next unit
pub delimiter_here : (os ps : List Spelled) (o : Spelled) → role_of o ≡ Delimiter → HasNoFault (roles_of os) (role_of o) → Rebuilds os ps → unit_after (roles_of os) (role_of o) ≡ unit_count (roles_of os)
delimiter_here os ps o is none r =
    ap (unit_after (roles_of os)) is ∙ delimiter_next (roles_of os) r.marked (subst (λ (x : Role). fault_after (roles_of os) x ≡ None) is none.late)

pub delimiter_units : (os ps : List Spelled) (o : Spelled) → role_of o ≡ Delimiter → IsSpelled os o → HasNoFault (roles_of os) (role_of o) → Rebuilds os ps
    → (unit_count (roles_of (os ++ o ∷ [])) ≡ unit_count (roles_of os) + 1) × (units (os ++ o ∷ []) ≡ units os ++ [] ∷ [])
delimiter_units os ps o is s none r = (begins, units-mark os o (data_is (context_after (entries_of os)) o s ∙ ap carries is) begins (r.later (unit_count (roles_of os)) (omega arith))) where
  begins : unit_count (roles_of (os ++ o ∷ [])) ≡ unit_count (roles_of os) + 1
  begins = units_more os o ∙ ap (λ b. cond b (unit_after (roles_of os) (role_of o) + 1) (unit_count (roles_of os))) (ap is_data is) ∙ ap (λ n. n + 1) (delimiter_here os ps o is none r)

pub rebuilds_delimiter : (os ps : List Spelled) (o : Spelled) → role_of o ≡ Delimiter → IsSpelled os o → HasNoFault (roles_of os) (role_of o) → Rebuilds os ps → Rebuilds (os ++ o ∷ []) (ps ++ mark ∷ [])
rebuilds_delimiter os ps o is s none r = record {
  law = law_more os o r.law none;
  marked = subst IsMarked (sym (roles_push os o)) (subst (λ (x : Role). IsMarked (roles_of os ++ x ∷ [])) (sym is) (marked-delimiter (roles_of os)));
  roles = roles_more os o (roles_of (ps ++ mark ∷ [])) (subst (λ (m : List Role). IsRebuilt (roles_of os ++ role_of o ∷ []) m) (sym (with_mark ps))
      (subst (λ (x : Role). IsRebuilt (roles_of os ++ x ∷ []) (roles_of ps ++ Delimiter ∷ [])) (sym is) (rebuilt_delimiter (roles_of os) (roles_of ps) next r.roles)));
  admitted = admit_mark ps r.admitted (delimiter_passes (roles_of os) (roles_of ps) Delimiter refl passed.early (delimiter_complete (roles_of os) r.marked passed.late) r.roles);
  descriptors_same = descriptors-same ps mark mark_descriptor ∙ r.descriptors_same ∙ sym described;
  placed_same = placed-none ps mark mark_data ∙ r.placed_same ∙ sym (placed-none os o no_data);
  bytes = bytes-push ps mark ∙ ap₂ (λ (b c : List ℕ). b ++ c) r.bytes mark_bytes
      ∙ sym (append-nil (rebuilt (descriptors os) (units os) ++ 0x20 ∷ 0 ∷ [])) ∙ sym (rebuilt-unit (descriptors os) (units os) []) ∙ sym (ap₂ rebuilt described carried);
  later = λ v above. unit-other os o v no_data ∙ r.later v (omega (arith, begins, above));
  small = omega (arith, r.small, ap length described, ap size carried, size-push (units os) [], longer os o);
  few = omega (arith, r.few, begins, longer os o, two_bytes os o s);
} where
  passed : HasNoFault (roles_of os) Delimiter
  passed = subst (HasNoFault (roles_of os)) is none

  next : unit_after (roles_of os) Delimiter ≡ unit_count (roles_of os)
  next = ap (unit_after (roles_of os)) (sym is) ∙ delimiter_here os ps o is none r

  no_data : body.is_data (obu_of o) ≡ false
  no_data = data_is (context_after (entries_of os)) o s ∙ ap carries is

  described : descriptors (os ++ o ∷ []) ≡ descriptors os
  described = descriptors-same os o (descriptor_is (context_after (entries_of os)) o s ∙ ap describes is)

  begins : unit_count (roles_of (os ++ o ∷ [])) ≡ unit_count (roles_of os) + 1
  begins = (delimiter_units os ps o is s none r).0

  carried : units (os ++ o ∷ []) ≡ units os ++ [] ∷ []
  carried = (delimiter_units os ps o is s none r).1

-- a frame or a block
pub record Carries (os : List Spelled) (o : Spelled) : Type 0 where
  pub some : is_data (role_of o) ≡ true
  pub counted : counts (role_of o) ≡ true
  pub is_data : body.is_data (obu_of o) ≡ true
  pub no_descriptor : is_descriptor (obu_of o) ≡ false
  pub spelled : IsSpelled os o
  pub none : HasNoFault (roles_of os) (role_of o)

-- of the last unit
pub same_units : (os : List Spelled) (o : Spelled) → Carries os o → unit_after (roles_of os) (role_of o) + 1 ≡ unit_count (roles_of os)
    → (unit_count (roles_of (os ++ o ∷ [])) ≡ unit_count (roles_of os)) × GrowsLast os o
same_units os o c here = (still, units-grow os o c.is_data here still) where
  still : unit_count (roles_of (os ++ o ∷ [])) ≡ unit_count (roles_of os)
  still = units_more os o ∙ ap (λ b. cond b (unit_after (roles_of os) (role_of o) + 1) (unit_count (roles_of os))) c.some ∙ here

rebuilds_same : (os ps : List Spelled) (o : Spelled) → Carries os o → unit_after (roles_of os) (role_of o) + 1 ≡ unit_count (roles_of os) → Rebuilds os ps → Rebuilds (os ++ o ∷ []) (ps ++ o ∷ [])
rebuilds_same os ps o c here r = record {
  law = law_more os o r.law c.none;
  marked = subst IsMarked (sym (roles_push os o)) (marked-carried (roles_of os) (role_of o) c.some c.counted);
  roles = roles_more os o (roles_of (ps ++ o ∷ [])) (with_more (roles_of os ++ role_of o ∷ []) ps o (rebuilt_same (roles_of os) (roles_of ps) (role_of o) c.some c.counted here r.roles));
  admitted = admit os ps o r.admitted r.roles.alike c.spelled (plain_of o c.counted) (same_passes (roles_of os) (roles_of ps) (role_of o) c.some c.counted here r.roles c.none);
  descriptors_same = descriptors-same ps o c.no_descriptor ∙ r.descriptors_same ∙ sym described;
  placed_same = placed-some ps o c.is_data ∙ ap₂ (λ (xs : List (ℕ × Spelled)) (u : ℕ). xs ++ (u, o) ∷ []) r.placed_same (unit_same (roles_of os) (roles_of ps) (role_of o) r.roles c.counted here) ∙ sym (placed-some os o c.is_data);
  bytes = bytes-push ps o ∙ ap (λ (b : List ℕ). b ++ o.bytes) (r.bytes ∙ ap (rebuilt (descriptors os)) grows.was)
      ∙ sym (rebuilt-grow (descriptors os) grows.before grows.last o.bytes) ∙ sym (ap₂ rebuilt described grows.is);
  later = λ v above. unit-apart os o v c.is_data (λ e. omega (arith, still, above, here, e)) ∙ r.later v (omega (arith, still, above));
  small = omega (arith, r.small, ap length described, ap size grows.was, ap size grows.is, size-push grows.before grows.last, size-push grows.before (grows.last ++ o.bytes), length-append grows.last o.bytes, longer os o);
  few = omega (arith, r.few, still, longer os o);
} where
  described : descriptors (os ++ o ∷ []) ≡ descriptors os
  described = descriptors-same os o c.no_descriptor

  still : unit_count (roles_of (os ++ o ∷ [])) ≡ unit_count (roles_of os)
  still = (same_units os o c here).0

  grows : GrowsLast os o
  grows = (same_units os o c here).1

-- of the next unit
pub new_units : (os ps : List Spelled) (o : Spelled) → Carries os o → unit_after (roles_of os) (role_of o) ≡ unit_count (roles_of os) → Rebuilds os ps
    → (unit_count (roles_of (os ++ o ∷ [])) ≡ unit_count (roles_of os) + 1) × (units (os ++ o ∷ []) ≡ units os ++ o.bytes ∷ [])
new_units os ps o c here r = (begins, units-new os o c.is_data here begins (r.later (unit_count (roles_of os)) (omega arith))) where
  begins : unit_count (roles_of (os ++ o ∷ [])) ≡ unit_count (roles_of os) + 1
  begins = units_more os o ∙ ap (λ b. cond b (unit_after (roles_of os) (role_of o) + 1) (unit_count (roles_of os))) c.some ∙ ap (λ n. n + 1) here

rebuilds_new : (os ps : List Spelled) (o : Spelled) → Carries os o → unit_after (roles_of os) (role_of o) ≡ unit_count (roles_of os) → Rebuilds os ps → Rebuilds (os ++ o ∷ []) ((ps ++ mark ∷ []) ++ o ∷ [])
rebuilds_new os ps o c here r = record {
  law = law_more os o r.law c.none;
  marked = subst IsMarked (sym (roles_push os o)) (marked-carried (roles_of os) (role_of o) c.some c.counted);
  roles = roles_more os o (roles_of ((ps ++ mark ∷ []) ++ o ∷ [])) (with_more (roles_of os ++ role_of o ∷ []) (ps ++ mark ∷ []) o
      (subst (λ (m : List Role). IsRebuilt (roles_of os ++ role_of o ∷ []) (m ++ role_of o ∷ [])) (sym (with_mark ps)) (rebuilt_new (roles_of os) (roles_of ps) (role_of o) c.some c.counted here r.roles)));
  admitted = admit os (ps ++ mark ∷ []) o begun marked_alike c.spelled (plain_of o c.counted)
      (subst (λ (m : List Role). HasNoFault m (role_of o)) (sym (with_mark ps)) (new_passes (roles_of os) (roles_of ps) (role_of o) c.some c.counted here r.roles c.none));
  descriptors_same = descriptors-same (ps ++ mark ∷ []) o c.no_descriptor ∙ descriptors-same ps mark mark_descriptor ∙ r.descriptors_same ∙ sym described;
  placed_same = placed-some (ps ++ mark ∷ []) o c.is_data
      ∙ ap₂ (λ (xs : List (ℕ × Spelled)) (u : ℕ). xs ++ (u, o) ∷ []) (placed-none ps mark mark_data ∙ r.placed_same)
      (ap (λ (m : List Role). unit_after m (role_of o)) (with_mark ps) ∙ unit_new (roles_of os) (roles_of ps) (role_of o) r.roles c.counted here)
      ∙ sym (placed-some os o c.is_data);
  bytes = bytes-push (ps ++ mark ∷ []) o ∙ ap (λ (b : List ℕ). b ++ o.bytes) (bytes-push ps mark ∙ ap₂ (λ (b d : List ℕ). b ++ d) r.bytes mark_bytes)
      ∙ sym (rebuilt-unit (descriptors os) (units os) o.bytes) ∙ sym (ap₂ rebuilt described carried);
  later = λ v above. unit-apart os o v c.is_data (λ e. omega (arith, begins, above, here, e)) ∙ r.later v (omega (arith, begins, above));
  small = omega (arith, r.small, ap length described, ap size carried, size-push (units os) o.bytes, longer os o);
  few = omega (arith, r.few, begins, longer os o, two_bytes os o c.spelled);
} where
  described : descriptors (os ++ o ∷ []) ≡ descriptors os
  described = descriptors-same os o c.no_descriptor

  begun : AdmittedAfter [] (ps ++ mark ∷ [])
  begun = admit_mark ps r.admitted (delimiter_passes (roles_of os) (roles_of ps) (role_of o) c.some c.none.early (complete_last (roles_of os) (role_of o) (lawful (roles_of os) r.law) c.counted here) r.roles)

  marked_alike : IsAlike (roles_of os) (roles_of (ps ++ mark ∷ []))
  marked_alike = subst (IsAlike (roles_of os)) (sym (with_mark ps)) (alike_right (roles_of os) (roles_of ps) Delimiter refl r.roles.alike)

  begins : unit_count (roles_of (os ++ o ∷ [])) ≡ unit_count (roles_of os) + 1
  begins = (new_units os ps o c here r).0

  carried : units (os ++ o ∷ []) ≡ units os ++ o.bytes ∷ []
  carried = (new_units os ps o c here r).1

rebuilds_carried : (os ps : List Spelled) (o : Spelled) → Carries os o → Rebuilds os ps → (qs : List Spelled) × Rebuilds (os ++ o ∷ []) qs
rebuilds_carried os ps o c r = elim (next_unit (roles_of os) (role_of o) (lawful (roles_of os) r.law) c.counted) [
  | inl here ↦ (ps ++ o ∷ [], rebuilds_same os ps o c here r)
  | inr next ↦ ((ps ++ mark ∷ []) ++ o ∷ [], rebuilds_new os ps o c next r)
]

pub carries_of : (os : List Spelled) (o : Spelled) → is_data (role_of o) ≡ true → counts (role_of o) ≡ true → carries (role_of o) ≡ true → describes (role_of o) ≡ false → IsSpelled os o → HasNoFault (roles_of os) (role_of o) → Carries os o
carries_of os o some counted carried described s none = record {
  some = some;
  counted = counted;
  is_data = data_is (context_after (entries_of os)) o s ∙ carried;
  no_descriptor = descriptor_is (context_after (entries_of os)) o s ∙ described;
  spelled = s;
  none = none;
}

-- any OBU, by its role
rebuilds_one : (os ps : List Spelled) (o : Spelled) (r : Role) → role_of o ≡ r → IsSpelled os o → HasNoFault (roles_of os) (role_of o) → Rebuilds os ps → (qs : List Spelled) × Rebuilds (os ++ o ∷ []) qs
rebuilds_one os ps o Ignored is s none b = (ps, rebuilds_ignored os ps o is s none b)
rebuilds_one os ps o Delimiter is s none b = (ps ++ mark ∷ [], rebuilds_delimiter os ps o is s none b)
rebuilds_one os ps o (ParameterBlock x) is s none b = rebuilds_carried os ps o (carries_of os o (ap is_data is) (ap counts is) (ap carries is) (ap describes is) s none) b
rebuilds_one os ps o (AudioFrame x) is s none b = rebuilds_carried os ps o (carries_of os o (ap is_data is) (ap counts is) (ap carries is) (ap describes is) s none) b
rebuilds_one os ps o (SequenceHeader x) is s none b = (ps ++ o ∷ [], rebuilds_descriptor os ps o (ap is_data is) (ap counts is) (ap describes is) (ap carries is) s none b)
rebuilds_one os ps o (CodecConfig x) is s none b = (ps ++ o ∷ [], rebuilds_descriptor os ps o (ap is_data is) (ap counts is) (ap describes is) (ap carries is) s none b)
rebuilds_one os ps o (AudioElement x) is s none b = (ps ++ o ∷ [], rebuilds_descriptor os ps o (ap is_data is) (ap counts is) (ap describes is) (ap carries is) s none b)
rebuilds_one os ps o (MixPresentation x) is s none b = (ps ++ o ∷ [], rebuilds_descriptor os ps o (ap is_data is) (ap counts is) (ap describes is) (ap carries is) s none b)

-- all of them
rebuilds_after : (past ps os : List Spelled) → Rebuilds past ps → AdmittedAfter past os → (qs : List Spelled) × Rebuilds (past ++ os) qs
rebuilds_after past ps [] b h = (ps, subst (λ (p : List Spelled). Rebuilds p ps) (sym (append-nil past)) b)
rebuilds_after past ps (o ∷ os) b h =
    let one = rebuilds_one past ps o (role_of o) refl h.0 (no_fault past (context_after (entries_of past)) o h.0 h.1) b in
    let all = rebuilds_after (past ++ o ∷ []) one.0 os one.1 h.2 in
    (all.0, subst (λ (p : List Spelled). Rebuilds p all.0) (append_assoc past (o ∷ []) os) all.1)

pub rebuilds : (os : List Spelled) → AdmittedAfter [] os → (qs : List Spelled) × Rebuilds os qs
rebuilds os h = rebuilds_after [] [] os rebuilds_none h
