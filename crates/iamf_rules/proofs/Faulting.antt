-- The tests on what is kept answer what the tests on the list do.
use Rattle.std.proofs.Common.{◌≡◌, ℕ, ◌+◌, ◌-◌, ◌*◌, ◌≤◌, max, Bool, true, false, not, ◌&&◌, ◌||◌, cond, eqb, leb, ltb, List, [], ◌∷◌, ◌++◌, length, map, refl, sym, ap, ◌∙◌, inl, inr, ne_eqb, eq-eqb, arith}
use Rattle.std.specs.Prelude.{Option, Some, None, is_some, is_none, find}
use Rattle.std.specs.List.{list_any}
use Rattle.std.specs.Option.{option_map, option_map_or}
use Rattle.std.specs.BTreeMap.{btree_map_len}
use Rattle.std.specs.BTreeSet.{btree_set_len}
use Rattle.std.proofs.lemmas.Bool.{cases_eq, and_right}
use Rattle.std.proofs.lemmas.Bool.Decides.{nat_tests}
use Rattle.spec_obu.specs.declared.obu_type.ObuType.{ObuType}
use Rattle.spec_obu.specs.declared.obu_type.ObuType.TheVariants as obu_type
use Rattle.spec_obu.specs.declared.trim.Trim.{Trim}
use Rattle.spec_blocks.specs.Shape.{Shape, MixGain, Demixing, ReconGain, shape_of}
use Rattle.spec_values.specs.declared.fault.Fault.{Fault}
use Rattle.spec_values.specs.declared.fault.Fault.TheVariants.{Order, Repeated, Unknown, Incomplete, NoMixFits, SecondSequence, UnitFrame, UnitShort, BlockTime}
use Rattle.spec_values.specs.declared.fault.Fault.TheVariants as fault
use Rattle.spec_rules.specs.declared.codec_role.CodecRole.{CodecRole}
use Rattle.spec_rules.specs.Role.{Role, Ignored, SequenceHeader, CodecConfig, AudioElement, MixPresentation, Delimiter, ParameterBlock, AudioFrame, BlockRole, FrameRole, ElementRole, MixRole}
use Rattle.spec_rules.specs.Descriptors.{profiles, codecs, elements, substreams, mixes, frame_length, first_length, definitions, channels_of}
use Rattle.spec_rules.specs.Profile.{has_fit}
use Rattle.spec_rules.specs.Units.{contains, is_none_of, is_data, is_delimiter, is_delimited, frames_of, open_unit, unit_after, in_units, in_unit, streams_in, trims_in, is_complete, block_end}
use Rattle.spec_rules.specs.Rules.{when, first_of, unknown, is_out_of_order, lacks_descriptors, start_tests, same_trim, has_bad_trim, rate_of, is_late, codec_tests, has_short_unit, fault_before, fault_after, end_fault}
use Rattle.spec_rules.proofs.Placing.{is_delimited-first, is_delimited-kept, unit_after-other, unit_after-delimiter}
use Rattle.spec_rules.proofs.OpenUnits.{open_unit-with}
use Rattle.iamf_rules.specs.declared.descriptors.Descriptors.{Descriptors}
use Rattle.iamf_rules.specs.declared.open_unit.OpenUnit.{OpenUnit}
use Rattle.iamf_rules.specs.declared.rules.Rules.{Rules}
use Rattle.iamf_rules.specs.DescriptorSteps.{profile_list, codec_list, length_in, length_of, rate_in, lacking, out_of_order, order_fault_of, header_fault_of, codec_fault_of, unknown_codec}
use Rattle.iamf_rules.specs.UnitSteps.{differs, bad_trim, is_full, at_delimiter, delimiter_fault_of, end_fault_of, is_marked}
use Rattle.iamf_rules.specs.BlockSteps.{slot_at, is_late_of}
use Rattle.iamf_rules.specs.RulesSteps.{or_else, start_fault_of, early_of, time_of, at_slot, frame_fault_of, last_fault_of}
use Rattle.iamf_rules.specs.Standing.{element_tests, mix_tests, AreTrims, KeepsDescriptors, KeepsUnit, Stands}
use Rattle.spec_rules.proofs.Balance.{IsBalanced, later}
use Rattle.spec_rules.proofs.Orderly.{IsOrderly, complete_by_count}
use Rattle.spec_rules.proofs.Delimiters.{some_delimiter, no_delimiter, ended_is}

-- ---- tables

pub first_when : (b : Bool) (f : Fault) (rows : List (Option Fault)) → first_of (when b f ∷ rows) ≡ cond b (Some f) (first_of rows)
first_when true f rows = refl
first_when false f rows = refl

pub first_else : (x : Option Fault) (rows : List (Option Fault)) → first_of (x ∷ rows) ≡ or_else x (first_of rows)
first_else None rows = refl
first_else (Some f) rows = refl

or_else-none : (x : Option Fault) → or_else x None ≡ x
or_else-none None = refl
or_else-none (Some f) = refl

-- ---- what is kept of the descriptors

kept_length-list : (c : Option CodecRole) → length_in c ≡ first_length (codec_list c)
kept_length-list None = refl
kept_length-list (Some c) = refl

pub kept_length : (d : Descriptors) (l : List Role) → KeepsDescriptors d l → length_of d ≡ frame_length l
unfolding frame_length
kept_length d l k = kept_length-list d.codec ∙ ap first_length k.codec

kept_rate-list : (c : Option CodecRole) → rate_in c ≡ rate_of (codec_list c)
kept_rate-list None = refl
kept_rate-list (Some c) = refl

pub kept_rate : (d : Descriptors) (l : List Role) → KeepsDescriptors d l → rate_in d.codec ≡ rate_of (codecs l)
kept_rate d l k = kept_rate-list d.codec ∙ ap rate_of k.codec

no_codec : (c : Option CodecRole) → is_none c ≡ is_none_of (codec_list c)
no_codec None = refl
no_codec (Some c) = refl

no_profile : (p : Option ℕ) → is_none p ≡ is_none_of (profile_list p)
no_profile None = refl
no_profile (Some p) = refl

some_profile : (p : Option ℕ) → is_some p ≡ not (is_none_of (profile_list p))
some_profile None = refl
some_profile (Some p) = refl

some_codec : (c : Option CodecRole) → is_some c ≡ not (is_none_of (codec_list c))
some_codec None = refl
some_codec (Some c) = refl

kept_profile : (d : Descriptors) (l : List Role) → KeepsDescriptors d l → is_none d.profile ≡ is_none_of (profiles l)
kept_profile d l k = no_profile d.profile ∙ ap (λ (ps : List ℕ). is_none_of ps) k.profile

kept_codec : (d : Descriptors) (l : List Role) → KeepsDescriptors d l → is_none d.codec ≡ is_none_of (codecs l)
kept_codec d l k = no_codec d.codec ∙ ap (λ (cs : List CodecRole). is_none_of cs) k.codec

length_zero : {X : Type 0} (xs : List X) → eqb (length xs) 0 ≡ is_none_of xs
length_zero [] = refl
length_zero (x ∷ xs) = ne_eqb (length (x ∷ xs)) 0 (λ e. omega arith)

kept_elements : (d : Descriptors) (l : List Role) → KeepsDescriptors d l → eqb (btree_map_len d.elements) 0 ≡ is_none_of (elements l)
kept_elements d l k = ap (λ n. eqb n 0) k.element_count ∙ length_zero (elements l)

kept_mixes : (d : Descriptors) (l : List Role) → KeepsDescriptors d l → eqb (btree_set_len d.mixes) 0 ≡ is_none_of (mixes l)
kept_mixes d l k = ap (λ n. eqb n 0) k.mix_count ∙ length_zero (mixes l)

lacks_is : (d : Descriptors) (l : List Role) → KeepsDescriptors d l → lacks_descriptors l ≡ lacking d
unfolding lacks_descriptors
lacks_is d l k = rw (kept_profile d l k, kept_codec d l k, kept_elements d l k, kept_mixes d l k) refl

pub order_is : (d : Descriptors) (l : List Role) (r : ℕ) → KeepsDescriptors d l → out_of_order d r ≡ is_out_of_order l r
unfolding is_out_of_order
order_is d l r k = rw (kept_profile d l k, k.rank_is r) refl

pub order_fault_is : (d : Descriptors) (l : List Role) (r : ℕ) → KeepsDescriptors d l → order_fault_of d r ≡ first_of (when (is_out_of_order l r) Order ∷ [])
order_fault_is d l r k = ap (λ b. when b Order) (order_is d l r k) ∙ sym (first_when (is_out_of_order l r) Order [])

pub header_fault_is : (d : Descriptors) (l : List Role) → KeepsDescriptors d l → header_fault_of d ≡ fault_before l obu_type.SequenceHeader
unfolding fault_before
header_fault_is d l k = ap (λ b. when b SecondSequence) (some_profile d.profile ∙ ap (λ (ps : List ℕ). not (is_none_of ps)) k.profile) ∙ sym (first_when (not (is_none_of (profiles l))) SecondSequence [])

pub codec_fault_is : (d : Descriptors) (l : List Role) (c : CodecRole) → KeepsDescriptors d l → codec_fault_of d c.id ≡ fault_after l (CodecConfig c)
unfolding fault_after
codec_fault_is d l c k = ap (λ b. when b (Repeated c.id)) (some_codec d.codec ∙ ap (λ (cs : List CodecRole). not (is_none_of cs)) k.codec) ∙ sym (first_when (not (is_none_of (codecs l))) (Repeated c.id) [])

-- ---- what is kept of the open unit

some_found-step : {X : Type 0} (f : Role → X) (x : Role) (xs : List Role) (b : Bool) → is_some (option_map f (find is_data xs)) ≡ list_any is_data xs → is_some (option_map f (cond b (Some x) (find is_data xs))) ≡ (b || list_any is_data xs)
some_found-step f x xs true rest = refl
some_found-step f x xs false rest = rest

some_found : {X : Type 0} (f : Role → X) (l : List Role) → is_some (option_map f (find is_data l)) ≡ list_any is_data l
some_found f [] = refl
some_found f (x ∷ xs) = some_found-step f x xs (is_data x) (some_found f xs)

pub has_data_is : (a : OpenUnit) (l : List Role) → KeepsUnit a l → is_some a.delimited ≡ list_any is_data l
has_data_is a l k = ap is_some k.delimited ∙ some_found is_delimiter l

marked_found : (o : Option Role) → option_map_or (λ d. d) (option_map is_delimiter o) false ≡ option_map_or is_delimiter o false
marked_found None = refl
marked_found (Some o) = refl

pub marked_is : (a : OpenUnit) (l : List Role) → KeepsUnit a l → is_marked a ≡ is_delimited l
unfolding is_delimited
marked_is a l k = ap (λ (d : Option Bool). option_map_or (λ d. d) d false) k.delimited ∙ marked_found (find is_data l)

-- the faults of the first data OBU
pub start_is : (a : Rules) (l : List Role) (rows : List (Option Fault)) → KeepsUnit a.unit l → KeepsDescriptors a.descriptors l → first_of (start_tests l ++ rows) ≡ or_else (start_fault_of a) (first_of rows)
start_is a l rows ka kd = rw (first_when, first_when, has_data_is a.unit l ka, lacks_is a.descriptors l kd, kd.fit) (one (list_any is_data l) (lacking a.descriptors) (has_fit l)) where
  one : (has lacks fit : Bool) → cond (not has && lacks) (Some Incomplete) (cond (not has && not fit) (Some NoMixFits) (first_of rows)) ≡ or_else (cond has None (cond lacks (Some Incomplete) (cond (not fit) (Some NoMixFits) None))) (first_of rows)
  one true lacks fit = refl
  one false true fit = refl
  one false false true = refl
  one false false false = refl

pub first_is_start : (a : Rules) (l : List Role) → KeepsUnit a.unit l → KeepsDescriptors a.descriptors l → start_fault_of a ≡ first_of (start_tests l)
first_is_start a l ka kd = sym (or_else-none (start_fault_of a)) ∙ sym (start_is a l [] ka kd)

-- the tests before the payload, by the type
pub early_is : (a : Rules) (l : List Role) (t : ObuType) → KeepsUnit a.unit l → KeepsDescriptors a.descriptors l → early_of a t ≡ fault_before l t
unfolding fault_before
early_is a l obu_type.SequenceHeader ka kd = header_fault_is a.descriptors l kd
early_is a l obu_type.CodecConfig ka kd = order_fault_is a.descriptors l 2 kd
early_is a l obu_type.AudioElement ka kd = order_fault_is a.descriptors l 3 kd
early_is a l obu_type.MixPresentation ka kd = order_fault_is a.descriptors l 4 kd
early_is a l obu_type.ParameterBlock ka kd = first_is_start a l ka kd
early_is a l obu_type.TemporalDelimiter ka kd = first_is_start a l ka kd
early_is a l obu_type.AudioFrame ka kd = first_is_start a l ka kd
early_is a l obu_type.Reserved ka kd = refl

-- the kind of the first data OBU, as a fact by cases
abbrev pub FirstIs : Option Bool → List Role → Type 0
FirstIs None l = (list_any is_data l ≡ false) × (is_delimited l ≡ false)
FirstIs (Some d) l = (list_any is_data l ≡ true) × (is_delimited l ≡ d)

pub first_is : (a : OpenUnit) (l : List Role) → KeepsUnit a l → FirstIs a.delimited l
first_is a l k = one a.delimited refl where
  one : (d : Option Bool) → a.delimited ≡ d → FirstIs d l
  one None e = (sym (has_data_is a l k) ∙ ap is_some e, sym (marked_is a l k) ∙ ap (λ (d : Option Bool). option_map_or (λ x. x) d false) e)
  one (Some b) e = (sym (has_data_is a l k) ∙ ap is_some e, sym (marked_is a l k) ∙ ap (λ (d : Option Bool). option_map_or (λ x. x) d false) e)

pub full_is : (a : OpenUnit) (l : List Role) → IsOrderly l → KeepsUnit a l → is_full a (length (substreams l)) ≡ is_complete (open_unit l) l
full_is a l orderly k = ap (λ (n : ℕ). eqb n (length (substreams l))) k.frames ∙ sym (complete_by_count l orderly)

pub differs_is : (t : Option Trim) (ts : List Trim) (trim : Trim) → AreTrims t ts → differs trim t ≡ list_any (λ other. not (same_trim other trim)) ts
differs_is None ts trim same = rw same refl
differs_is (Some t) ts trim same = sym (same (λ other. not (same_trim other trim)))

bad_trim_is : (a : OpenUnit) (l : List Role) (trim : Trim) → KeepsUnit a l → bad_trim a (frame_length l) trim ≡ has_bad_trim l (open_unit l) trim
bad_trim_is a l trim k = rw (differs_is a.trim (trims_in (open_unit l) l) trim k.trim, k.kept, k.cut) refl

-- a frame
has_frame_is : (l : List Role) (s : ℕ) → IsBalanced l → contains (substreams l) s ≡ true → ltb (open_unit l) (frames_of l s) ≡ contains (streams_in (open_unit l) l) s
has_frame_is l s balanced known = rw (balanced.counts s known) (one (contains (streams_in (open_unit l) l) s)) where
  one : (b : Bool) → ltb (open_unit l) (open_unit l + cond b 1 0) ≡ b
  one true = grind (arith, nat_tests)
  one false = grind (arith, nat_tests)

pub frame_fault_is : (a : Rules) (l : List Role) (f : FrameRole) → IsBalanced l → Stands a l → frame_fault_of a f.substream f.trim f.bytes ≡ fault_after l (AudioFrame f)
unfolding fault_after
frame_fault_is a l f balanced st =
    rw (st.substreams.each f.substream, unit_after-other l (AudioFrame f) refl) (one (contains (substreams l) f.substream) refl)
  where
    coded : Option Fault
    coded = first_of (codec_tests (codecs l) (channels_of l f.substream) f.bytes)

    two : (has bad : Bool) → cond has (Some UnitFrame) (cond bad (Some fault.Trim) coded) ≡ first_of (when (false || has) UnitFrame ∷ when bad fault.Trim ∷ codec_tests (codecs l) (channels_of l f.substream) f.bytes)
    two true bad = refl
    two false true = refl
    two false false = refl

    one : (known : Bool) → contains (substreams l) f.substream ≡ known
        → at_slot a (cond known (Some (record { channels = channels_of l f.substream; frames = frames_of l f.substream })) None) f.trim f.bytes
        ≡ first_of (when (not known || contains (streams_in (open_unit l) l) f.substream) UnitFrame ∷ when (has_bad_trim l (open_unit l) f.trim) fault.Trim ∷ codec_tests (codecs l) (channels_of l f.substream) f.bytes)
    one false e = refl
    one true e = rw (st.unit.number, has_frame_is l f.substream balanced e, kept_length a.descriptors l st.descriptors, bad_trim_is a.unit l f.trim st.unit, st.descriptors.codec)
        (two (contains (streams_in (open_unit l) l) f.substream) (has_bad_trim l (open_unit l) f.trim))

and_true : (b : Bool) → (b && true) ≡ b
and_true true = refl
and_true false = refl

abbrev delimiter_rows : List Role → List (Option Fault)
delimiter_rows l = when (not (is_delimited (l ++ Delimiter ∷ []))) fault.Delimiter ∷ when (list_any is_delimiter l && not (is_complete (unit_after l Delimiter - 1) l)) UnitShort ∷ []

delimiter_rows_are : (l : List Role) (d : Option Bool) → FirstIs d l → at_delimiter d (is_complete (open_unit l) l) ≡ first_of (delimiter_rows l)
delimiter_rows_are l None none = rw (first_when, first_when, is_delimited-first l Delimiter none.0, no_delimiter l none.0) refl
delimiter_rows_are l (Some false) has = rw (first_when, is_delimited-kept l (Delimiter ∷ []) has.0, has.1) refl
delimiter_rows_are l (Some true) has = rw (first_when, first_when, is_delimited-kept l (Delimiter ∷ []) has.0, some_delimiter l has.1, has.1, ended_is l has.1 has.0) (one (is_complete (open_unit l) l)) where
  one : (b : Bool) → cond b None (Some UnitShort) ≡ cond (not b) (Some UnitShort) None
  one true = refl
  one false = refl

pub delimiter_fault_is : (a : Rules) (l : List Role) → IsOrderly l → Stands a l → delimiter_fault_of a.unit (btree_map_len a.substreams.slots) ≡ fault_after l Delimiter
unfolding fault_after
delimiter_fault_is a l orderly st =
    ap (λ n. delimiter_fault_of a.unit n) st.substreams.count ∙ ap (at_delimiter a.unit.delimited) (full_is a.unit l orderly st.unit) ∙ delimiter_rows_are l a.unit.delimited (first_is a.unit l st.unit)

-- ---- a block

late_is : (a : Rules) (l : List Role) (id : ℕ) (shape : Option Shape) → Stands a l → shape_of (definitions l) id ≡ shape
    → is_late_of shape (slot_at a.blocks.slots id) (time_of a) ≡ is_late l (open_unit l) id shape
late_is a l id None st is = refl
late_is a l id (Some (MixGain rate fixed)) st is =
    rw (kept_rate a.descriptors l st.descriptors, kept_length a.descriptors l st.descriptors, st.unit.number) (one (eqb rate (rate_of (codecs l))) (λ timed. st.blocks.ends id (rw is timed))) where
      one : (b : Bool) → (b ≡ true → (slot_at a.blocks.slots id).end ≡ block_end id l)
          → (b && leb ((open_unit l + 1) * frame_length l) (max (open_unit l * frame_length l) (slot_at a.blocks.slots id).end)) ≡ (b && leb ((open_unit l + 1) * frame_length l) (max (open_unit l * frame_length l) (block_end id l)))
      one true e = rw (e refl) refl
      one false e = refl
late_is a l id (Some (Demixing rate fixed)) st is = rw st.unit.number (sym (st.blocks.came id (rw is refl)))
late_is a l id (Some (ReconGain rate fixed layers flags)) st is = rw st.unit.number (sym (st.blocks.came id (rw is refl)))

pub block_fault_is : (a : Rules) (l : List Role) (b : BlockRole) → Stands a l
    → when (is_late_of (shape_of a.blocks.definitions b.id) (slot_at a.blocks.slots b.id) (time_of a)) BlockTime ≡ fault_after l (ParameterBlock b)
unfolding fault_after
block_fault_is a l b st =
    rw (first_when, unit_after-other l (ParameterBlock b) refl, st.blocks.definitions_are, late_is a l b.id (shape_of (definitions l) b.id) st refl) refl

-- ---- descriptors

pub codec_known : (d : Descriptors) (l : List Role) (id : ℕ) → KeepsDescriptors d l → unknown_codec d.codec id ≡ unknown (map (λ c. c.id) (codecs l)) (id ∷ [])
codec_known d l id k = one d.codec ∙ ap (λ (cs : List CodecRole). unknown (map (λ c. c.id) cs) (id ∷ [])) k.codec where
  two : (b : Bool) → cond b None (Some (Unknown id)) ≡ cond (b || false) None (Some (Unknown id))
  two true = refl
  two false = refl

  one : (c : Option CodecRole) → unknown_codec c id ≡ unknown (map (λ c. c.id) (codec_list c)) (id ∷ [])
  one None = refl
  one (Some c) = two (eqb c.id id)

pub element_is : (l : List Role) (e : ElementRole) → element_tests l e.id e.codec e.substreams e.definitions ≡ fault_after l (AudioElement e)
unfolding fault_after
element_is l e = rw (first_else, first_else, first_else, first_else, or_else-none) refl

pub mix_is : (l : List Role) (m : MixRole) → mix_tests l m.id m.elements m.definitions ≡ fault_after l (MixPresentation m)
unfolding fault_after
mix_is l m = rw (first_else, first_else, first_else, or_else-none) refl

-- ---- the end

short_is : (l : List Role) → IsBalanced l → has_short_unit l ≡ (not (is_none_of (in_unit (open_unit l) l)) && not (is_complete (open_unit l) l))
unfolding in_unit
short_is l balanced = one (is_complete (open_unit l) l) refl where
  below : (c : Bool) → is_complete (open_unit l) l ≡ c → (u : ℕ) → u ≤ open_unit l → not (is_complete u l) ≡ (eqb u (open_unit l) && not c)
  below c e u le = elim (cases_eq u (open_unit l)) [
    | inl last ↦ rw (last, e, eq-eqb (open_unit l) (open_unit l) refl) refl
    | inr earlier ↦ rw (balanced.closed u (omega arith), ne_eqb u (open_unit l) earlier) refl
  ]

  one : (c : Bool) → is_complete (open_unit l) l ≡ c → has_short_unit l ≡ (not (is_none_of (in_units (λ v. eqb v (open_unit l)) l)) && not c)
  one true e = rw (later l balanced (λ u. not (is_complete u l)) (λ u le. below true e u le ∙ and_right (eqb u (open_unit l)) false refl), and_right (not (is_none_of (in_units (λ v. eqb v (open_unit l)) l))) false refl) refl
  one false e = rw (balanced.within (λ u. not (is_complete u l)) (λ v. eqb v (open_unit l)) (λ u le. below false e u le ∙ and_true (eqb u (open_unit l))), and_true (not (is_none_of (in_units (λ v. eqb v (open_unit l)) l)))) refl

pub last_fault_is : (a : Rules) (l : List Role) → IsBalanced l → IsOrderly l → Stands a l → last_fault_of a ≡ end_fault l
unfolding end_fault
last_fault_is a l balanced orderly st =
    ap (or_else (start_fault_of a)) (rows (btree_map_len a.substreams.slots) st.substreams.count) ∙ sym (start_is a l (when (has_short_unit l) UnitShort ∷ []) st.unit st.descriptors) where
      rows : (n : ℕ) → n ≡ length (substreams l) → end_fault_of a.unit n ≡ first_of (when (has_short_unit l) UnitShort ∷ [])
      rows n e = rw (e, first_when, full_is a.unit l orderly st.unit, short_is l balanced, st.unit.begun) refl
