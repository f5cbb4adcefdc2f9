-- What stands for a list stands for one more OBU that has no fault.
use Rattle.std.proofs.Common.{◌≡◌, ℕ, ◌+◌, ◌*◌, ◌^◌, ◌≤◌, ◌<◌, max, Bool, true, false, ◌||◌, cond, List, [], ◌∷◌, ◌++◌, length, refl, sym, ap, ap₂, ◌∙◌, inl, inr, subst, length-append, le_of_eq, true≢false, arith}
use Rattle.std.specs.Prelude.{Some, None}
use Rattle.std.specs.List.{list_any}
use Rattle.std.proofs.lemmas.Bool.{cases_Bool, or_right}
use Rattle.std.proofs.Math.Nat.{mul-le-mul_left}
use Rattle.spec_blocks.specs.Shape.{shape_of}
use Rattle.spec_rules.specs.declared.codec_role.CodecRole.{CodecRole}
use Rattle.spec_rules.specs.Role.{Role, Ignored, SequenceHeader, CodecConfig, AudioElement, MixPresentation, Delimiter, ParameterBlock, AudioFrame, ElementRole, MixRole, BlockRole, FrameRole}
use Rattle.spec_rules.specs.Descriptors.{profiles, elements, substreams, frame_length, definitions}
use Rattle.spec_rules.specs.Units.{contains, are_apart, is_none_of, is_data, is_delimited, delimiters, open_unit, unit_after, streams_in, trims_in}
use Rattle.spec_rules.specs.Rules.{is_late, is_out_of_order, repeated, fault_after}
use Rattle.spec_rules.specs.Admitted.{HasNoFault}
use Rattle.spec_rules.proofs.Basics.{none_of, any-push, any-push_none}
use Rattle.spec_values.specs.declared.fault.Fault.TheVariants.{BlockTime, Repeated}
use Rattle.spec_rules.proofs.NoFault.{row_none, when_none, header_before, codec_before, element_before, mix_before, codec_none, element_none, delimiter_none}
use Rattle.spec_rules.proofs.Ranks.{no_data-order, no_mix, order_parts}
use Rattle.spec_rules.proofs.Placing.{is_delimited-kept, unit_after-other}
use Rattle.spec_rules.proofs.OpenUnits.{open_unit-none, open_unit-quiet, open_unit-delimiter, open_unit-ended, delimiters-none}
use Rattle.spec_rules.proofs.DescriptorLists.{substreams-more, definitions-push}
use Rattle.iamf_rules.specs.declared.open_unit.OpenUnit.{OpenUnit}
use Rattle.iamf_rules.specs.declared.blocks.Blocks.{Blocks}
use Rattle.iamf_rules.specs.declared.rules.Rules.{Rules}
use Rattle.iamf_rules.specs.DescriptorSteps.{with_header, with_codec}
use Rattle.iamf_rules.specs.UnitSteps.{IsSmall, with_frame, with_delimiter}
use Rattle.iamf_rules.specs.BlockSteps.{slot_at, unit_start}
use Rattle.iamf_rules.specs.RulesSteps.{time_of, AddsFrame, AddsDelimiter, AddsBlock}
use Rattle.iamf_rules.specs.DescriptorAdding.{AddsElement, AddsMix}
use Rattle.iamf_rules.specs.Standing.{mix_ids, timed_in, KeepsUnit, KeepsBlocks, KeepsBlocksAt, Stands}
use Rattle.spec_rules.proofs.Balance.{IsBalanced, is_full, later, open_unit-frame, some_streams}
use Rattle.iamf_rules.proofs.Faulting.{kept_length, kept_rate, differs_is}
use Rattle.iamf_rules.proofs.KeptDescriptors.{descriptors-other, descriptors-ignored, descriptors-header, descriptors-codec, descriptors-element, descriptors-mix, fits_are}
use Rattle.iamf_rules.proofs.KeptSamples.{kept_up_to-le}
use Rattle.iamf_rules.proofs.KeptUnits.{open_unit-le, last-push, unit-frame, unit-block, unit-none, unit-ignored, unit-delimiter}
use Rattle.iamf_rules.proofs.KeptSubstreams.{substreams-other, substreams-frame, substreams-element}
use Rattle.iamf_rules.proofs.KeptBlocks.{blocks-quiet, blocks-close, blocks-block, blocks-none, blocks-define, start-small}
use Rattle.spec_rules.proofs.Lawful.{Lawful, FrameIsNew, frame_is_new, no_data-header, no_data-push, lawful, apart-element, admitted-push}

-- ---- no count comes near the greatest number

bounded : (n m : ℕ) → n ≤ 2 ^ 40 → m < 2 ^ 16 → n * m ≤ 2 ^ 56
bounded n m few short =
    let less : m ≤ 65536 = omega arith in
    omega (arith, mul-le-mul_left n less)

pub number-le : (a : Rules) (l : List Role) → Stands a l → a.unit.number ≤ 2 ^ 40
number-le a l st = omega (arith, st.unit.number, open_unit-le l, st.few)

pub small : (a : Rules) (l : List Role) → Stands a l → IsSmall a.unit
small a l st = record {
  number = omega (arith, number-le a l st);
  samples = omega (arith, st.unit.samples, kept_up_to-le l (open_unit l), bounded (open_unit l) (frame_length l) (omega (arith, open_unit-le l, st.few)) st.descriptors.short);
}

frames-small : (a : Rules) (l : List Role) → Stands a l → a.unit.frames < 2 ^ 62
frames-small a l st = omega (arith, st.unit.few, st.few)

one_more : (l : List Role) (o : Role) → length l < 2 ^ 40 → length (l ++ o ∷ []) ≤ 2 ^ 40
one_more l o few = omega (arith, length-append l (o ∷ []))

data_then : (l : List Role) (o : Role) → is_data o ≡ true → list_any is_data (l ++ o ∷ []) ≡ false → list_any is_data l ≡ false
data_then l o data_obu none = absurd (true≢false (sym (any-push is_data l o ∙ ap (λ b. list_any is_data l || b) data_obu ∙ or_right (list_any is_data l) true refl) ∙ none))

-- ---- what is no descriptor

pub stands-ignored : (a : Rules) (l : List Role) → Stands a l → length l < 2 ^ 40 → HasNoFault l Ignored → Stands a (l ++ Ignored ∷ [])
stands-ignored a l st few none = record {
  admitted = admitted-push l Ignored st.admitted none;
  few = one_more l Ignored few;
  descriptors = descriptors-ignored a.descriptors l st.descriptors;
  substreams = substreams-other a.substreams.slots l Ignored st.substreams refl refl refl;
  unit = unit-ignored a.unit l st.unit;
  blocks = rw (open_unit-quiet l Ignored refl refl refl) (blocks-quiet a.blocks l Ignored (open_unit l) st.blocks refl refl refl (λ q. refl) (λ e. sym (any-push_none is_data l Ignored refl) ∙ e));
}

blocks-frame : (b : Blocks) (l : List Role) (f : FrameRole) → KeepsBlocks b l → IsBalanced l → contains (substreams l) f.substream ≡ true → contains (streams_in (open_unit l) l) f.substream ≡ false
    → KeepsBlocks b (l ++ AudioFrame f ∷ [])
blocks-frame b l f k balanced known new = elim (cases_Bool (is_full l f.substream (streams_in (open_unit l) l))) [
  | inl full ↦ rw (moves ∙ ap (λ c. cond c (open_unit l + 1) (open_unit l)) full) (blocks-close b (l ++ o ∷ []) (open_unit l) held (last-push l o (open_unit l) balanced (omega arith) (λ _. le_of_eq (unit_after-other l o refl))))
  | inr still ↦ rw (moves ∙ ap (λ c. cond c (open_unit l + 1) (open_unit l)) still) held
] where
  o : Role
  o = AudioFrame f

  held : KeepsBlocksAt b (l ++ AudioFrame f ∷ []) (open_unit l)
  held = blocks-quiet b l (AudioFrame f) (open_unit l) k refl refl refl (λ q. refl) (data_then l (AudioFrame f) refl)

  moves : open_unit (l ++ AudioFrame f ∷ []) ≡ cond (is_full l f.substream (streams_in (open_unit l) l)) (open_unit l + 1) (open_unit l)
  moves = open_unit-frame l f balanced (some_streams l f.substream known) new

pub stands-frame : (a new : Rules) (l : List Role) (f : FrameRole) → Stands a l → length l < 2 ^ 40 → HasNoFault l (AudioFrame f) → AddsFrame a new f.substream f.trim → Stands new (l ++ AudioFrame f ∷ [])
stands-frame a new l f st few none adds = subst (λ (x : Rules). Stands x (l ++ AudioFrame f ∷ [])) (sym adds.rest) (record {
  admitted = admitted-push l (AudioFrame f) st.admitted none;
  few = one_more l (AudioFrame f) few;
  descriptors = descriptors-other a.descriptors l (AudioFrame f) st.descriptors (record { profile = refl; codec = refl; element = refl; mix = refl; streams = refl });
  substreams = substreams-frame a.substreams.slots new.substreams.slots l f st.substreams law.balanced parts.known parts.new (rw st.unit.number at (adds.slots (small a l st))) adds.count;
  unit = subst (λ (u : OpenUnit). KeepsUnit u (l ++ AudioFrame f ∷ [])) (sym unit_is)
      (unit-frame a.unit l f st.unit law.balanced law.orderly parts.known parts.new (differs_is a.unit.trim (trims_in (open_unit l) l) f.trim st.unit.trim ∙ parts.alike));
  blocks = blocks-frame a.blocks l f st.blocks law.balanced parts.known parts.new;
}) where
  law : Lawful l
  law = lawful l st.admitted

  parts : FrameIsNew l f
  parts = frame_is_new l f none.late

  unit_is : new.unit ≡ with_frame a.unit (length (substreams l)) (frame_length l) f.trim
  unit_is = adds.unit_is (frames-small a l st) (small a l st) ∙ ap₂ (λ (n m : ℕ). with_frame a.unit n m f.trim) st.substreams.count (kept_length a.descriptors l st.descriptors)

blocks-delimiter : (b : Blocks) (l : List Role) → KeepsBlocks b l → IsBalanced l → is_delimited (l ++ Delimiter ∷ []) ≡ true → KeepsBlocks b (l ++ Delimiter ∷ [])
blocks-delimiter b l k balanced with = elim (cases_Bool (list_any is_data l)) [
  | inl has ↦
      let next : open_unit l + 1 ≡ delimiters l = open_unit-ended l (sym (is_delimited-kept l (Delimiter ∷ []) has) ∙ with) in
      rw (open_unit-delimiter l with ∙ sym next) (started (open_unit l + 1) (blocks-close b l (open_unit l) k (later l balanced)))
  | inr nothing ↦
      let same : delimiters l ≡ open_unit l = delimiters-none l nothing ∙ sym (open_unit-none l nothing) in
      rw (open_unit-delimiter l with ∙ same) (started (open_unit l) k)
] where
  started : (u : ℕ) → KeepsBlocksAt b l u → KeepsBlocksAt b (l ++ Delimiter ∷ []) u
  started u at = blocks-quiet b l Delimiter u at refl refl refl (λ q. refl) (data_then l Delimiter refl)

pub stands-delimiter : (a new : Rules) (l : List Role) → Stands a l → length l < 2 ^ 40 → HasNoFault l Delimiter → AddsDelimiter a new → Stands new (l ++ Delimiter ∷ [])
stands-delimiter a new l st few none adds = subst (λ (x : Rules). Stands x (l ++ Delimiter ∷ [])) (sym adds.rest) (record {
  admitted = admitted-push l Delimiter st.admitted none;
  few = one_more l Delimiter few;
  descriptors = descriptors-other a.descriptors l Delimiter st.descriptors (record { profile = refl; codec = refl; element = refl; mix = refl; streams = refl });
  substreams = substreams-other a.substreams.slots l Delimiter st.substreams refl refl refl;
  unit = subst (λ (u : OpenUnit). KeepsUnit u (l ++ Delimiter ∷ [])) (sym unit_is) (unit-delimiter a.unit l st.unit law.balanced with);
  blocks = blocks-delimiter a.blocks l st.blocks law.balanced with;
}) where
  law : Lawful l
  law = lawful l st.admitted

  with : is_delimited (l ++ Delimiter ∷ []) ≡ true
  with = (delimiter_none l none.late).0

  unit_is : new.unit ≡ with_delimiter a.unit (frame_length l)
  unit_is = adds.unit_is (small a l st) ∙ ap (λ (n : ℕ). with_delimiter a.unit n) (kept_length a.descriptors l st.descriptors)

-- ---- a block

late_none : (l : List Role) (x : BlockRole) → fault_after l (ParameterBlock x) ≡ None → is_late l (open_unit l) x.id (shape_of (definitions l) x.id) ≡ false
unfolding fault_after
late_none l x h = ap (λ u. is_late l u x.id (shape_of (definitions l) x.id)) (sym (unit_after-other l (ParameterBlock x) refl)) ∙ (when_none (is_late l (unit_after l (ParameterBlock x)) x.id (shape_of (definitions l) x.id)) BlockTime [] h).0

start_fits : (a : Rules) (l : List Role) (x : BlockRole) → Stands a l → fault_after l (ParameterBlock x) ≡ None → max (unit_start (time_of a)) (slot_at a.blocks.slots x.id).end < 2 ^ 64
start_fits a l x st none = rw (st.unit.number, kept_length a.descriptors l st.descriptors) (elim (cases_Bool (timed_in l x.id)) [
  | inl timed ↦ omega (arith, start-small l x.id (slot_at a.blocks.slots x.id).end (shape_of (definitions l) x.id) (late_none l x none) timed (st.blocks.ends x.id timed), ends_below)
  | inr untimed ↦ omega (arith, st.blocks.idle x.id untimed, bounded (open_unit l) (frame_length l) below st.descriptors.short)
]) where
  below : open_unit l ≤ 2 ^ 40
  below = omega (arith, open_unit-le l, st.few)

  ends_below : (open_unit l + 1) * frame_length l ≤ 2 ^ 57
  ends_below = omega (arith, bounded (open_unit l) (frame_length l) below st.descriptors.short, st.descriptors.short)

pub stands-block : (a new : Rules) (l : List Role) (x : BlockRole) → Stands a l → length l < 2 ^ 40 → HasNoFault l (ParameterBlock x) → AddsBlock a new x.id x.duration → Stands new (l ++ ParameterBlock x ∷ [])
stands-block a new l x st few none adds = subst (λ (y : Rules). Stands y (l ++ ParameterBlock x ∷ [])) (sym adds.rest) (record {
  admitted = admitted-push l (ParameterBlock x) st.admitted none;
  few = one_more l (ParameterBlock x) few;
  descriptors = descriptors-other a.descriptors l (ParameterBlock x) st.descriptors (record { profile = refl; codec = refl; element = refl; mix = refl; streams = refl });
  substreams = substreams-other a.substreams.slots l (ParameterBlock x) st.substreams refl refl refl;
  unit = unit-block a.unit l x st.unit;
  blocks = blocks-block a.blocks new.blocks l x (time_of a) st.blocks st.unit.number (kept_length a.descriptors l st.descriptors) (kept_rate a.descriptors l st.descriptors) adds.definitions_are
      (adds.slots (omega (arith, number-le a l st)) (start_fits a l x st none.late));
})

-- ---- descriptors, of which none stands after a data OBU

pub stands-header : (a : Rules) (l : List Role) (p : ℕ) → Stands a l → length l < 2 ^ 40 → HasNoFault l (SequenceHeader p) → Stands (record a { descriptors = with_header a.descriptors p }) (l ++ SequenceHeader p ∷ [])
stands-header a l p st few none = record {
  admitted = admitted-push l (SequenceHeader p) st.admitted none;
  few = one_more l (SequenceHeader p) few;
  descriptors = descriptors-header a.descriptors l p st.descriptors (none_of (profiles l) first) (law.orderly.headed first);
  substreams = substreams-other a.substreams.slots l (SequenceHeader p) st.substreams refl refl refl;
  unit = unit-none a.unit l (l ++ SequenceHeader p ∷ []) quiet (no_data-push l (SequenceHeader p) refl quiet) st.unit;
  blocks = blocks-none a.blocks l (l ++ SequenceHeader p ∷ []) quiet (no_data-push l (SequenceHeader p) refl quiet) (definitions-push l (SequenceHeader p) refl) st.blocks;
} where
  law : Lawful l
  law = lawful l st.admitted

  first : is_none_of (profiles l) ≡ true
  first = header_before l none.early

  quiet : list_any is_data l ≡ false
  quiet = no_data-header l law.balanced first

pub stands-codec : (a : Rules) (l : List Role) (c : CodecRole) → Stands a l → length l < 2 ^ 40 → HasNoFault l (CodecConfig c) → c.frame_length < 2 ^ 16
    → Stands (record a { descriptors = with_codec a.descriptors c }) (l ++ CodecConfig c ∷ [])
stands-codec a l c st few none short = record {
  admitted = admitted-push l (CodecConfig c) st.admitted none;
  few = one_more l (CodecConfig c) few;
  descriptors = descriptors-codec a.descriptors l c st.descriptors (codec_none l c none.late) short;
  substreams = substreams-other a.substreams.slots l (CodecConfig c) st.substreams refl refl refl;
  unit = unit-none a.unit l (l ++ CodecConfig c ∷ []) quiet (no_data-push l (CodecConfig c) refl quiet) st.unit;
  blocks = blocks-none a.blocks l (l ++ CodecConfig c ∷ []) quiet (no_data-push l (CodecConfig c) refl quiet) (definitions-push l (CodecConfig c) refl) st.blocks;
} where
  quiet : list_any is_data l ≡ false
  quiet = no_data-order l 2 (omega arith) (codec_before l none.early)

pub stands-element : (a new : Rules) (l : List Role) (e : ElementRole) → Stands a l → length l < 2 ^ 40 → HasNoFault l (AudioElement e) → AddsElement a new e.id e.substreams e.channels e.definitions
    → Stands new (l ++ AudioElement e ∷ [])
stands-element a new l e st few none adds = subst (λ (x : Rules). Stands x (l ++ AudioElement e ∷ [])) (sym adds.rest) (record {
  admitted = admitted-push l (AudioElement e) st.admitted none;
  few = one_more l (AudioElement e) few;
  descriptors = descriptors-element a.descriptors new.descriptors.elements l e st.descriptors (no_mix 3 (omega arith) l (order_parts l 3 order).1) (element_none l e none.late).0 adds.elements adds.count;
  substreams = substreams-element a.substreams.slots new.substreams.slots l e st.substreams quiet (ap are_apart (sym (substreams-more l (AudioElement e))) ∙ apart-element l e (lawful l st.admitted).orderly none.late) adds.slots;
  unit = unit-none a.unit l (l ++ AudioElement e ∷ []) quiet after st.unit;
  blocks = blocks-define a.blocks new.blocks l (AudioElement e) st.blocks quiet after adds.defines;
}) where
  order : is_out_of_order l 3 ≡ false
  order = element_before l none.early

  quiet : list_any is_data l ≡ false
  quiet = no_data-order l 3 (omega arith) (element_before l none.early)

  after : list_any is_data (l ++ AudioElement e ∷ []) ≡ false
  after = no_data-push l (AudioElement e) refl (no_data-order l 3 (omega arith) (element_before l none.early))

unrepeated : (known : List ℕ) (id : ℕ) → repeated known (id ∷ []) ≡ None → contains known id ≡ false
unrepeated known id h = one (contains known id) h where
  one : (b : Bool) → cond b (Some (Repeated id)) None ≡ None → b ≡ false
  one true e = absurd cc
  one false e = refl

new_mix : (l : List Role) (m : MixRole) → fault_after l (MixPresentation m) ≡ None → contains (mix_ids l) m.id ≡ false
unfolding fault_after
new_mix l m h = unrepeated (mix_ids l) m.id (row_none (repeated (mix_ids l) (m.id ∷ [])) _ h).0

pub stands-mix : (a new : Rules) (l : List Role) (m : MixRole) → Stands a l → length l < 2 ^ 40 → HasNoFault l (MixPresentation m) → AddsMix a new m.id m.elements m.sub_mixes m.definitions
    → Stands new (l ++ MixPresentation m ∷ [])
stands-mix a new l m st few none adds = subst (λ (x : Rules). Stands x (l ++ MixPresentation m ∷ [])) (sym adds.rest) (record {
  admitted = admitted-push l (MixPresentation m) st.admitted none;
  few = one_more l (MixPresentation m) few;
  descriptors = descriptors-mix a.descriptors new.descriptors.mixes new.descriptors.has_fit l m st.descriptors (new_mix l m none.late) adds.mixes adds.count
      (adds.fit (elements l) st.descriptors.totals ∙ ap (λ b. a.descriptors.has_fit || b) (fits_are a.descriptors l m st.descriptors));
  substreams = substreams-other a.substreams.slots l (MixPresentation m) st.substreams refl refl refl;
  unit = unit-none a.unit l (l ++ MixPresentation m ∷ []) quiet after st.unit;
  blocks = blocks-define a.blocks new.blocks l (MixPresentation m) st.blocks quiet after adds.defines;
}) where
  quiet : list_any is_data l ≡ false
  quiet = no_data-order l 4 (omega arith) (mix_before l none.early)

  after : list_any is_data (l ++ MixPresentation m ∷ []) ≡ false
  after = no_data-push l (MixPresentation m) refl (no_data-order l 4 (omega arith) (mix_before l none.early))
