-- What is kept of the blocks of parameters goes on as OBUs come.
use Rattle.std.proofs.Common.{◌≡◌, ℕ, ◌+◌, ◌*◌, ◌≤◌, ◌<◌, max, Bool, true, false, ◌&&◌, ◌||◌, cond, eqb, ltb, leb, List, [], ◌∷◌, ◌++◌, map, refl, sym, ap, ap₂, ◌∙◌, subst, append-nil, eqb-true, ne_eqb, eq-eqb, true≢false, arith}
use Rattle.std.specs.Prelude.{Option, Some, None, is_some, fold, nat_eq}
use Rattle.std.specs.List.{flat_map, list_any}
use Rattle.std.specs.Option.{option_map}
use Rattle.std.specs.Ordering.{nat_cmp}
use Rattle.std.specs.BTreeMap.{BTreeMap, get}
use Rattle.std.proofs.lemmas.Bool.{or_right}
use Rattle.std.proofs.lemmas.Bool.Decides.{nat_tests}
use Rattle.std.proofs.lemmas.Grind.{flat_map-append, fold-append}
use Rattle.std.proofs.lemmas.List.Folds.{list_any-append}
use Rattle.spec_blocks.specs.Shape.{Shape, MixGain, Demixing, ReconGain, Definition, shape_of, with_definition}
use Rattle.spec_rules.specs.declared.codec_role.CodecRole.{CodecRole}
use Rattle.spec_rules.specs.Role.{Role, Ignored, SequenceHeader, CodecConfig, AudioElement, MixPresentation, Delimiter, ParameterBlock, AudioFrame, BlockRole}
use Rattle.spec_rules.specs.Descriptors.{codec_of, definitions_of, codecs, frame_length, definitions}
use Rattle.spec_rules.specs.Units.{contains, is_data, block_of, open_unit, unit_after, placed, in_units, in_unit, blocks_in, duration_by, duration_of, block_in, end_after, block_end}
use Rattle.spec_rules.specs.Rules.{rate_of, is_late}
use Rattle.spec_rules.proofs.Basics.{or_false, any-push, flip}
use Rattle.spec_rules.proofs.Placing.{placed_last, placed-push, no_placed, unit_after-other}
use Rattle.spec_rules.proofs.OpenUnits.{open_unit-quiet}
use Rattle.spec_rules.proofs.UnitLists.{blocks_in-push, blocks_in-here, blocks_in-none}
use Rattle.spec_rules.proofs.DescriptorLists.{codecs-push_none, frame_length-push, definitions-push, definitions_after}
use Rattle.iamf_rules.specs.declared.blocks.BlockSlot.{BlockSlot}
use Rattle.iamf_rules.specs.declared.blocks.UnitTime.{UnitTime}
use Rattle.iamf_rules.specs.declared.blocks.Blocks.{Blocks}
use Rattle.iamf_rules.specs.BlockSteps.{no_block, slot_or_none, slot_at, unit_start, block_end_of, with_block}
use Rattle.iamf_rules.specs.Defining.{ids_of, Defines}
use Rattle.iamf_rules.specs.Standing.{is_timed, timed_in, KeepsBlocksAt, KeepsBlocks}
use Rattle.iamf_rules.proofs.KeptUnits.{IsLast}

block_in-same : (l m : List Role) (q : ℕ) (ps : List (ℕ × Role)) → definitions l ≡ definitions m → flat_map (block_in l q) ps ≡ flat_map (block_in m q) ps
unfolding duration_of
block_in-same l m q [] same = refl
block_in-same l m q ((u, ParameterBlock b) ∷ ps) same =
    ap₂ (λ (xs ys : List (ℕ × ℕ)). xs ++ ys) (ap (λ (ds : List Definition). cond (eqb b.id q) ((u, duration_by (shape_of ds b.id) b.duration) ∷ []) []) same) (block_in-same l m q ps same)
block_in-same l m q ((u, Delimiter) ∷ ps) same = block_in-same l m q ps same
block_in-same l m q ((u, AudioFrame f) ∷ ps) same = block_in-same l m q ps same
block_in-same l m q ((u, Ignored) ∷ ps) same = block_in-same l m q ps same
block_in-same l m q ((u, SequenceHeader p) ∷ ps) same = block_in-same l m q ps same
block_in-same l m q ((u, CodecConfig c) ∷ ps) same = block_in-same l m q ps same
block_in-same l m q ((u, AudioElement e) ∷ ps) same = block_in-same l m q ps same
block_in-same l m q ((u, MixPresentation x) ∷ ps) same = block_in-same l m q ps same

block_end-push : (q : ℕ) (l : List Role) (o : Role) → codec_of o ≡ [] → definitions_of o ≡ [] → block_end q (l ++ o ∷ []) ≡ fold (end_after (frame_length l)) (block_end q l) (flat_map (block_in l q) (placed_last l o))
unfolding block_end
block_end-push q l o no_codec no_definition =
    ap (λ (bs : List (ℕ × ℕ)). fold (end_after (frame_length (l ++ o ∷ []))) 0 bs) (block_in-same (l ++ o ∷ []) l q (placed (l ++ o ∷ [])) (definitions-push l o no_definition))
    ∙ rw (frame_length-push l o no_codec, placed-push l o, flat_map-append) (fold-append (end_after (frame_length l)) 0 (flat_map (block_in l q) (placed l)) (flat_map (block_in l q) (placed_last l o)))

has-data : (l : List Role) (o : Role) → is_data o ≡ true → list_any is_data (l ++ o ∷ []) ≡ true
has-data l o data_obu = any-push is_data l o ∙ or_right (list_any is_data l) (is_data o) data_obu

timed-push : (l : List Role) (o : Role) (q : ℕ) → codec_of o ≡ [] → definitions_of o ≡ [] → timed_in (l ++ o ∷ []) q ≡ timed_in l q
timed-push l o q no_codec no_definition =
    ap (λ (cs : List CodecRole). is_timed (rate_of cs) (shape_of (definitions (l ++ o ∷ [])) q)) (codecs-push_none l o no_codec)
    ∙ ap (λ (ds : List Definition). is_timed (rate_of (codecs l)) (shape_of ds q)) (definitions-push l o no_definition)

block_end-none : (q : ℕ) (l : List Role) → list_any is_data l ≡ false → block_end q l ≡ 0
unfolding block_end placed
block_end-none q l none = rw (no_placed [] l none) refl

-- ---- nothing but the open unit changes

abbrev NoBlock : Role → Type 0
NoBlock o = (block_of o ≡ []) × ((l : List Role) (q : ℕ) → flat_map (block_in l q) (placed_last l o) ≡ [])

-- an OBU that is no descriptor and no block, of the unit or of none
pub blocks-quiet : (b : Blocks) (l : List Role) (o : Role) (u : ℕ) → KeepsBlocksAt b l u → codec_of o ≡ [] → definitions_of o ≡ [] → block_of o ≡ []
    → ((q : ℕ) → flat_map (block_in l q) (placed_last l o) ≡ []) → (list_any is_data (l ++ o ∷ []) ≡ false → list_any is_data l ≡ false) → KeepsBlocksAt b (l ++ o ∷ []) u
blocks-quiet b l o u k no_codec no_definition no_block no_end still = record {
  definitions_are = k.definitions_are ∙ sym (definitions-push l o no_definition);
  has = λ id. k.has id ∙ ap (λ (ds : List Definition). is_some (shape_of ds id)) (sym (definitions-push l o no_definition));
  came = λ id known. ap (λ (ids : List ℕ). contains ids id) same ∙ k.came id (ap (λ (ds : List Definition). is_some (shape_of ds id)) (sym (definitions-push l o no_definition)) ∙ known);
  within = k.within;
  ends = λ id timed. k.ends id (sym (timed-push l o id no_codec no_definition) ∙ timed) ∙ sym (block_end-push id l o no_codec no_definition ∙ rw (no_end id) refl);
  idle = λ id untimed. k.idle id (sym (timed-push l o id no_codec no_definition) ∙ untimed);
  none = λ quiet. k.none (still quiet);
} where
  last : (c : Bool) → map (λ x. x.id) (flat_map block_of (cond c (o ∷ []) [])) ≡ []
  last true = rw no_block refl
  last false = refl

  same : blocks_in u (l ++ o ∷ []) ≡ blocks_in u l
  same = blocks_in-push u l o ∙ ap (λ (ids : List ℕ). blocks_in u l ++ ids) (last (is_data o && eqb (unit_after l o) u)) ∙ append-nil (blocks_in u l)

-- the unit is closed
pub blocks-close : (b : Blocks) (l : List Role) (u : ℕ) → KeepsBlocksAt b l u → IsLast l u → KeepsBlocksAt b l (u + 1)
unfolding blocks_in in_unit
blocks-close b l u k last = record {
  definitions_are = k.definitions_are;
  has = k.has;
  came = λ id known. rw nothing (none_after (u + 1) (slot_at b.slots id).units (k.within id));
  within = λ id. omega (arith, k.within id);
  ends = k.ends;
  idle = k.idle;
  none = k.none;
} where
  nothing : in_units (λ v. eqb v (u + 1)) l ≡ []
  nothing = last (λ v. eqb v (u + 1)) (λ v h. ne_eqb v (u + 1) (λ e. omega arith))

  none_after : (n m : ℕ) → m ≤ n → false ≡ ltb n m
  none_after n m le = grind (arith, nat_tests)

-- ---- a block

-- the block starts before the open unit ends, where it is placed in time
pub start-small : (l : List Role) (id end : ℕ) (shape : Option Shape) → is_late l (open_unit l) id shape ≡ false → is_timed (rate_of (codecs l)) shape ≡ true → end ≡ block_end id l
    → max (open_unit l * frame_length l) end < (open_unit l + 1) * frame_length l
start-small l id end None late timed is = absurd (true≢false (sym timed))
start-small l id end (Some (MixGain rate fixed)) late timed is =
    let b : leb ((open_unit l + 1) * frame_length l) (max (open_unit l * frame_length l) (block_end id l)) ≡ false = sym (ap (λ t. t && leb ((open_unit l + 1) * frame_length l) (max (open_unit l * frame_length l) (block_end id l))) timed) ∙ late in
    rw is (grind (arith, nat_tests))
start-small l id end (Some (Demixing rate fixed)) late timed is = absurd (true≢false (sym timed))
start-small l id end (Some (ReconGain rate fixed layers flags)) late timed is = absurd (true≢false (sym timed))

end-timed : (shape : Option Shape) (slot : BlockSlot) (own : Option ℕ) (time : UnitTime) → is_timed time.rate shape ≡ true → block_end_of shape slot own time ≡ max (unit_start time) slot.end + duration_by shape own
end-timed None slot own time timed = absurd (true≢false (sym timed))
end-timed (Some (MixGain rate fixed)) slot own time timed = rw timed refl
end-timed (Some (Demixing rate fixed)) slot own time timed = absurd (true≢false (sym timed))
end-timed (Some (ReconGain rate fixed layers flags)) slot own time timed = absurd (true≢false (sym timed))

end-untimed : (shape : Option Shape) (slot : BlockSlot) (own : Option ℕ) (time : UnitTime) → is_timed time.rate shape ≡ false → block_end_of shape slot own time ≡ slot.end
end-untimed None slot own time untimed = refl
end-untimed (Some (MixGain rate fixed)) slot own time untimed = rw untimed refl
end-untimed (Some (Demixing rate fixed)) slot own time untimed = refl
end-untimed (Some (ReconGain rate fixed layers flags)) slot own time untimed = refl

slot-map : (o : Option BlockSlot) (f : BlockSlot → BlockSlot) → is_some o ≡ true → slot_or_none (option_map f o) ≡ f (slot_or_none o)
slot-map None f some = absurd cc
slot-map (Some slot) f some = refl

some-map : {A : Type 0} (o : Option A) (f : A → A) → is_some (option_map f o) ≡ is_some o
some-map None f = refl
some-map (Some x) f = refl

none-map : (o : Option BlockSlot) (f : BlockSlot → BlockSlot) → is_some o ≡ false → slot_or_none (option_map f o) ≡ no_block
none-map None f none = refl
none-map (Some slot) f none = absurd cc

none-slot : (o : Option BlockSlot) → is_some o ≡ false → slot_or_none o ≡ no_block
none-slot None none = refl
none-slot (Some slot) none = absurd cc

abbrev AddsAt : BTreeMap ℕ BlockSlot → BTreeMap ℕ BlockSlot → ℕ → (BlockSlot → BlockSlot) → Type 0
AddsAt old new id f = (q : ℕ) → get nat_cmp new q ≡ cond (nat_eq q id) (option_map f (get nat_cmp old q)) (get nat_cmp old q)

pub blocks-block : (b new : Blocks) (l : List Role) (x : BlockRole) (time : UnitTime) → KeepsBlocks b l
    → time.number ≡ open_unit l → time.frame_length ≡ frame_length l → time.rate ≡ rate_of (codecs l)
    → new.definitions ≡ b.definitions
    → ((q : ℕ) → get nat_cmp new.slots q ≡ cond (nat_eq q x.id) (option_map (λ s. with_block s (shape_of b.definitions x.id) x.duration time) (get nat_cmp b.slots q)) (get nat_cmp b.slots q))
    → KeepsBlocks new (l ++ ParameterBlock x ∷ [])
unfolding duration_of
blocks-block b new l x time k number_is length_is rate_is same slots = rw (open_unit-quiet l o refl refl refl) (record {
  definitions_are = same ∙ k.definitions_are ∙ sym (definitions-push l o refl);
  has = λ q. ap is_some (slots q) ∙ has_one q (nat_eq q x.id) ∙ k.has q ∙ ap (λ (ds : List Definition). is_some (shape_of ds q)) (sym (definitions-push l o refl));
  came = λ q known. ap (λ (ids : List ℕ). contains ids q) (blocks_in-here (open_unit l) l o refl here) ∙ list_any-append (λ y. eqb y q) (blocks_in (open_unit l) l) (x.id ∷ [])
      ∙ came_one q (still q known) (eqb q x.id) refl ∙ ap (λ (s : Option BlockSlot). ltb (open_unit l) (slot_or_none s).units) (sym (slots q));
  within = λ q. subst (λ (s : Option BlockSlot). (slot_or_none s).units ≤ open_unit l + 1) (sym (slots q)) (within_one q (nat_eq q x.id));
  ends = λ q timed. ap (λ (s : Option BlockSlot). (slot_or_none s).end) (slots q) ∙ ends_one q (sym (timed-push l o q refl refl) ∙ timed) (eqb q x.id) refl ∙ sym (block_end-push q l o refl refl);
  idle = λ q untimed. ap (λ (s : Option BlockSlot). (slot_or_none s).end) (slots q) ∙ idle_one q (sym (timed-push l o q refl refl) ∙ untimed) (eqb q x.id) refl;
  none = λ quiet. absurd (true≢false (sym (has-data l o refl) ∙ quiet));
}) where
  o : Role
  o = ParameterBlock x

  f : BlockSlot → BlockSlot
  f s = with_block s (shape_of b.definitions x.id) x.duration time

  here : unit_after l (ParameterBlock x) ≡ open_unit l
  here = unit_after-other l (ParameterBlock x) refl

  still : (q : ℕ) → is_some (shape_of (definitions (l ++ ParameterBlock x ∷ [])) q) ≡ true → is_some (shape_of (definitions l) q) ≡ true
  still q known = ap (λ (ds : List Definition). is_some (shape_of ds q)) (sym (definitions-push l (ParameterBlock x) refl)) ∙ known

  has_one : (q : ℕ) (c : Bool) → is_some (cond c (option_map (λ s. with_block s (shape_of b.definitions x.id) x.duration time) (get nat_cmp b.slots q)) (get nat_cmp b.slots q)) ≡ is_some (get nat_cmp b.slots q)
  has_one q true = some-map (get nat_cmp b.slots q) (λ s. with_block s (shape_of b.definitions x.id) x.duration time)
  has_one q false = refl

  after : (n : ℕ) → ltb n (n + 1) ≡ true
  after n = grind (arith, nat_tests)

  came_one : (q : ℕ) → is_some (shape_of (definitions l) q) ≡ true → (c : Bool) → eqb q x.id ≡ c
      → (contains (blocks_in (open_unit l) l) q || (eqb x.id q || false))
      ≡ ltb (open_unit l) (slot_or_none (cond c (option_map (λ s. with_block s (shape_of b.definitions x.id) x.duration time) (get nat_cmp b.slots q)) (get nat_cmp b.slots q))).units
  came_one q known true e = rw (flip x.id q, e, slot-map (get nat_cmp b.slots q) (λ s. with_block s (shape_of b.definitions x.id) x.duration time) (k.has q ∙ known), number_is, after (open_unit l)) (or_true (contains (blocks_in (open_unit l) l) q)) where
    or_true : (c : Bool) → (c || true) ≡ true
    or_true true = refl
    or_true false = refl
  came_one q known false e = rw (flip x.id q, e, or_false) (k.came q known)

  within_one : (q : ℕ) (c : Bool) → (slot_or_none (cond c (option_map (λ s. with_block s (shape_of b.definitions x.id) x.duration time) (get nat_cmp b.slots q)) (get nat_cmp b.slots q))).units ≤ open_unit l + 1
  within_one q false = k.within q
  within_one q true = one (get nat_cmp b.slots q) where
    one : (s : Option BlockSlot) → (slot_or_none (option_map (λ s. with_block s (shape_of b.definitions x.id) x.duration time) s)).units ≤ open_unit l + 1
    one None = omega arith
    one (Some s) = omega arith

  ends_one : (q : ℕ) → timed_in l q ≡ true → (c : Bool) → eqb q x.id ≡ c
      → (slot_or_none (cond c (option_map (λ s. with_block s (shape_of b.definitions x.id) x.duration time) (get nat_cmp b.slots q)) (get nat_cmp b.slots q))).end
      ≡ fold (end_after (frame_length l)) (block_end q l) (cond (eqb x.id q) ((unit_after l o, duration_of l x) ∷ []) [] ++ [])
  ends_one q timed false e = rw (flip x.id q, e) (k.ends q timed)
  ends_one q timed true e =
      let is : q ≡ x.id = eqb-true q x.id e in
      let timed_here : timed_in l x.id ≡ true = subst (λ (y : ℕ). timed_in l y ≡ true) is timed in
      rw (is, eq-eqb x.id x.id refl) (at timed_here)
    where
      defined : (shape : Option Shape) → is_timed (rate_of (codecs l)) shape ≡ true → is_some (get nat_cmp b.slots x.id) ≡ is_some shape → is_some (get nat_cmp b.slots x.id) ≡ true
      defined None timed h = absurd (true≢false (sym timed))
      defined (Some shape) timed h = h

      at : timed_in l x.id ≡ true → (slot_or_none (option_map (λ s. with_block s (shape_of b.definitions x.id) x.duration time) (get nat_cmp b.slots x.id))).end
          ≡ max (unit_after l (ParameterBlock x) * frame_length l) (block_end x.id l) + duration_of l x
      at timed_here = rw (slot-map (get nat_cmp b.slots x.id) (λ s. with_block s (shape_of b.definitions x.id) x.duration time) (defined (shape_of (definitions l) x.id) timed_here (k.has x.id)))
          (end-timed (shape_of b.definitions x.id) (slot_at b.slots x.id) x.duration time (rw (k.definitions_are, rate_is) timed_here) ∙ rw (k.definitions_are, number_is, length_is, here, k.ends x.id timed_here) refl)

  idle_one : (q : ℕ) → timed_in l q ≡ false → (c : Bool) → eqb q x.id ≡ c
      → (slot_or_none (cond c (option_map (λ s. with_block s (shape_of b.definitions x.id) x.duration time) (get nat_cmp b.slots q)) (get nat_cmp b.slots q))).end ≡ 0
  idle_one q untimed false e = k.idle q untimed
  idle_one q untimed true e = one (get nat_cmp b.slots q) (k.idle q untimed) where
    untimed_here : is_timed time.rate (shape_of b.definitions x.id) ≡ false
    untimed_here = rw (k.definitions_are, rate_is) (subst (λ (y : ℕ). timed_in l y ≡ false) (eqb-true q x.id e) untimed)

    one : (s : Option BlockSlot) → (slot_or_none s).end ≡ 0 → (slot_or_none (option_map (λ s. with_block s (shape_of b.definitions x.id) x.duration time) s)).end ≡ 0
    one None zero = refl
    one (Some s) zero = end-untimed (shape_of b.definitions x.id) s x.duration time untimed_here ∙ zero

-- ---- descriptors, which all stand before the blocks

zero_blocks : (b : Blocks) (m : List Role) → list_any is_data m ≡ false → b.definitions ≡ definitions m → ((id : ℕ) → is_some (get nat_cmp b.slots id) ≡ is_some (shape_of (definitions m) id))
    → ((id : ℕ) → slot_at b.slots id ≡ no_block) → KeepsBlocks b m
zero_blocks b m quiet are has none = record {
  definitions_are = are;
  has = has;
  came = λ id known. rw (blocks_in-none (open_unit m) m quiet, none id) (zero_after (open_unit m));
  within = λ id. rw (none id) (omega arith);
  ends = λ id timed. rw (none id) (sym (block_end-none id m quiet));
  idle = λ id untimed. rw (none id) refl;
  none = λ _. none;
} where
  zero_after : (n : ℕ) → false ≡ ltb n 0
  zero_after n = grind (arith, nat_tests)

pub blocks-none : (b : Blocks) (l m : List Role) → list_any is_data l ≡ false → list_any is_data m ≡ false → definitions m ≡ definitions l → KeepsBlocks b l → KeepsBlocks b m
blocks-none b l m none_l none_m same k =
    zero_blocks b m none_m (k.definitions_are ∙ sym same) (λ id. k.has id ∙ ap (λ (ds : List Definition). is_some (shape_of ds id)) (sym same)) (k.none none_l)

some_shape-push : (known : List Definition) (d : Definition) (id : ℕ) → is_some (shape_of (known ++ d ∷ []) id) ≡ (is_some (shape_of known id) || eqb d.parameter_id id)
some_shape-push [] d id = one (eqb d.parameter_id id) where
  one : (c : Bool) → is_some (cond c (Some d.shape) None) ≡ (false || c)
  one true = refl
  one false = refl
some_shape-push (x ∷ xs) d id = one (eqb x.parameter_id id) (some_shape-push xs d id) where
  one : (c : Bool) → is_some (shape_of (xs ++ d ∷ []) id) ≡ (is_some (shape_of xs id) || eqb d.parameter_id id) → is_some (cond c (Some x.shape) (shape_of (xs ++ d ∷ []) id)) ≡ (is_some (cond c (Some x.shape) (shape_of xs id)) || eqb d.parameter_id id)
  one true rest = refl
  one false rest = rest

some_shape-with : (known : List Definition) (d : Definition) (id : ℕ) → is_some (shape_of (with_definition known d) id) ≡ (is_some (shape_of known id) || eqb d.parameter_id id)
some_shape-with known d id = one (is_some (shape_of known d.parameter_id)) refl where
  one : (c : Bool) → is_some (shape_of known d.parameter_id) ≡ c → is_some (shape_of (cond c known (known ++ d ∷ [])) id) ≡ (is_some (shape_of known id) || eqb d.parameter_id id)
  one false e = some_shape-push known d id
  one true e = two (eqb d.parameter_id id) refl where
    two : (s : Bool) → eqb d.parameter_id id ≡ s → is_some (shape_of known id) ≡ (is_some (shape_of known id) || s)
    two true same = let there : is_some (shape_of known id) ≡ true = sym (ap (λ (q : ℕ). is_some (shape_of known q)) (eqb-true d.parameter_id id same)) ∙ e in rw there refl
    two false other = sym (or_false (is_some (shape_of known id)))

or_assoc : (x y z : Bool) → ((x || y) || z) ≡ (x || (y || z))
or_assoc true y z = refl
or_assoc false y z = refl

pub some_shape-fold : (known ds : List Definition) (id : ℕ) → is_some (shape_of (fold with_definition known ds) id) ≡ (is_some (shape_of known id) || contains (ids_of ds) id)
some_shape-fold known [] id = sym (or_false (is_some (shape_of known id)))
some_shape-fold known (d ∷ ds) id =
    some_shape-fold (with_definition known d) ds id ∙ ap (λ c. c || contains (ids_of ds) id) (some_shape-with known d id) ∙ or_assoc (is_some (shape_of known id)) (eqb d.parameter_id id) (contains (ids_of ds) id)

-- a descriptor that defines parameters
pub blocks-define : (b new : Blocks) (l : List Role) (o : Role) → KeepsBlocks b l → list_any is_data l ≡ false → list_any is_data (l ++ o ∷ []) ≡ false
    → Defines b new (definitions_of o)
    → KeepsBlocks new (l ++ o ∷ [])
blocks-define b new l o k none_l none_m adds =
    zero_blocks new (l ++ o ∷ []) none_m (adds.definitions_are ∙ ap (λ (ds : List Definition). fold with_definition ds (definitions_of o)) k.definitions_are ∙ sym (definitions_after l o))
    (λ id. adds.has id ∙ ap (λ c. c || contains (ids_of (definitions_of o)) id) (k.has id) ∙ sym (some_shape-fold (definitions l) (definitions_of o) id) ∙ ap (λ (ds : List Definition). is_some (shape_of ds id)) (sym (definitions_after l o)))
    (adds.none (k.none none_l))
