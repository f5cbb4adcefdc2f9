-- The substreams of an element, with their channels.
use Prim.Native.Nat.{zero, suc}
use Rattle.std.proofs.Common.{◌≡◌, ℕ, ◌+◌, ◌<◌, Bool, true, false, ◌||◌, cond, eqb, List, [], ◌∷◌, ◌++◌, length, get_or, take, refl, sym, ap, ◌∙◌, inl, inr, subst, eqb-true, eq-eqb, true≢false, arith}
use Rattle.std.specs.Prelude.{Option, None, Some, slice_get}
use Rattle.std.specs.List.{flat_map, zip}
use Rattle.std.specs.Ordering.{nat_cmp}
use Rattle.std.specs.BTreeMap.{BTreeMap, get, btree_map_len, Updates}
use Rattle.std.proofs.lemmas.Bool.Decides.{nat_tests}
use Rattle.std.proofs.lemmas.Bool.{or_right, or_left, or_parts, cases_Bool}
use Rattle.std.proofs.lemmas.List.{take_more}
use Rattle.std.proofs.lemmas.List.Folds.{list_any-append}
use Rattle.std.proofs.lemmas.Grind.{common_steps}
use Rattle.spec_rules.specs.Descriptors.{pairs_in, channels_in, pairs_of, substreams_of}
use Rattle.spec_rules.specs.Role.{Role, Ignored, SequenceHeader, CodecConfig, AudioElement, MixPresentation, Delimiter, ParameterBlock, AudioFrame}
use Rattle.spec_rules.specs.Units.{contains, are_apart}
use Rattle.iamf_rules.specs.declared.substreams.Slot.{Slot}
use Rattle.iamf_rules.specs.SlotSteps.{AreNew, HasSome, channel_at}
use Rattle.iamf_rules.proofs.Ids.{contains-take}
use Rattle.spec_rules.proofs.DistinctIds.{apart_parts}

other_at : (ys : List ℕ) (y i : ℕ) → contains ys y ≡ false → i < length ys → eqb y (get_or ys i 0) ≡ false
other_at [] y i none below = absurd (omega arith)
other_at (z ∷ zs) y zero none below = let n : (eqb z y ≡ false) × (contains zs y ≡ false) = or_parts (eqb z y) (contains zs y) none in grind (arith, nat_tests)
other_at (z ∷ zs) y (suc i) none below = let n : (eqb z y ≡ false) × (contains zs y ≡ false) = or_parts (eqb z y) (contains zs y) none in other_at zs y i n.1 (omega arith)

pub apart_at : (ids : List ℕ) (i : ℕ) → are_apart ids ≡ true → i < length ids → contains (take i ids) (get_or ids i 0) ≡ false
apart_at [] i apart below = absurd (omega arith)
apart_at (y ∷ ys) zero apart below = refl
apart_at (y ∷ ys) (suc i) apart below =
    let a : (contains ys y ≡ false) × (are_apart ys ≡ true) = apart_parts y ys apart in
    rw (other_at ys y i a.0 (omega arith)) (apart_at ys i a.1 (omega arith))

zip_at : (ids cs : List ℕ) (i : ℕ) → are_apart ids ≡ true → i < length ids → channels_in (zip ids cs) (get_or ids i 0) ≡ slice_get cs i
zip_at [] cs i apart below = absurd (omega arith)
zip_at (y ∷ ys) [] i apart below = refl
zip_at (y ∷ ys) (c ∷ cs) zero apart below = rw (eq-eqb y y refl) refl
zip_at (y ∷ ys) (c ∷ cs) (suc i) apart below =
    let a : (contains ys y ≡ false) × (are_apart ys ≡ true) = apart_parts y ys apart in
    rw (other_at ys y i a.0 (omega arith)) (zip_at ys cs i a.1 (omega arith))

pub pairs_at : (ids : List ℕ) (channels : Option (List ℕ)) (i : ℕ) → are_apart ids ≡ true → i < length ids → channels_in (pairs_in ids channels) (get_or ids i 0) ≡ channel_at channels i
pairs_at ids None i apart below = refl
pairs_at ids (Some cs) i apart below = zip_at ids cs i apart below

contains-at : (ys : List ℕ) (i : ℕ) → i < length ys → contains ys (get_or ys i 0) ≡ true
contains-at [] i below = absurd (omega arith)
contains-at (y ∷ ys) zero below = or_left (eqb y y) (contains ys y) (eq-eqb y y refl)
contains-at (y ∷ ys) (suc i) below = or_right (eqb y (get_or ys i 0)) (contains ys (get_or ys i 0)) (contains-at ys i (omega arith))

-- one more of the substreams came
pub has_some-step : (old mid new : BTreeMap ℕ Slot) (ids : List ℕ) (channels : Option (List ℕ)) (i : ℕ) → i < length ids → AreNew old ids
    → HasSome old mid ids channels (take i ids)
    → Updates nat_cmp mid new (get_or ids i 0) (Some (record { channels = channel_at channels i; frames = 0 }))
    → (get nat_cmp mid (get_or ids i 0) ≡ None → btree_map_len new ≡ btree_map_len mid + 1)
    → HasSome old new ids channels (take (i + 1) ids)
has_some-step old mid new ids channels i below fresh before updates more = record {
  slots = slots_at;
  count = more absent ∙ rw (before.count, take_more ids i 0 below) (sized (take i ids));
} where
  x : ℕ
  x = get_or ids i 0

  sized : (xs : List ℕ) → (btree_map_len old + length xs) + 1 ≡ btree_map_len old + length (xs ++ x ∷ [])
  sized xs = grind (arith, common_steps)

  absent : get nat_cmp mid x ≡ None
  absent = before.slots x ∙ rw (apart_at ids i fresh.apart below) (fresh.absent x (contains-at ids i below))

  slots_at : (s : ℕ) → get nat_cmp new s ≡ cond (contains (take (i + 1) ids) s) (Some (record { channels = channels_in (pairs_in ids channels) s; frames = 0 })) (get nat_cmp old s)
  slots_at s = elim (cases_Bool (eqb x s)) [
    | inl same ↦ subst (λ r. get nat_cmp new r ≡ cond (contains (take (i + 1) ids) r) (Some (record { channels = channels_in (pairs_in ids channels) r; frames = 0 })) (get nat_cmp old r)) (eqb-true x s same)
        (here ∙ rw (contains-take ids i x below, apart_at ids i fresh.apart below, eq-eqb x x refl, pairs_at ids channels i fresh.apart below) refl)
    | inr other ↦ keeps s other ∙ before.slots s ∙ rw (contains-take ids i s below, other) (one (contains (take i ids) s) _ _)
  ] where
    here : get nat_cmp new x ≡ Some (record { channels = channel_at channels i; frames = 0 })
    here = grind (arith, common_steps, updates)

    keeps : (s : ℕ) → eqb x s ≡ false → get nat_cmp new s ≡ get nat_cmp mid s
    keeps s other = grind (arith, common_steps, updates)

    one : {X : Type 0} (b : Bool) (y z : X) → cond b y z ≡ cond (b || (false || false)) y z
    one true y z = refl
    one false y z = refl

pub has_none : (old : BTreeMap ℕ Slot) (ids : List ℕ) (channels : Option (List ℕ)) → HasSome old old ids channels (take 0 ids)
has_none old ids channels = record { slots = λ s. refl; count = omega arith }

-- ---- two lists with no id in both

pub apart_after : (known ids : List ℕ) → are_apart (known ++ ids) ≡ true → are_apart ids ≡ true
apart_after [] ids apart = apart
apart_after (x ∷ xs) ids apart = apart_after xs ids (apart_parts x (xs ++ ids) apart).1

pub new_after : (known ids : List ℕ) → are_apart (known ++ ids) ≡ true → (s : ℕ) → contains ids s ≡ true → contains known s ≡ false
new_after [] ids apart s there = refl
new_after (x ∷ xs) ids apart s there =
    let a : (contains (xs ++ ids) x ≡ false) × (are_apart (xs ++ ids) ≡ true) = apart_parts x (xs ++ ids) apart in
    elim (cases_Bool (eqb x s)) [
      | inl same ↦ absurd (true≢false (sym (or_right (contains xs x) (contains ids x) (subst (λ y. contains ids y ≡ true) (sym (eqb-true x s same)) there)) ∙ sym (list_any-append _ xs ids) ∙ a.0))
      | inr other ↦ rw other (new_after xs ids a.1 s there)
    ]

-- ---- channels beside substreams

pub channels_none : (ps qs : List (ℕ × ℕ)) (s : ℕ) → channels_in ps s ≡ None → channels_in (ps ++ qs) s ≡ channels_in qs s
channels_none [] qs s none = refl
channels_none (p ∷ ps) qs s none = at_head (eqb p.0 s) p.1 (channels_none ps qs s) none where
  at_head : (b : Bool) (n : ℕ) → (channels_in ps s ≡ None → channels_in (ps ++ qs) s ≡ channels_in qs s) → cond b (Some n) (channels_in ps s) ≡ None → cond b (Some n) (channels_in (ps ++ qs) s) ≡ channels_in qs s
  at_head true n h none = absurd cc
  at_head false n h none = h none

pub channels_first : (ps qs : List (ℕ × ℕ)) (s : ℕ) → channels_in qs s ≡ None → channels_in (ps ++ qs) s ≡ channels_in ps s
channels_first [] qs s none = none
channels_first (p ∷ ps) qs s none = ap (λ (o : Option ℕ). cond (eqb p.0 s) (Some p.1) o) (channels_first ps qs s none)

zip_none : (ids cs : List ℕ) (s : ℕ) → contains ids s ≡ false → channels_in (zip ids cs) s ≡ None
zip_none [] cs s none = refl
zip_none (y ∷ ys) [] s none = refl
zip_none (y ∷ ys) (c ∷ cs) s none = let n : (eqb y s ≡ false) × (contains ys s ≡ false) = or_parts (eqb y s) (contains ys s) none in rw n.0 (zip_none ys cs s n.1)

pub pairs_none : (ids : List ℕ) (channels : Option (List ℕ)) (s : ℕ) → contains ids s ≡ false → channels_in (pairs_in ids channels) s ≡ None
pairs_none ids None s none = refl
pairs_none ids (Some cs) s none = zip_none ids cs s none

pairs_of_none : (o : Role) (s : ℕ) → contains (substreams_of o) s ≡ false → channels_in (pairs_of o) s ≡ None
pairs_of_none Ignored s none = refl
pairs_of_none (SequenceHeader p) s none = refl
pairs_of_none (CodecConfig c) s none = refl
pairs_of_none (AudioElement e) s none = pairs_none e.substreams e.channels s none
pairs_of_none (MixPresentation m) s none = refl
pairs_of_none Delimiter s none = refl
pairs_of_none (ParameterBlock b) s none = refl
pairs_of_none (AudioFrame f) s none = refl

-- a substream that is not there has no channels
pub channels_unknown : (l : List Role) (s : ℕ) → contains (flat_map substreams_of l) s ≡ false → channels_in (flat_map pairs_of l) s ≡ None
channels_unknown [] s none = refl
channels_unknown (o ∷ os) s none =
    let n : (contains (substreams_of o) s ≡ false) × (contains (flat_map substreams_of os) s ≡ false) = or_parts _ _ (sym (list_any-append _ (substreams_of o) (flat_map substreams_of os)) ∙ none) in
    channels_none (pairs_of o) (flat_map pairs_of os) s (pairs_of_none o s n.0) ∙ channels_unknown os s n.1
