-- The samples of a FLAC frame have the bits of its depth.
use Rattle.std.proofs.Common.{arith, ◌≡◌, ◌<◌, ◌≤◌, ◌+◌, ◌-◌, ◌*◌, ◌/◌, ◌^◌, ℕ, zero, suc, ℤ, pos, negsuc, ◌+ℤ◌, unsigned_abs, Bool, true, false, ◌||◌, ◌&&◌, List, [], ◌∷◌, ◌++◌, length, get_or, refl, subst}
use Rattle.std.specs.Prelude.{neg_ℤ, int_le, int_lt}
use Rattle.std.proofs.lemmas.Bool.{ltb-true, not-false}
use Rattle.std.proofs.lemmas.List.{length-map, get_or-map}
use Rattle.std.proofs.lemmas.Int.{ints}
use Rattle.std.proofs.Math.Nat.{pow-le-pow_right}
use Rattle.spec_bits.specs.Bits.{FitsSigned}
use Rattle.spec_bits.specs.Form.{Signed}
use Rattle.spec_syntax.specs.Syntax.{Syntax, field, each, in_turn}
use Rattle.spec_syntax.specs.Payload.{FieldValue}
use Rattle.spec_syntax.proofs.Fields.{Has, field_step, end_step, choice_step, check_step, bind_step}
use Rattle.spec_flac.specs.declared.fault.FlacFault.{FlacFault}
use Rattle.spec_flac.specs.declared.shape.FlacShape.{FlacShape}
use Rattle.spec_flac.specs.Residual.{is_sample, sample, samples, plain_residual, coded_residual, partition, partitions, residual}
use Rattle.spec_flac.specs.Subframe.{verbatim, predicted, half_of, linear, weights, weighted, constant, content, fixed, order_of, subframe, subframe_kind, wasted_bits, scaled}
use Rattle.spec_flac.specs.Header.{header}
use Rattle.spec_flac.specs.Frame.{frame, channels, one_channel, two_channels, left_and_right, left_of, paired, has_other, frame_end, first_depth, second_depth, IsFrame}
use Rattle.flac_subframes.specs.Rows.{AreWithin}
use Rattle.flac_subframes.proofs.PredictedSubframes.{within_half, copies_within}
use Rattle.flac_subframes.proofs.WholeSubframes.{within_scaled}

-- ---- one sample

both : (a b : Bool) → (a && b) ≡ true → (a ≡ true) × (b ≡ true)
both true b e = (refl, e)
both false b e = absurd (cc)

sample_small : (m : ℕ) (z : ℤ) → is_sample (pos m) z ≡ true → unsigned_abs z ≤ m
sample_small m (pos n) e = let b : n < m = ltb-true n m (both (int_le (neg_ℤ (pos m)) (pos n)) (int_lt (pos n) (pos m)) e).1 in omega arith
sample_small zero (negsuc n) e = absurd (cc)
sample_small (suc m) (negsuc n) e = grind (arith, ints)

signed_small : (depth : ℕ) (z : ℤ) → 1 ≤ depth → FitsSigned depth z → unsigned_abs z ≤ 2 ^ (depth - 1)
signed_small depth (pos n) low fits = within_half (pos n) depth low (omega arith)
signed_small depth (negsuc n) low fits = within_half (negsuc n) depth low (let f : 2 * n + 1 < 2 ^ depth = fits in let k : 2 ^ depth ≡ 2 * 2 ^ (depth - 1) = two_times depth low in omega arith)
  where
    two_times : (depth : ℕ) → 1 ≤ depth → 2 ^ depth ≡ 2 * 2 ^ (depth - 1)
    two_times zero h = absurd (omega arith)
    two_times (suc d) h = let e : suc d - 1 ≡ d = omega arith in rw e (omega arith)

within_more : (half : ℤ) (xs : List ℤ) (z : ℤ) → AreWithin half xs → unsigned_abs z ≤ unsigned_abs half → AreWithin half (xs ++ z ∷ [])
within_more half [] z small le zero = le
within_more half [] z small le (suc i) = small i
within_more half (x ∷ xs) z small le zero = small 0
within_more half (x ∷ xs) z small le (suc i) = within_more half xs z (λ j. small (suc j)) le i

none_within : (half : ℤ) → AreWithin half []
none_within half i = omega arith

-- ---- subframes

one_sample : (m : ℕ) (res : Syntax FlacFault ℤ) (p : ℤ) (xs : List FieldValue) (z : ℤ) → Has (sample (pos m) res p) xs z → unsigned_abs z ≤ m
unfolding sample
one_sample m res p xs z h =
    bind_step res _ h λ front others r e first h1.
    check_step h1 λ fits h2.
    end_step h2 λ none is.
    subst (λ (y : ℤ). unsigned_abs y ≤ m) is (sample_small m (p +ℤ r) (not-false _ fits))

samples_within : (m : ℕ) (res : Syntax FlacFault ℤ) (predict : List ℤ → ℤ) (count : ℕ) (before : List ℤ) (xs : List FieldValue) (zs : List ℤ) → AreWithin (pos m) before → Has (samples (pos m) res predict count before) xs zs → AreWithin (pos m) zs
unfolding samples each
samples_within m res predict zero before xs zs small h = end_step h λ none is. subst (AreWithin (pos m)) is small
samples_within m res predict (suc n) before xs zs small h =
    bind_step (sample (pos m) res (predict before)) _ h λ front others z e first h1.
    samples_within m res predict n (before ++ z ∷ []) others zs (within_more (pos m) before z small (one_sample m res (predict before) front z first)) h1

partition_within : (m : ℕ) (predict : List ℤ → ℤ) (count to : ℕ) (before : List ℤ) (xs : List FieldValue) (zs : List ℤ) → AreWithin (pos m) before → Has (partition (pos m) predict count to before) xs zs → AreWithin (pos m) zs
unfolding partition
partition_within m predict count to before xs zs small h =
    field_step h λ k ys e f p h1.
    choice_step h1
    (λ escape h2.
    field_step h2 λ width rest e2 f2 p2 h3.
    samples_within m (plain_residual width) predict (to - length before) before rest zs small h3)
    (λ plain h2. samples_within m (coded_residual k) predict (to - length before) before ys zs small h2)

turns_within : (m : ℕ) (predict : List ℤ → ℤ) (count size all n : ℕ) (before : List ℤ) (xs : List FieldValue) (zs : List ℤ) → AreWithin (pos m) before
    → Has (in_turn n (λ later ys. partition (pos m) predict count (size * (all - later)) ys) before) xs zs → AreWithin (pos m) zs
unfolding in_turn
turns_within m predict count size all zero before xs zs small h = end_step h λ none is. subst (AreWithin (pos m)) is small
turns_within m predict count size all (suc n) before xs zs small h =
    bind_step (partition (pos m) predict count (size * (all - n)) before) _ h λ front others mid e first h1.
    turns_within m predict count size all n mid others zs (partition_within m predict count (size * (all - n)) before front mid small first) h1

residual_within : (m : ℕ) (predict : List ℤ → ℤ) (block_size : ℕ) (warm_up : List ℤ) (xs : List FieldValue) (zs : List ℤ) → AreWithin (pos m) warm_up → Has (residual (pos m) predict block_size warm_up) xs zs → AreWithin (pos m) zs
unfolding residual partitions
residual_within m predict block_size warm_up xs zs small h =
    field_step h λ method ys e f p h1.
    field_step h1 λ order rest e1 f1 p1 h2.
    turns_within m predict (method + 4) (block_size / 2 ^ order) (2 ^ order) (2 ^ order) warm_up rest zs small h2

each_within : (depth count : ℕ) (before : List ℤ) (xs : List FieldValue) (zs : List ℤ) → 1 ≤ depth → AreWithin (half_of depth) before → Has (each count (λ _ _. field {F = FlacFault} (Signed depth) []) before) xs zs → AreWithin (half_of depth) zs
unfolding each
each_within depth zero before xs zs low small h = end_step h λ none is. subst (AreWithin (half_of depth)) is small
each_within depth (suc n) before xs zs low small h =
    bind_step (field {F = FlacFault} (Signed depth) []) _ h λ front others z e first h1.
    each_within depth n (before ++ z ∷ []) others zs low
    (within_more (half_of depth) before z small (field_step first λ v ys e1 fits p h2. end_step h2 λ none is. subst (λ (y : ℤ). unsigned_abs y ≤ 2 ^ (depth - 1)) is (signed_small depth v low fits))) h1

verbatim_within : (depth count : ℕ) (xs : List FieldValue) (zs : List ℤ) → 1 ≤ depth → Has (verbatim depth count) xs zs → AreWithin (half_of depth) zs
unfolding verbatim
verbatim_within depth count xs zs low h = each_within depth count [] xs zs low (none_within (half_of depth)) h

content_within : (kind depth block_size : ℕ) (xs : List FieldValue) (zs : List ℤ) → 1 ≤ depth → Has (content kind depth block_size) xs zs → AreWithin (half_of depth) zs
unfolding content fixed constant predicted linear weights weighted
content_within kind depth block_size xs zs low h =
    choice_step h
    (λ zero h1.
    field_step h1 λ value ys e fits p h2.
    end_step h2 λ none is.
    subst (AreWithin (half_of depth)) is (copies_within (half_of depth) value block_size (signed_small depth value low fits)))
    (λ not_zero h1. choice_step h1
    (λ one h2. verbatim_within depth block_size xs zs low h2)
    (λ not_one h2. choice_step h2
    (λ below h3.
    bind_step (verbatim depth (order_of kind)) _ h3 λ front others warm e first h4.
    residual_within (2 ^ (depth - 1)) _ block_size warm others zs (verbatim_within depth (order_of kind) front warm low first) h4)
    (λ above h3.
    bind_step (verbatim depth (order_of kind)) _ h3 λ front others warm e first h4.
    field_step h4 λ precision ys e1 f1 p1 h5.
    field_step h5 λ shift ys2 e2 f2 p2 h6.
    bind_step (verbatim (precision + 1) (order_of kind)) _ h6 λ middle rest cs e3 second h7.
    residual_within (2 ^ (depth - 1)) _ block_size warm rest zs (verbatim_within depth (order_of kind) front warm low first) h7)))

wasted_few : (depth : ℕ) (xs : List FieldValue) (k : ℕ) → 1 ≤ depth → Has (wasted_bits depth) xs k → k < depth
unfolding wasted_bits
wasted_few depth xs k low h =
    field_step h λ flag ys e f p h1.
    choice_step h1
    (λ some h2.
    field_step h2 λ zeros ys1 e1 f1 p1 h3.
    end_step h3 λ none is.
    subst (λ (n : ℕ). n < depth) is (ltb-true (zeros + 1) depth (not-false _ p1.0)))
    (λ no h2. end_step h2 λ none is. subst (λ (n : ℕ). n < depth) is low)

subframe_within : (depth block_size : ℕ) (xs : List FieldValue) (zs : List ℤ) → 1 ≤ depth → depth ≤ 33 → Has (subframe depth block_size) xs zs → AreWithin (half_of depth) zs
unfolding subframe
subframe_within depth block_size xs zs low high h =
    bind_step (subframe_kind block_size) _ h λ front others kind e first h1.
    bind_step (wasted_bits depth) _ h1 λ middle rest k e1 second h2.
    bind_step (content kind (depth - k) block_size) _ h2 λ own more ys e2 third h3.
    end_step h3 λ none is.
    let few = wasted_few depth middle k low second in
    let small = content_within kind (depth - k) block_size own ys (omega arith) third in
    subst (AreWithin (half_of depth)) is (within_scaled depth k (scaled k ys) ys low high few (length-map ys _) small (λ i lt. get_or-map _ ys i (pos 0) (pos 0) lt))

-- ---- frames

abbrev pub EachWithin : ℤ → List (List ℤ) → Type 0
EachWithin half [] = Unit {0}
EachWithin half (row ∷ rows) = AreWithin half row × EachWithin half rows

no_other : (m : ℕ) (zs : List ℤ) → has_other (pos m) zs ≡ false → AreWithin (pos m) zs
no_other m [] e i = omega arith
no_other m (z ∷ zs) e zero = sample_small m z (not-false _ (first_false _ _ e))
  where
    first_false : (a b : Bool) → (a || b) ≡ false → a ≡ false
    first_false true b e = absurd cc
    first_false false b e = refl
no_other m (z ∷ zs) e (suc i) = no_other m zs (second_of _ _ e) i
  where
    second_of : (a b : Bool) → (a || b) ≡ false → b ≡ false
    second_of true b e = absurd cc
    second_of false b e = e

halves : (depth : ℕ) → depth ≤ 32 → 2 ^ (depth - 1) ≤ 2 ^ 31
halves depth high = let two : 0 < 2 = omega arith in let few : depth - 1 ≤ 31 = omega arith in pow-le-pow_right two few

left_right_within : (code depth : ℕ) (first second : List ℤ) (xs : List FieldValue) (rows : List (List ℤ)) → Has (left_and_right code depth first second) xs rows → EachWithin (half_of depth) rows
unfolding left_and_right
left_right_within code depth first second xs rows h =
    check_step h λ fits h1.
    end_step h1 λ none is.
    let both = neither (has_other (half_of depth) (paired (left_of code) first second)) _ fits in
    subst (EachWithin (half_of depth)) is (no_other (2 ^ (depth - 1)) _ both.0, (no_other (2 ^ (depth - 1)) _ both.1, tt))
  where
    neither : (a b : Bool) → (a || b) ≡ false → (a ≡ false) × (b ≡ false)
    neither true b e = absurd (cc)
    neither false b e = (refl, e)

first_plain : (shape : FlacShape) (code : ℕ) → code < 8 → (first_depth shape code ≡ shape.depth) × (second_depth shape code ≡ shape.depth)
first_plain shape code h = grind arith

channels_within : (shape : FlacShape) (code : ℕ) (xs : List FieldValue) (rows : List (List ℤ)) → 1 ≤ shape.depth → shape.depth ≤ 32 → Has (channels shape code) xs rows → EachWithin (half_of shape.depth) rows
unfolding channels one_channel two_channels
channels_within shape code xs rows low high h =
    choice_step h
    (λ single h1.
    bind_step (subframe shape.depth shape.length) _ h1 λ own more row e has h2.
    end_step h2 λ none is.
    subst (EachWithin (half_of shape.depth)) is (subframe_within shape.depth shape.length own row low (omega arith) has, tt))
    (λ more h1.
    bind_step (subframe (first_depth shape code) shape.length) _ h1 λ front others first e has1 h2.
    bind_step (subframe (second_depth shape code) shape.length) _ h2 λ own rest second e1 has2 h3.
    choice_step h3
    (λ below h4. end_step h4 λ none is.
    let plain = first_plain shape code (ltb-true code 8 below) in
    let f : Has (subframe shape.depth shape.length) front first = subst (λ (d : ℕ). Has (subframe d shape.length) front first) plain.0 has1 in
    let s : Has (subframe shape.depth shape.length) own second = subst (λ (d : ℕ). Has (subframe d shape.length) own second) plain.1 has2 in
    subst (EachWithin (half_of shape.depth)) is (subframe_within shape.depth shape.length front first low (omega arith) f, (subframe_within shape.depth shape.length own second low (omega arith) s, tt)))
    (λ above h4. left_right_within code shape.depth first second rest rows h4))

frame_within : (shape : FlacShape) (xs : List FieldValue) (rows : List (List ℤ)) → 1 ≤ shape.depth → shape.depth ≤ 32 → Has (frame shape) xs rows → EachWithin (half_of shape.depth) rows
unfolding frame
frame_within shape xs rows low high h =
    bind_step (header shape) _ h λ front others code e has1 h1.
    bind_step (channels shape code) _ h1 λ middle rest found e1 has2 h2.
    bind_step frame_end _ h2 λ own more u e2 has3 h3.
    end_step h3 λ none is.
    subst (EachWithin (half_of shape.depth)) is (channels_within shape code middle found low high has2)

row_small : (depth : ℕ) (rows : List (List ℤ)) (c n : ℕ) → depth ≤ 32 → EachWithin (half_of depth) rows → unsigned_abs (get_or (get_or rows c []) n (pos 0)) ≤ 2 ^ 31
row_small depth [] c n high small = omega arith
row_small depth (row ∷ rows) zero n high small = let one = small.0 n in let most = halves depth high in omega arith
row_small depth (row ∷ rows) (suc c) n high small = row_small depth rows c n high small.1

-- each sample has 32 bits
pub frame_small : (shape : FlacShape) (bytes : List ℕ) (rows : List (List ℤ)) (c n : ℕ) → 1 ≤ shape.depth → shape.depth ≤ 32 → IsFrame shape bytes rows → unsigned_abs (get_or (get_or rows c []) n (pos 0)) ≤ 2 ^ 31
frame_small shape bytes rows c n low high f = row_small shape.depth rows c n high (frame_within shape f.fields rows low high (record { before = []; bits = f.payload.spelling; stands = f.payload.stands }))
