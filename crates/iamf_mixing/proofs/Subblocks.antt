-- The subblocks of a block, one after the other.
use Rattle.std.proofs.Common.{arith, ◌≡◌, ◌<◌, ◌≤◌, ◌+◌, ◌-◌, ◌*◌, ◌/◌, ◌^◌, ℕ, ℤ, zero, suc, refl, ◌≢◌, map, min, sym, ap, ◌∙◌, List, [], ◌∷◌, length, get_or, take, sum, ◌⊎◌, inl, inr}
use Rattle.std.specs.List.{zip, range_with_len}
use Rattle.std.proofs.lemmas.List.Sums.{sum_by-cons, sum_by_more}
use Rattle.std.proofs.lemmas.List.{length-map, get_or-map}
use Rattle.std.proofs.lemmas.List.FromFn.{length-map-range_with_len, get_or-map-range_with_len}
use Rattle.std.proofs.lemmas.Bool.{cases_lt, lt-ltb, le-ltb, ne_eqb}
use Rattle.std.proofs.Math.Logic.{⊎_elim}
use Rattle.std.proofs.Math.Nat.{mul-le-mul_right, mul-le-mul_left}
use Rattle.spec_gains.specs.Gains.{one, gain_of}
use Rattle.spec_descriptors.specs.ParameterDefinition.{FixedFields}
use Rattle.spec_blocks.specs.ParameterBlock.{GainFields, Linear, subblocks_in}
use Rattle.obu_data.specs.declared.gain_part.GainPart.{GainPart}
use Rattle.obu_data.specs.BlockView.{view_gain_part}
use Rattle.spec_play.specs.GainsOverTime.{part_gain, subblock_gain, subblock_durations}

-- a point between two numbers of 64 bits has 64 bits
pub between_fits : (a b n k : ℕ) → k < n → a < 2 ^ 64 → b < 2 ^ 64 → (a * (n - k) + b * k) / n < 2 ^ 64
between_fits a b n k h low high =
    let x : a ≤ 2 ^ 64 - 1 = omega arith in
    let y : b ≤ 2 ^ 64 - 1 = omega arith in
    let first = mul-le-mul_right (n - k) x in
    let second = mul-le-mul_right k y in
    let whole : a * (n - k) + b * k ≤ (2 ^ 64 - 1) * n = omega arith in
    ⊎_elim (λ over. let more : n * (2 ^ 64) ≤ n * ((a * (n - k) + b * k) / n) = mul-le-mul_left n over in absurd (omega arith)) (λ under. omega arith) (cases_lt (2 ^ 64 - 1) ((a * (n - k) + b * k) / n))

-- subblock i of so many alike starts before the block's end
starts_before : (d c i : ℕ) → 0 < c → i < (d + (c - 1)) / c → i * c < d
starts_before d c i some h =
    let under : c * suc i ≤ c * ((d + (c - 1)) / c) = mul-le-mul_left c h in
    let whole : c * ((d + (c - 1)) / c) ≤ d + (c - 1) = omega arith in
    let e : c * suc i ≡ c * i + c = omega arith in
    omega arith

-- the number of a subblock is below the block's duration
pub number_below : (d c i : ℕ) → 0 < c → i < (d + (c - 1)) / c → i < d
number_below d c i some h =
    let before = starts_before d c i some h in
    let one_each : i * 1 ≤ i * c = mul-le-mul_left i some in
    omega arith

-- subblocks that all last alike, but for the last
pub alike : (fixed : FixedFields) → fixed.constant_subblock_duration ≢ 0
    → subblock_durations fixed ≡ map (λ k. min fixed.constant_subblock_duration (fixed.duration - k * fixed.constant_subblock_duration)) (range_with_len 0 (subblocks_in fixed.duration fixed.constant_subblock_duration))
alike fixed some =
    let c = fixed.constant_subblock_duration in
    rw (ne_eqb c 0 some) refl

pub count_alike : (fixed : FixedFields) → fixed.constant_subblock_duration ≢ 0 → length (subblock_durations fixed) ≡ subblocks_in fixed.duration fixed.constant_subblock_duration
count_alike fixed some = ap length (alike fixed some) ∙ length-map-range_with_len (λ k. min fixed.constant_subblock_duration (fixed.duration - k * fixed.constant_subblock_duration)) 0 (subblocks_in fixed.duration fixed.constant_subblock_duration)

pub number_alike : (fixed : FixedFields) (i : ℕ) → fixed.constant_subblock_duration ≢ 0 → i < length (subblock_durations fixed) → i < subblocks_in fixed.duration fixed.constant_subblock_duration
number_alike fixed i some h = let e = count_alike fixed some in omega arith

pub starts_alike : (fixed : FixedFields) (i : ℕ) → fixed.constant_subblock_duration ≢ 0 → i < length (subblock_durations fixed) → i * fixed.constant_subblock_duration < fixed.duration
starts_alike fixed i some h = starts_before fixed.duration fixed.constant_subblock_duration i (omega (arith, some)) (number_alike fixed i some h)

pub duration_alike : (fixed : FixedFields) (i : ℕ) → fixed.constant_subblock_duration ≢ 0 → i < length (subblock_durations fixed)
    → get_or (subblock_durations fixed) i 0 ≡ min fixed.constant_subblock_duration (fixed.duration - i * fixed.constant_subblock_duration)
duration_alike fixed i some h =
    let f : ℕ → ℕ = λ k. min fixed.constant_subblock_duration (fixed.duration - k * fixed.constant_subblock_duration) in
    let there = number_alike fixed i some h in
    ap (λ ds. get_or ds i 0) (alike fixed some) ∙ get_or-map-range_with_len f 0 (subblocks_in fixed.duration fixed.constant_subblock_duration) i i 0 there (omega arith)

-- the gain in subblock i, so many ticks after its start
pub subblock_inside : (durations : List ℕ) (gains : List GainFields) (i j : ℕ) (d : GainFields) → i < length durations → i < length gains → j < get_or durations i 0
    → subblock_gain (zip durations gains) (sum (take i durations) + j) ≡ part_gain (get_or durations i 0) (get_or gains i d) j
subblock_inside [] gains i j d h g inside = absurd (omega arith)
subblock_inside (n ∷ durations) [] i j d h g inside = absurd (omega arith)
subblock_inside (n ∷ durations) (part ∷ gains) zero j d h g inside =
    let e : sum (take 0 (n ∷ durations)) + j ≡ j = omega arith in
    rw (e, lt-ltb j n inside) refl
subblock_inside (n ∷ durations) (part ∷ gains) (suc i) j d h g inside =
    let more : sum (take (suc i) (n ∷ durations)) ≡ n + sum (take i durations) = sum_by-cons (λ x. x) n (take i durations) in
    let later : n ≤ sum (take (suc i) (n ∷ durations)) + j = omega arith in
    let e : sum (take (suc i) (n ∷ durations)) + j - n ≡ sum (take i durations) + j = omega arith in
    rw (le-ltb (sum (take (suc i) (n ∷ durations)) + j) n later, e) (subblock_inside durations gains i j d (omega arith) (omega arith) inside)

-- past so many subblocks, where one of the two lists ends, the gain is 1
pub subblock_past : (durations : List ℕ) (gains : List GainFields) (i j : ℕ) → (length durations ≤ i) ⊎ (length gains ≤ i) → sum (take i durations) ≤ j
    → subblock_gain (zip durations gains) j ≡ one
subblock_past [] gains i j end past = refl
subblock_past (n ∷ durations) [] i j end past = refl
subblock_past (n ∷ durations) (part ∷ gains) zero j end past = absurd (⊎_elim (λ (h : suc (length durations) ≤ 0). let no : ⊥ = omega arith in no) (λ (h : suc (length gains) ≤ 0). let no : ⊥ = omega arith in no) end)
subblock_past (n ∷ durations) (part ∷ gains) (suc i) j end past =
    let more : sum (take (suc i) (n ∷ durations)) ≡ n + sum (take i durations) = sum_by-cons (λ x. x) n (take i durations) in
    let later : n ≤ j = omega arith in
    rw (le-ltb j n later) (subblock_past durations gains i (j - n) (shorter end) (omega arith))
  where
    shorter : (suc (length durations) ≤ suc i) ⊎ (suc (length gains) ≤ suc i) → (length durations ≤ i) ⊎ (length gains ≤ i)
    shorter (inl h) = inl (omega arith)
    shorter (inr h) = inr (omega arith)

-- ---- one subblock after the other

-- the gain on a line, by its ends
pub line_is : (n i j s t : ℕ) (low high : ℤ) → i ≡ j → s ≡ gain_of low → t ≡ gain_of high → (s * (n - i) + t * i) / n ≡ part_gain n (Linear low high) j
line_is n i j s t low high e f g = rw (e, f, g) refl

-- So many subblocks from the start of a block on end at tick `at`, or with the block if that ends before.
abbrev pub EndsAt : List ℕ → (i start duration at : ℕ) → Type 0
EndsAt durations i start duration at = at ≡ start + min (sum (take i durations)) duration

pub ends_next : (durations : List ℕ) (i start duration at next : ℕ) → i < length durations → EndsAt durations i start duration at → next ≡ min (start + duration) (at + get_or durations i 0)
    → EndsAt durations (i + 1) start duration next
ends_next durations i start duration at next h ends is =
    let more : sum (take (i + 1) durations) ≡ sum (take i durations) + get_or durations i 0 = sum_by_more (λ x. x) durations i 0 h in
    omega arith

-- the gain at a tick of the next subblock
pub gain_inside : (durations : List ℕ) (gains : List GainFields) (i start duration at t : ℕ) (d : GainFields) → i < length durations → i < length gains → EndsAt durations i start duration at
    → at ≤ t → t < start + duration → t < at + get_or durations i 0 → part_gain (get_or durations i 0) (get_or gains i d) (t - at) ≡ subblock_gain (zip durations gains) (t - start)
gain_inside durations gains i start duration at t d h g ends begun within going_on =
    let e : t - start ≡ sum (take i durations) + (t - at) = omega arith in
    rw e (sym (subblock_inside durations gains i (t - at) d h g (omega arith)))

-- and so by the block's parts
pub part_inside : (durations : List ℕ) (parts : List GainPart) (i start duration at t n : ℕ) (e : GainPart) → i < length durations → i < length parts → n ≡ get_or durations i 0 → EndsAt durations i start duration at
    → at ≤ t → t < start + duration → t < at + n → part_gain n (view_gain_part (get_or parts i e)) (t - at) ≡ subblock_gain (zip durations (map view_gain_part parts)) (t - start)
part_inside durations parts i start duration at t n e h g is ends begun within going_on =
    let some : i < length (map view_gain_part parts) = rw (length-map parts view_gain_part) g in
    let part : get_or (map view_gain_part parts) i (view_gain_part e) ≡ view_gain_part (get_or parts i e) = get_or-map view_gain_part parts i e (view_gain_part e) g in
    rw (is, ← part) (gain_inside durations (map view_gain_part parts) i start duration at t (view_gain_part e) h some ends begun within (omega arith))

pub gain_past : (durations : List ℕ) (gains : List GainFields) (i start duration at t : ℕ) → (length durations ≤ i) ⊎ (length gains ≤ i) → EndsAt durations i start duration at
    → at ≤ t → t < start + duration → one ≡ subblock_gain (zip durations gains) (t - start)
gain_past durations gains i start duration at t all ends past within = sym (subblock_past durations gains i (t - start) all (omega arith))
