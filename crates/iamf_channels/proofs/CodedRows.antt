-- Rows that hold the frames of a unit have its coded samples.
use Rattle.std.proofs.Common.{arith, ◌≡◌, ◌<◌, ◌≤◌, ◌+◌, ◌^◌, ℕ, zero, suc, ℤ, pos, List, [], ◌∷◌, ◌++◌, append_assoc, map, take, drop, length, length-append, get_or, unsigned_abs, refl, sym, ap, subst, ◌∙◌}
use Rattle.std.specs.Prelude.{sum, sum_by, IsSome}
use Rattle.std.specs.List.{All, flat_map, zip, range_with_len}
use Rattle.std.proofs.lemmas.List.Elements.{All-nil, All-cons}
use Rattle.std.proofs.lemmas.List.FromFn.{length-map-range_with_len}
use Rattle.std.proofs.lemmas.List.Sums.{sum_by-cons}
use Rattle.spec_descriptors.specs.CodecConfig.{CodecConfigFields}
use Rattle.spec_descriptors.specs.AudioElement.{AudioElementFields, substream_channels_of}
use Rattle.spec_rules.specs.Descriptors.{pairs_in}
use Rattle.spec_sequence.specs.Parts.{UnitValue}
use Rattle.spec_play.specs.CodedSamples.{frame_sample, stream_bytes, stream_samples, coded_samples}
use Rattle.spec_play.specs.Laws.{HasFrame}
use Rattle.iamf_bits.specs.Rows.{Rows, sample_of}
use Rattle.iamf_mixing.specs.Ticks.{tick_of}
use Rattle.iamf_channels.specs.Decoded.{no_rows, Holds}
use Rattle.iamf_channels.specs.Needed.{stream_channels}
use Rattle.iamf_channels.proofs.StreamCounts.{known_list}

map_same : {X : Type 0} (f g : ℕ → X) (a k : ℕ) → ((c : ℕ) → c < a + k → f c ≡ g c) → map f (range_with_len a k) ≡ map g (range_with_len a k)
map_same f g a zero e = refl
map_same f g a (suc k) e =
    let rest = map_same f g (a + 1) k (λ c h. e c (omega arith)) in
    let first = e a (omega arith) in
    cc

tick_same : (codec : CodecConfigFields) (unit : UnitValue) (id n : ℕ) (rows : Rows) → Holds codec unit id rows → n < rows.length → tick_of n rows ≡ stream_samples codec unit n (id, rows.channels)
tick_same codec unit id n rows h within = map_same (λ c. sample_of rows c n) (frame_sample codec rows.channels (stream_bytes unit id) n) 0 rows.channels (λ c there. h.samples c n (omega arith) within)

-- the rows of each substream
abbrev pub HoldAll : CodecConfigFields → UnitValue → List ℕ → List Rows → Type 0
HoldAll codec unit ids planes = (i : ℕ) → i < length planes → Holds codec unit (get_or ids i 0) (get_or planes i no_rows)

abbrev pub AreLonger : ℕ → List Rows → Type 0
AreLonger n planes = (i : ℕ) → i < length planes → n < (get_or planes i no_rows).length

-- the rows of the first substreams hold the first of the coded samples
ticks_same : (codec : CodecConfigFields) (unit : UnitValue) (n : ℕ) (ids counts : List ℕ) (planes : List Rows) → length planes ≤ length ids → map (λ (p : Rows). p.channels) planes ≡ take (length planes) counts
    → HoldAll codec unit ids planes → AreLonger n planes
    → flat_map (stream_samples codec unit n) (zip ids counts) ≡ flat_map (tick_of n) planes ++ flat_map (stream_samples codec unit n) (drop (length planes) (zip ids counts))
ticks_same codec unit n ids counts [] e known hold within = refl
ticks_same codec unit n [] counts (p ∷ planes) e known hold within = absurd (omega arith)
ticks_same codec unit n (id ∷ ids) [] (p ∷ planes) e known hold within = absurd (cc)
ticks_same codec unit n (id ∷ ids) (count ∷ counts) (p ∷ planes) e known hold within =
    let wide : p.channels ≡ count = cc in
    let others : map (λ (p : Rows). p.channels) planes ≡ take (length planes) counts = cc in
    let first = tick_same codec unit id n p (hold 0 (omega arith)) (within 0 (omega arith)) ∙ ap (λ (k : ℕ). stream_samples codec unit n (id, k)) wide in
    let rest = ticks_same codec unit n ids counts planes (omega arith) others (λ i h. hold (suc i) (omega arith)) (λ i h. within (suc i) (omega arith)) in
    let after = flat_map (stream_samples codec unit n) (drop (length planes) (zip ids counts)) in
    ap (λ (ys : List ℤ). stream_samples codec unit n (id, count) ++ ys) rest ∙ sym (append_assoc (stream_samples codec unit n (id, count)) (flat_map (tick_of n) planes) after)
    ∙ ap (λ (xs : List ℤ). (xs ++ flat_map (tick_of n) planes) ++ after) (sym first)

samples_few : (codec : CodecConfigFields) (unit : UnitValue) (n : ℕ) (ids counts : List ℕ) → length (flat_map (stream_samples codec unit n) (zip ids counts)) ≤ sum counts
samples_few codec unit n [] counts = omega arith
samples_few codec unit n (id ∷ ids) [] = omega arith
samples_few codec unit n (id ∷ ids) (count ∷ counts) =
    let rest = samples_few codec unit n ids counts in
    let first = length-map-range_with_len (frame_sample codec count (stream_bytes unit id) n) 0 count in
    let both = length-append (stream_samples codec unit n (id, count)) (flat_map (stream_samples codec unit n) (zip ids counts)) in
    let all = sum_by-cons (λ (x : ℕ). x) count counts in
    omega arith

-- those of the others
abbrev pub samples_after : CodecConfigFields → UnitValue → AudioElementFields → ℕ → ℕ → List ℤ
samples_after codec unit element n streams = flat_map (stream_samples codec unit n) (drop streams (zip element.audio_substream_ids (stream_channels element.config)))

pub coded_same : (codec : CodecConfigFields) (unit : UnitValue) (n : ℕ) (element : AudioElementFields) (planes : List Rows) → IsSome (substream_channels_of element.config) → length planes ≤ length element.audio_substream_ids
    → map (λ (p : Rows). p.channels) planes ≡ take (length planes) (stream_channels element.config) → HoldAll codec unit element.audio_substream_ids planes → AreLonger n planes
    → coded_samples codec unit element n ≡ flat_map (tick_of n) planes ++ samples_after codec unit element n (length planes)
unfolding coded_samples
coded_same codec unit n element planes known count wide hold within =
    ap (λ o. flat_map (stream_samples codec unit n) (pairs_in element.audio_substream_ids o)) (known_list (substream_channels_of element.config) known)
    ∙ ticks_same codec unit n element.audio_substream_ids (stream_channels element.config) planes count wide hold within

pub coded_few : (codec : CodecConfigFields) (unit : UnitValue) (n : ℕ) (element : AudioElementFields) → IsSome (substream_channels_of element.config) → length (coded_samples codec unit element n) ≤ sum (stream_channels element.config)
unfolding coded_samples
coded_few codec unit n element known =
    let same = known_list (substream_channels_of element.config) known in
    let few = samples_few codec unit n element.audio_substream_ids (stream_channels element.config) in
    subst (λ o. length (flat_map (stream_samples codec unit n) (pairs_in element.audio_substream_ids o)) ≤ sum (stream_channels element.config)) (sym same) few

-- ---- they have 32 bits

all_joined : (P : ℤ → Type 0) (xs ys : List ℤ) → All P xs → All P ys → All P (xs ++ ys)
all_joined P [] ys p q = q
all_joined P (x ∷ xs) ys p q = All-cons P x (xs ++ ys) (p 0 (pos 0) (omega arith)) (all_joined P xs ys (λ i d h. p (suc i) d (omega arith)) q)

all_range : (P : ℤ → Type 0) (f : ℕ → ℤ) (a k : ℕ) → ((c : ℕ) → c < a + k → P (f c)) → All P (map f (range_with_len a k))
all_range P f a zero p = All-nil P
all_range P f a (suc k) p = All-cons P (f a) (map f (range_with_len (a + 1) k)) (p a (omega arith)) (all_range P f (a + 1) k (λ c h. p c (omega arith)))

pub coded_small : (codec : CodecConfigFields) (unit : UnitValue) (n : ℕ) (ids : List ℕ) (planes : List Rows) → HoldAll codec unit ids planes → AreLonger n planes → All (λ y. unsigned_abs y ≤ 2 ^ 31) (flat_map (tick_of n) planes)
coded_small codec unit n ids planes hold within = by planes (λ i h. (hold i h).small) within
  where
    by : (planes : List Rows) → ((i : ℕ) → i < length planes → (c n : ℕ) → c < (get_or planes i no_rows).channels → n < (get_or planes i no_rows).length → unsigned_abs (sample_of (get_or planes i no_rows) c n) ≤ 2 ^ 31) → AreLonger n planes
        → All (λ y. unsigned_abs y ≤ 2 ^ 31) (flat_map (tick_of n) planes)
    by [] small within = All-nil (λ y. unsigned_abs y ≤ 2 ^ 31)
    by (p ∷ planes) small within =
        all_joined (λ y. unsigned_abs y ≤ 2 ^ 31) (tick_of n p) (flat_map (tick_of n) planes)
        (all_range (λ y. unsigned_abs y ≤ 2 ^ 31) (λ c. sample_of p c n) 0 p.channels (λ c there. small 0 (omega arith) c n (omega arith) (within 0 (omega arith))))
        (by planes (λ i h. small (suc i) (omega arith)) (λ i h. within (suc i) (omega arith)))

-- ---- how many there are

pub ticks_count : (n : ℕ) (planes : List Rows) → length (flat_map (tick_of n) planes) ≡ sum_by (λ (p : Rows). p.channels) planes
ticks_count n [] = refl
ticks_count n (p ∷ planes) =
    let rest = ticks_count n planes in
    let first = length-map-range_with_len (λ c. sample_of p c n) 0 p.channels in
    let both = length-append (tick_of n p) (flat_map (tick_of n) planes) in
    let all = sum_by-cons (λ (p : Rows). p.channels) p planes in
    omega arith

pub sum_is : (planes : List Rows) → sum (map (λ (p : Rows). p.channels) planes) ≡ sum_by (λ (p : Rows). p.channels) planes
sum_is [] = refl
sum_is (p ∷ planes) =
    let rest = sum_is planes in
    let one = sum_by-cons (λ (p : Rows). p.channels) p planes in
    let two = sum_by-cons (λ (x : ℕ). x) p.channels (map (λ (p : Rows). p.channels) planes) in
    omega arith

-- ---- frames

pub frame_at : (codec : CodecConfigFields) (unit : UnitValue) (ids counts : List ℕ) (planes : List Rows) (i : ℕ) → length planes ≤ length ids → map (λ (p : Rows). p.channels) planes ≡ take (length planes) counts
    → All (HasFrame codec unit) (zip ids counts) → i < length planes → HasFrame codec unit (get_or ids i 0, (get_or planes i no_rows).channels)
frame_at codec unit ids counts [] i e wide all h = absurd (omega arith)
frame_at codec unit [] counts (p ∷ planes) i e wide all h = absurd (omega arith)
frame_at codec unit (id ∷ ids) [] (p ∷ planes) i e wide all h = absurd (cc)
frame_at codec unit (id ∷ ids) (count ∷ counts) (p ∷ planes) zero e wide all h = let same : count ≡ p.channels = cc in subst (λ (k : ℕ). HasFrame codec unit (id, k)) same (all 0 (0, 0) (omega arith))
frame_at codec unit (id ∷ ids) (count ∷ counts) (p ∷ planes) (suc i) e wide all h =
    let others : map (λ (p : Rows). p.channels) planes ≡ take (length planes) counts = cc in
    frame_at codec unit ids counts planes i (omega arith) others (λ k d low. all (suc k) d (omega arith)) (omega arith)
