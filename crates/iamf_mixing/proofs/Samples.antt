-- Samples one after the other as bytes.
use Rattle.std.proofs.Common.{arith, ◌≡◌, ◌<◌, ◌≤◌, ◌+◌, ◌*◌, ◌/◌, ℕ, zero, suc, ℤ, pos, refl, sym, ap, ◌∙◌, List, [], ◌∷◌, ◌++◌, length, get_or, map, take, drop, append_assoc, append-nil, length-append, take-append-drop}
use Rattle.std.specs.List.{flat_map, range_with_len}
use Rattle.std.proofs.Math.ListN.{set}
use Rattle.std.proofs.lemmas.List.FromFn.{length-map-range_with_len, map-range_with_len_more}
use Rattle.std.specs.Int.{bytes_low_first}
use Rattle.spec_bits.specs.Bits.{unsigned_of}
use Rattle.std.proofs.lemmas.List.{take_more, take_at, length-take-le, drop_more, set_at}
use Rattle.std.proofs.lemmas.List.Concat.{flat_map-append}
use Rattle.std.proofs.Math.Nat.{mul-le-mul_right}
use Rattle.spec_demix.specs.Rounding.{clipped, rounded}
use Rattle.spec_waves.specs.Wave.{sample_bytes}
use Rattle.iamf_mixing.specs.Bytes.{mixed_bytes}

-- the bytes up to the end of what was put at a place
pub taken_past : (at n : ℕ) (before put after : List ℕ) → at ≤ length before → length put ≡ n → take (at + n) (take at before ++ (put ++ after)) ≡ take at before ++ put
taken_past at n before put after h k =
    let joined : take at before ++ (put ++ after) ≡ (take at before ++ put) ++ after = sym (append_assoc (take at before) put after) in
    let long : length (take at before ++ put) ≡ at + n = length-append (take at before) put ∙ ap (λ m. m + length put) (length-take-le at before h) ∙ ap (λ m. at + m) k in
    ap (take (at + n)) joined ∙ take_at (take at before ++ put) after (at + n) long

pub flat_map_more_of : {X A : Type 0} (f : X → List A) (xs : List X) (i : ℕ) (d : X) → i < length xs → flat_map f (take (i + 1) xs) ≡ flat_map f (take i xs) ++ f (get_or xs i d)
flat_map_more_of f xs i d h =
    ap (flat_map f) (take_more xs i d h) ∙ flat_map-append f (take i xs) (get_or xs i d ∷ []) ∙ ap (λ ys. flat_map f (take i xs) ++ ys) (append-nil (f (get_or xs i d)))

length-low : (i k n : ℕ) → length (bytes_low_first i k n) ≡ k
length-low i zero n = refl
length-low i (suc k) n = ap suc (length-low (suc i) k n)

-- the next of some samples of so many bytes each
pub put_more : (depth i size : ℕ) (mixed : List ℤ) (before after : List ℕ) (z : ℤ) → size ≡ depth / 8 → i < length mixed → length before ≡ length mixed * (depth / 8) → z ≡ clipped depth (rounded (get_or mixed i (pos 0)))
    → after ≡ take (i * size) before ++ (sample_bytes depth z ++ drop (i * size + depth / 8) before) → take (i * size) before ≡ flat_map (mixed_bytes depth) (take i mixed)
    → take ((i + 1) * size) after ≡ flat_map (mixed_bytes depth) (take (i + 1) mixed)
put_more depth i size mixed before after z size_is h long value put done =
    let at = i * size in
    let low : i * (depth / 8) ≤ length mixed * (depth / 8) = mul-le-mul_right (depth / 8) (omega arith) in
    let room : at ≤ length before = rw size_is (omega arith) in
    let next : (i + 1) * size ≡ at + size = omega arith in
    let count = length-low 0 (depth / 8) (unsigned_of depth z) in
    let bytes : length (sample_bytes depth z) ≡ size = count ∙ sym size_is in
    rw (next, put) (taken_past at size before (sample_bytes depth z) (drop (at + depth / 8) before) room bytes
    ∙ ap (λ ys. ys ++ sample_bytes depth z) done ∙ ap (λ v. flat_map (mixed_bytes depth) (take i mixed) ++ sample_bytes depth v) value
    ∙ sym (flat_map_more_of (mixed_bytes depth) mixed i (pos 0) h))

-- ---- the samples of a tick

-- the next of the values of a function, which are put at a place and those after it
pub tick_more : (before row : List ℤ) (at c : ℕ) (f : ℕ → ℤ) (z : ℤ) → at + c < length before → row ≡ take at before ++ (map f (range_with_len 0 c) ++ drop (at + c) before) → z ≡ f c
    → set row (at + c) z ≡ take at before ++ (map f (range_with_len 0 (c + 1)) ++ drop (at + (c + 1)) before)
tick_more before row at c f z h is value =
    let front = take at before in
    let done = map f (range_with_len 0 c) in
    let rest = drop (at + c + 1) before in
    let y = get_or before (at + c) (pos 0) in
    let split : row ≡ (front ++ done) ++ y ∷ rest = is ∙ ap (λ ys. front ++ (done ++ ys)) (drop_more before (at + c) (pos 0) h) ∙ sym (append_assoc front done (y ∷ rest)) in
    let long : length (front ++ done) ≡ at + c = length-append front done ∙ ap (λ m. m + length done) (length-take-le at before (omega arith)) ∙ ap (λ m. at + m) (length-map-range_with_len f 0 c) in
    let next : map f (range_with_len 0 (c + 1)) ≡ done ++ f c ∷ [] = map-range_with_len_more f 0 c c (omega arith) in
    let on : at + c + 1 ≡ at + (c + 1) = omega arith in
    ap (λ r. set r (at + c) z) split ∙ set_at (front ++ done) y rest z (at + c) long ∙ append_assoc front done (z ∷ rest)
    ∙ ap (λ ys. front ++ ys) (sym (append_assoc done (z ∷ []) rest)) ∙ ap (λ w. front ++ ((done ++ w ∷ []) ++ rest)) value ∙ ap (λ ys. front ++ (ys ++ rest)) (sym next)
    ∙ ap (λ k. front ++ (map f (range_with_len 0 (c + 1)) ++ drop k before)) on

tick_of_none : (before : List ℤ) (at : ℕ) (f : ℕ → ℤ) → before ≡ take at before ++ (map f (range_with_len 0 0) ++ drop (at + 0) before)
tick_of_none before at f = let same : at ≡ at + 0 = omega arith in sym (take-append-drop at before) ∙ ap (λ k. take at before ++ drop k before) same

pub tick_of_one : (before : List ℤ) (at : ℕ) (f : ℕ → ℤ) (z : ℤ) → at < length before → z ≡ f 0 → set before at z ≡ take at before ++ (map f (range_with_len 0 1) ++ drop (at + 1) before)
tick_of_one before at f z h value =
    let same : at ≡ at + 0 = omega arith in
    ap (λ k. set before k z) same ∙ tick_more before before at 0 f z (omega arith) (tick_of_none before at f) value

pub tick_of_two : (before : List ℤ) (at : ℕ) (f : ℕ → ℤ) (y z : ℤ) → at + 1 < length before → y ≡ f 0 → z ≡ f 1 → set (set before at y) (at + 1) z ≡ take at before ++ (map f (range_with_len 0 2) ++ drop (at + 2) before)
tick_of_two before at f y z h first second = tick_more before (set before at y) at 1 f z h (tick_of_one before at f y (omega arith) first) second
