-- Where a channel stands in coded order.
use Rattle.std.proofs.Common.{◌≡◌, ◌≢◌, ℕ, zero, suc, ◌+◌, ◌*◌, ◌-◌, ◌/◌, ◌%◌, ◌<◌, ◌≤◌, List, [], ◌∷◌, ◌++◌, length, get_or, sym, ◌∙◌, arith, refl}
use Rattle.std.proofs.lemmas.List.{get_or_append_left, get_or-append_right, get_or_default}
use Rattle.spec_layouts.specs.declared.Channel.{Channel}
use Rattle.spec_layouts.specs.Transmitted.{both_of}

length-both_of : (pairs : List (Channel × Channel)) → length (both_of pairs) ≡ 2 * length pairs
length-both_of [] = refl
length-both_of (pair ∷ pairs) = omega (arith, length-both_of pairs)

both_left : (pairs : List (Channel × Channel)) (i k : ℕ) (d : Channel × Channel) (e : Channel) → i ≡ 2 * k → k < length pairs → get_or (both_of pairs) i e ≡ (get_or pairs k d).0
both_left [] i k d e at h = absurd (omega arith)
both_left (pair ∷ pairs) i zero d e at h = let z : i ≡ 0 = omega arith in rw z refl
both_left (pair ∷ pairs) i (suc k) d e at h =
    let z : i ≡ suc (suc (2 * k)) = omega arith in rw z (both_left pairs (2 * k) k d e refl (omega arith))

both_right : (pairs : List (Channel × Channel)) (i k : ℕ) (d : Channel × Channel) (e : Channel) → i ≡ 2 * k + 1 → k < length pairs → get_or (both_of pairs) i e ≡ (get_or pairs k d).1
both_right [] i k d e at h = absurd (omega arith)
both_right (pair ∷ pairs) i zero d e at h = let z : i ≡ 1 = omega arith in rw z refl
both_right (pair ∷ pairs) i (suc k) d e at h =
    let z : i ≡ suc (suc (2 * k + 1)) = omega arith in rw z (both_right pairs (2 * k + 1) k d e refl (omega arith))

-- place i is the left channel of a pair
pub left_at : (pairs : List (Channel × Channel)) (singles : List Channel) (i : ℕ) (d : Channel × Channel) (e : Channel) → i < 2 * length pairs → i % 2 ≡ 0 → (get_or pairs (i / 2) d).0 ≡ get_or (both_of pairs ++ singles) i e
left_at pairs singles i d e h even =
    sym (get_or_append_left (both_of pairs) singles e i (omega (arith, length-both_of pairs)) ∙ both_left pairs i (i / 2) d e (omega arith) (omega arith))

-- place i is the right channel of a pair
pub right_at : (pairs : List (Channel × Channel)) (singles : List Channel) (i : ℕ) (d : Channel × Channel) (e : Channel) → i < 2 * length pairs → i % 2 ≢ 0 → (get_or pairs (i / 2) d).1 ≡ get_or (both_of pairs ++ singles) i e
right_at pairs singles i d e h odd =
    sym (get_or_append_left (both_of pairs) singles e i (omega (arith, length-both_of pairs)) ∙ both_right pairs i (i / 2) d e (omega arith) (omega arith))

-- place i is a single channel
pub single_at : (pairs : List (Channel × Channel)) (singles : List Channel) (i : ℕ) (d e : Channel) → 2 * length pairs ≤ i → i < 2 * length pairs + length singles → get_or singles (i - 2 * length pairs) d ≡ get_or (both_of pairs ++ singles) i e
single_at pairs singles i d e low high =
    get_or_default singles (i - 2 * length pairs) d e (omega arith)
    ∙ sym (get_or-append_right (both_of pairs) singles (2 * length pairs) i e (length-both_of pairs) low)
