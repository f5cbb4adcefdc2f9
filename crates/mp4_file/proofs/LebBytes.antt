-- One more byte of a leb128.
use Rattle.std.proofs.Common.{◌≡◌, ℕ, suc, ◌+◌, ◌-◌, ◌*◌, ◌/◌, ◌%◌, ◌^◌, ◌<◌, ◌≤◌, List, [], ◌∷◌, ◌++◌, refl, ap, ◌∙◌, arith, append_assoc, add-one}
use Rattle.std.proofs.Math.Nat.{mul-le-mul_right, mul_assoc, pow-succ', div-mul-le_self}
use Rattle.std.proofs.lemmas.Bool.{le-ltb, lt-ltb}
use Rattle.spec_bits.specs.Leb.{leb_within}

pub leb_next : (o : List ℕ) (i x : ℕ) → i < 4 → 128 ≤ x → (o ++ ((128 + x % 128) ∷ [])) ++ leb_within (4 - (i + 1)) (x / 128) ≡ o ++ leb_within (4 - i) x
leb_next o i x few large =
    let e : 4 - i ≡ suc (4 - (i + 1)) = omega arith in
    rw (e, le-ltb x 128 large, append_assoc) refl

-- what is left of a number becomes smaller by as much as the place rises
pub leb_room : (x i : ℕ) → x / 128 * 128 ^ (i + 1) ≤ x * 128 ^ i
leb_room x i =
    let next : 128 ^ (i + 1) ≡ 128 * 128 ^ i = ap (λ (n : ℕ). 128 ^ n) (add-one i) ∙ pow-succ' 128 i in
    let less : x / 128 * 128 * 128 ^ i ≤ x * 128 ^ i = mul-le-mul_right (128 ^ i) (div-mul-le_self x 128) in
    rw (next, ← mul_assoc (x / 128) 128 (128 ^ i)) less

-- the last byte of a leb128
pub leb_last : (o : List ℕ) (i x : ℕ) → i < 4 → x < 128 → o ++ (x ∷ []) ≡ o ++ leb_within (4 - i) x
leb_last o i x few small =
    let e : 4 - i ≡ suc (4 - (i + 1)) = omega arith in
    rw (e, lt-ltb x 128 small) refl
